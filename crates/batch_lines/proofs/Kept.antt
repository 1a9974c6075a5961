-- What is kept of a line that becomes longer.
use Rattle.std.specs.declared.vec.Vec.{Vec}
use Rattle.std.specs.Vec.{with_items}
use Rattle.std.proofs.Common.{◌≡◌, ℕ, ◌+◌, ◌-◌, ◌≤◌, ◌<◌, nat_lt, if◌then◌else◌, Option, None, Some, List, ◌++◌, length, take, drop, sym, ap, ◌∙◌, arith, true, false, length-append, append_assoc}
use Rattle.std.proofs.lemmas.Bool.Decides.{nat_tests}
use Rattle.std.proofs.lemmas.List.{take_at, length-take-le, length-drop, with_items_is}
use Rattle.batch_lines.specs.declared.limits.TheConstants.{MOST_REQUEST_LINE_BYTES}
use Rattle.batch_lines.specs.Reader.{kept}

-- what a buffer shows of a line of this length
abbrev pub shown : ℕ → List ℕ → Option (List ℕ)
shown length buffer = if nat_lt MOST_REQUEST_LINE_BYTES length then None else Some (take length buffer)

-- a short line is kept
kept_short : (line : List ℕ) → length line ≤ MOST_REQUEST_LINE_BYTES → kept line ≡ Some line
kept_short line short = let test : nat_lt MOST_REQUEST_LINE_BYTES (length line) ≡ false = grind (arith, nat_tests) in rw test

-- a long line isn't kept
kept_long : (line : List ℕ) → MOST_REQUEST_LINE_BYTES < length line → kept line ≡ None
kept_long line long = let test : nat_lt MOST_REQUEST_LINE_BYTES (length line) ≡ true = grind (arith, nat_tests) in rw test

-- of a short line a buffer shows its first bytes
shown_short : (n : ℕ) (buffer : List ℕ) → n ≤ MOST_REQUEST_LINE_BYTES → shown n buffer ≡ Some (take n buffer)
shown_short n buffer short = let test : nat_lt MOST_REQUEST_LINE_BYTES n ≡ false = grind (arith, nat_tests) in rw test

-- of a long line a buffer shows nothing
shown_long : (n : ℕ) (buffer : List ℕ) → MOST_REQUEST_LINE_BYTES < n → shown n buffer ≡ None
shown_long n buffer long = let test : nat_lt MOST_REQUEST_LINE_BYTES n ≡ true = grind (arith, nat_tests) in rw test

-- a text written after the first bytes of a line is kept with them
pub kept_on : (buffer line text rest : List ℕ) (before count : ℕ) →
    before ≡ length line → count ≡ length text → before ≤ length buffer → before + count ≤ MOST_REQUEST_LINE_BYTES →
    shown before buffer ≡ kept line → shown (before + count) (take before buffer ++ (text ++ rest)) ≡ kept (line ++ text)
kept_on buffer line text rest before count before_is count_is room short holds =
    let was : Some (take before buffer) ≡ Some line =
    sym (shown_short before buffer (omega arith)) ∙ holds ∙ kept_short line (omega arith) in
    let line_is : take before buffer ≡ line = cc in
    let whole : take (before + count) ((line ++ text) ++ rest) ≡ line ++ text =
    take_at (line ++ text) rest (before + count) (omega (arith, length-append line text)) in
    shown_short (before + count) _ short
    ∙ ap (λ t. Some (take (before + count) (t ++ (text ++ rest)))) line_is
    ∙ ap (λ t. Some (take (before + count) t)) (sym (append_assoc line text rest))
    ∙ ap Some whole
    ∙ sym (kept_short (line ++ text) (omega (arith, length-append line text)))

-- nothing is kept of a line that became too long
pub dropped_on : (buffer line text : List ℕ) (before count : ℕ) →
    before ≡ length line → count ≡ length text → MOST_REQUEST_LINE_BYTES < before + count → shown (before + count) buffer ≡ kept (line ++ text)
dropped_on buffer line text before count before_is count_is long =
    shown_long (before + count) buffer long ∙ sym (kept_long (line ++ text) (omega (arith, length-append line text)))

-- a buffer keeps its length where a text is written into it
written_length : (buffer text : List ℕ) (before count : ℕ) → count ≡ length text → before + count ≤ length buffer →
    length (take before buffer ++ (text ++ drop (before + count - before) (drop before buffer))) ≡ length buffer
written_length buffer text before count count_is room =
    let rest = drop (before + count - before) (drop before buffer) in
    omega (
      arith,
      length-append (take before buffer) (text ++ rest),
      length-append text rest,
      length-take-le before buffer (omega arith),
      length-drop (before + count - before) (drop before buffer),
      length-drop before buffer,
    )

-- a text written into a Vec after the first bytes of a line is kept with them
pub kept_written : {A : Type 0} (vec : Vec ℕ A) (line text : List ℕ) (before count : ℕ) →
    before ≡ length line → count ≡ length text → length vec.items ≡ vec.len → before + count ≤ length vec.items →
    before + count ≤ MOST_REQUEST_LINE_BYTES →
    shown before vec.items ≡ kept line →
    shown (before + count) (with_items vec (take before vec.items ++ (text ++ drop (before + count - before) (drop before vec.items)))).items ≡ kept (line ++ text)
kept_written vec line text before count before_is count_is len_is room short holds =
    let rest = drop (before + count - before) (drop before vec.items) in
    let written = with_items_is vec (take before vec.items ++ (text ++ rest)) (written_length vec.items text before count count_is room ∙ len_is) in
    ap (λ t. shown (before + count) t) written ∙ kept_on vec.items line text rest before count before_is count_is (omega arith) short holds
