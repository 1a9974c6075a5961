-- Lines within the limits of a batch, and what follows them.
use Rattle.std.proofs.Common.{◌≡◌, ◌≢◌, ℕ, ◌+◌, ◌<◌, ◌≤◌, ◌==◌, ◌||◌, nat_lt, Bool, true, false, List, [], ◌∷◌, ◌++◌, length, refl, ap, ap₂, length-append, subst, arith}
use Rattle.std.proofs.lemmas.Bool.{eq-eqb, le-ltb, lt-ltb, ne_eqb}
use Rattle.farm_history.specs.History.{History}
use Rattle.batch_lines.specs.declared.limits.TheConstants.{LINE_FEED, MOST_BYTES}
use Rattle.batch_lines.specs.Lines.{ended}
use Rattle.farm_batch.specs.declared.batch.BatchEnd.{BatchEnd}
use Rattle.farm_batch.specs.declared.batch.BatchEnd.TheVariants.{Done, Long}
use Rattle.farm_batch.specs.declared.limits.TheConstants.{MOST_LINES}
use Rattle.farm_batch.specs.Outcomes.{ends_here, is_no_line, is_too_much, outcome_from, size_of}
use Rattle.farm_batch.proofs.LineParts.{size_before, some_before, some_line}

-- if this many lines and bytes are before them, these parts are lines within the limits, and other parts follow them
abbrev pub Fits : ℕ → ℕ → List (List ℕ) → List (List ℕ) → Type 0
Fits lines passed [] more = Unit {0}
Fits lines passed (line ∷ later) more =
    (is_no_line line (later ++ more) ≡ false) × (is_too_much lines passed (size_of line (later ++ more)) ≡ false)
    × Fits (lines + 1) (passed + size_of line (later ++ more)) later more

-- after these lines, the parts that follow them end a batch so, whatever its history
abbrev pub EndsAfter : ℕ → BatchEnd → ℕ → ℕ → List (List ℕ) → List (List ℕ) → Type 0
EndsAfter limit end lines passed [] more = (history : History) → outcome_from limit history lines passed more ≡ ends_here end
EndsAfter limit end lines passed (line ∷ later) more = EndsAfter limit end (lines + 1) (passed + size_of line (later ++ more)) later more

-- a line isn't too much if fewer lines than may be are before it, and not more bytes than may be with it
within_limits : (lines passed size : ℕ) → lines + 1 ≤ MOST_LINES → passed + size ≤ MOST_BYTES → is_too_much lines passed size ≡ false
within_limits lines passed size few short =
    let less : lines ≢ MOST_LINES = omega arith in
    ap₂ (λ first second. first || second) (ne_eqb lines MOST_LINES less) (le-ltb MOST_BYTES (passed + size) short)

-- the bytes of lines are those of the first one, its line feed and those of the later ones
ended_more : (line : List ℕ) (later : List (List ℕ)) → length (ended (line ∷ later)) ≡ length line + 1 + length (ended later)
ended_more line later = omega (arith, length-append (line ++ LINE_FEED ∷ []) (ended later), length-append line (LINE_FEED ∷ []))

-- lines and a part after them are some
some_after : (later : List (List ℕ)) (next : List ℕ) (others : List (List ℕ)) → 0 < length (later ++ next ∷ others)
some_after later next others = omega (arith, length-append later (next ∷ others))

-- lines that line feeds end are within the limits if all their bytes are
pub ended_fit : (lines passed : ℕ) (items : List (List ℕ)) (next : List ℕ) (others : List (List ℕ)) →
    lines + length items ≤ MOST_LINES → passed + length (ended items) ≤ MOST_BYTES → Fits lines passed items (next ∷ others)
ended_fit lines passed [] next others few short = tt
ended_fit lines passed (line ∷ later) next others few short =
    let some = some_after later next others in
    let size = size_before line (later ++ next ∷ others) some in
    let more = ended_more line later in (
      some_before line (later ++ next ∷ others) some,
      within_limits lines passed (size_of line (later ++ next ∷ others)) (omega arith) (omega arith),
      ended_fit (lines + 1) (passed + size_of line (later ++ next ∷ others)) later next others (omega arith) (omega arith),
    )

-- lines whose last one has no line feed after it are within the limits if all their bytes are
pub last_fits : (lines passed : ℕ) (front : List (List ℕ)) (last : List ℕ) → last ≢ [] →
    lines + length front + 1 ≤ MOST_LINES → passed + length (ended front) + length last ≤ MOST_BYTES → Fits lines passed (front ++ last ∷ []) []
last_fits lines passed [] last filled few short =
    (some_line last [] filled, within_limits lines passed (length last) (omega arith) (omega arith), tt)
last_fits lines passed (line ∷ later) last filled few short =
    let some : 0 < length ((later ++ last ∷ []) ++ []) = omega (arith, length-append (later ++ last ∷ []) [], some_after later last []) in
    let size = size_before line ((later ++ last ∷ []) ++ []) some in
    let more = ended_more line later in (
      some_before line ((later ++ last ∷ []) ++ []) some,
      within_limits lines passed (size_of line ((later ++ last ∷ []) ++ [])) (omega arith) (omega arith),
      last_fits (lines + 1) (passed + size_of line ((later ++ last ∷ []) ++ [])) later last filled (omega arith) (omega arith),
    )

-- after lines that line feeds end, as many lines and bytes are before what follows them
pub ends_after : (limit : ℕ) (end : BatchEnd) (lines passed : ℕ) (items : List (List ℕ)) (next : List ℕ) (others : List (List ℕ)) →
    ((history : History) → outcome_from limit history (lines + length items) (passed + length (ended items)) (next ∷ others) ≡ ends_here end) →
    EndsAfter limit end lines passed items (next ∷ others)
ends_after limit end lines passed [] next others ends =
    let P : ℕ → ℕ → Type 0 = λ count bytes. (history : History) → outcome_from limit history count bytes (next ∷ others) ≡ ends_here end in
    subst (λ count. P count passed) (omega arith) (subst (λ bytes. P (lines + 0) bytes) (omega arith) ends)
ends_after limit end lines passed (line ∷ later) next others ends =
    let size = size_before line (later ++ next ∷ others) (some_after later next others) in
    let more = ended_more line later in
    let P : ℕ → ℕ → Type 0 = λ count bytes. (history : History) → outcome_from limit history count bytes (next ∷ others) ≡ ends_here end in
    let count : lines + length (line ∷ later) ≡ (lines + 1) + length later = omega arith in
    let bytes : passed + length (ended (line ∷ later)) ≡ (passed + size_of line (later ++ next ∷ others)) + length (ended later) = omega arith in
    ends_after limit end (lines + 1) (passed + size_of line (later ++ next ∷ others)) later next others
    (subst (λ n. P n ((passed + size_of line (later ++ next ∷ others)) + length (ended later))) count (subst (λ n. P (lines + length (line ∷ later)) n) bytes ends))

-- after the last part a batch is done
pub done_after : (limit lines passed : ℕ) (items : List (List ℕ)) → EndsAfter limit Done lines passed items []
unfolding outcome_from
done_after limit lines passed [] = λ history. refl
done_after limit lines passed (line ∷ later) = done_after limit (lines + 1) (passed + size_of line (later ++ [])) later

-- before a last part that is empty a batch is done
pub done_at_end : (limit : ℕ) (history : History) (lines passed : ℕ) → outcome_from limit history lines passed ([] ∷ []) ≡ ends_here Done
unfolding outcome_from
done_at_end limit history lines passed = refl

-- at a line that is too much a batch ends, by the number of that line
pub long_at : (limit : ℕ) (history : History) (lines passed : ℕ) (part : List ℕ) (parts : List (List ℕ)) → is_no_line part parts ≡ false →
    is_too_much lines passed (size_of part parts) ≡ true → outcome_from limit history lines passed (part ∷ parts) ≡ ends_here (Long (lines + 1))
unfolding outcome_from
long_at limit history lines passed part parts some long = rw (some, long) refl

-- the line after the most lines is too many
pub line_too_many : (lines passed size : ℕ) → lines ≡ MOST_LINES → is_too_much lines passed size ≡ true
line_too_many lines passed size all = ap (λ first. first || nat_lt MOST_BYTES (passed + size)) (eq-eqb lines MOST_LINES all)

-- a line beyond the most bytes is too much
pub byte_too_many : (lines passed size : ℕ) → MOST_BYTES < passed + size → is_too_much lines passed size ≡ true
byte_too_many lines passed size beyond = by (lines == MOST_LINES)
  where
    long : nat_lt MOST_BYTES (passed + size) ≡ true
    long = lt-ltb MOST_BYTES (passed + size) beyond

    by : (first : Bool) → (first || nat_lt MOST_BYTES (passed + size)) ≡ true
    by true = refl
    by false = long
