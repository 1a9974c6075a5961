-- A text in parts at a separator, and the lines of an input one after another.
use Rattle.std.proofs.Common.{◌≡◌, ℕ, ◌+◌, ◌==◌, Bool, true, false, nat_lt, cond, Some, None, take, drop, List, [], ◌∷◌, length, ◌-◌, length-drop, ◌<◌, ◌≤◌, refl, subst, arith}
use Rattle.std.proofs.lemmas.List.{take_all}
use Rattle.std.proofs.lemmas.List.Splits.{length-slice_split, slice_split_first, slice_split_none}
use Rattle.std.proofs.lemmas.List.Sums.{count_by-le-length, fails_before_first}
use Rattle.std.specs.List.{position, position_or_len}
use Rattle.std.specs.Str.Lines.{strip_carriage_return}
use Rattle.farm_base.proofs.BoolTests.{ltb-false, ltb-true}
use Rattle.farm_base.specs.Bytes.{parts_at}
use Rattle.calc_input.specs.Lines.{ended_lines, lines_of}

-- the first line feed is within, if one exists
found_within : (n m : ℕ) (b : Bool) (end : ℕ) → nat_lt n m ≡ b → cond b (Some n) None ≡ Some end → (n ≡ end) × (n < m)
found_within n m true end test found = let same : n ≡ end = cc in (same, ltb-true n m test)
found_within n m false end test found = cc

-- a place that is not taken as one below a bound is at the bound or beyond
found_nowhere : (n m : ℕ) (b : Bool) → nat_lt n m ≡ b → cond b (Some n) None ≡ None → m ≤ n
found_nowhere n m true test none = cc
found_nowhere n m false test none = ltb-false n m test

-- a text with a separator
pub parts_split : (separator : ℕ) (bytes : List ℕ) (end : ℕ) → position (λ byte. byte == separator) bytes ≡ Some end →
    (end < length bytes) × (parts_at separator bytes ≡ take end bytes ∷ parts_at separator (drop (end + 1) bytes))
parts_split separator bytes end found =
    let first = position_or_len (λ byte. byte == separator) bytes in
    let within = found_within first (length bytes) (nat_lt first (length bytes)) end refl found in
    let P : ℕ → Type 0 = λ k. (k < length bytes) × (parts_at separator bytes ≡ take k bytes ∷ parts_at separator (drop (k + 1) bytes)) in
    subst P within.0 (within.1, slice_split_first (λ byte. byte == separator) bytes 0 within.1)

-- a text without one
pub parts_whole : (separator : ℕ) (bytes : List ℕ) → position (λ byte. byte == separator) bytes ≡ None → parts_at separator bytes ≡ bytes ∷ []
parts_whole separator bytes none =
    let first = position_or_len (λ byte. byte == separator) bytes in
    let past = found_nowhere first (length bytes) (nat_lt first (length bytes)) refl none in
    slice_split_none (λ byte. byte == separator) bytes (λ k d within. fails_before_first (λ byte. byte == separator) bytes k d (omega (arith, past, within)))

-- an input has one part at least
parts_after : (line : List ℕ) (parts : List (List ℕ)) → 0 < length parts → ended_lines (line ∷ parts) ≡ strip_carriage_return line ∷ ended_lines parts
parts_after line [] some = absurd (omega arith)
parts_after line (part ∷ parts) some = refl

-- a line that is ended by a line feed
pub ended_line_first : (line after : List ℕ) → ended_lines (line ∷ parts_at 10 after) ≡ strip_carriage_return line ∷ ended_lines (parts_at 10 after)
ended_line_first line after = parts_after line (parts_at 10 after) (omega (arith, length-slice_split (λ byte. byte == 10) after))

-- what follows n bytes, as a range gives it
pub whole_rest : (n : ℕ) (bytes : List ℕ) → take (length bytes - n) (drop n bytes) ≡ drop n bytes
whole_rest n bytes = take_all (length bytes - n) (drop n bytes) (omega (arith, length-drop n bytes))

-- each part is a line
length-ended_lines : (parts : List (List ℕ)) → length (ended_lines parts) ≡ length parts
length-ended_lines [] = refl
length-ended_lines (part ∷ parts) = omega (arith, length-ended_lines parts)

-- an input has at most one more line than bytes
pub few_lines : (bytes : List ℕ) → length (lines_of bytes) ≤ length bytes + 1
unfolding lines_of
few_lines bytes =
    omega (arith, length-ended_lines (parts_at 10 bytes), length-slice_split (λ byte. byte == 10) bytes, count_by-le-length (λ byte. byte == 10) bytes)
