-- The lines after a form: blank ones are expected, and the first that isn't blank is refused.
use Rattle.std.proofs.Common.{◌≡◌, ℕ, zero, suc, ◌+◌, ◌-◌, ◌<◌, Bool, true, false, cond, Some, None, List, [], ◌∷◌, drop, refl, sym, ap, subst, ◌∙◌, arith}
use Rattle.std.proofs.lemmas.List.{get_or-drop}
use Rattle.calc_input.specs.Lines.{is_blank_line, line_at}
use Rattle.calc_input.specs.Forms.{first_used}
use Rattle.calc_input.specs.RefusedLine.{line_numbered}

-- the first line that isn't blank, by its index among these lines
pub record IsUsedAt (lines : List (List ℕ)) (index : ℕ) : Type 0 where
  pub before : (earlier : ℕ) → earlier < index → is_blank_line (line_at lines earlier) ≡ true
  pub here : is_blank_line (line_at lines index) ≡ false

-- a blank line before them
used_after : (line : List ℕ) (lines : List (List ℕ)) (index : ℕ) → is_blank_line line ≡ true → IsUsedAt lines index → IsUsedAt (line ∷ lines) (suc index)
used_after line lines index blank used = record { before = before; here = used.here }
  where
    before : (earlier : ℕ) → earlier < suc index → is_blank_line (line_at (line ∷ lines) earlier) ≡ true
    before zero within = blank
    before (suc earlier) within = used.before earlier (omega arith)

-- the search finds the first line that isn't blank
pub found_used : (lines : List (List ℕ)) (number found : ℕ) → first_used number lines ≡ Some found → (index : ℕ) × (found ≡ number + index) × IsUsedAt lines index
found_used [] number found is = cc
found_used (line ∷ lines) number found is = by (is_blank_line line) refl is (found_used lines (number + 1) found)
  where
    by : (b : Bool) → is_blank_line line ≡ b → cond b (first_used (number + 1) lines) (Some number) ≡ Some found →
        (first_used (number + 1) lines ≡ Some found → (index : ℕ) × (found ≡ number + 1 + index) × IsUsedAt lines index) →
        (index : ℕ) × (found ≡ number + index) × IsUsedAt (line ∷ lines) index
    by true blank found_is after =
        let more = after found_is in
        (suc more.0, omega (arith, more.1), used_after line lines more.0 blank more.2)
    by false used found_is after =
        let same : number ≡ found = cc in
        (zero, omega arith, record { before = λ earlier within. absurd (omega arith); here = used })

-- if it finds none, each line is blank
pub all_blank : (lines : List (List ℕ)) (number : ℕ) → first_used number lines ≡ None → (index : ℕ) → is_blank_line (line_at lines index) ≡ true
all_blank [] number none index = refl
all_blank (line ∷ lines) number none index = by (is_blank_line line) refl none (all_blank lines (number + 1)) index
  where
    by : (b : Bool) → is_blank_line line ≡ b → cond b (first_used (number + 1) lines) (Some number) ≡ None →
        (first_used (number + 1) lines ≡ None → (i : ℕ) → is_blank_line (line_at lines i) ≡ true) → (index : ℕ) → is_blank_line (line_at (line ∷ lines) index) ≡ true
    by true blank none_left after zero = blank
    by true blank none_left after (suc index) = after none_left index
    by false used none_left after index = cc

-- the line with a number after the first `last`, among the lines after these
line_after : (lines : List (List ℕ)) (last number : ℕ) → last < number → line_at (drop last lines) (number - (last + 1)) ≡ line_numbered lines number
line_after lines last number late =
    let at : last + (number - (last + 1)) ≡ number - 1 = omega arith in
    get_or-drop last lines (number - (last + 1)) [] ∙ ap (line_at lines) at

-- The first line after the first `last` that isn't blank: the lines between are blank.
pub record IsUsedAfter (lines : List (List ℕ)) (last number : ℕ) : Type 0 where
  pub late : last < number
  pub before : (earlier : ℕ) → last < earlier → earlier < number → is_blank_line (line_numbered lines earlier) ≡ true
  pub here : is_blank_line (line_numbered lines number) ≡ false

-- the first line that is not blank, counted from the end of the form, is that line of the input
pub used_after_form : (lines : List (List ℕ)) (last number : ℕ) → first_used (last + 1) (drop last lines) ≡ Some number → IsUsedAfter lines last number
used_after_form lines last number is =
    let found = found_used (drop last lines) (last + 1) number is in
    let late : last < number = omega (arith, found.1) in
    let index : found.0 ≡ number - (last + 1) = omega (arith, found.1) in
    let P : ℕ → Type 0 = λ i. IsUsedAt (drop last lines) i in
    let used : IsUsedAt (drop last lines) (number - (last + 1)) = subst P index found.2 in
    record {
      late = late;
      before = λ earlier after within.
          sym (ap is_blank_line (line_after lines last earlier after)) ∙ used.before (earlier - (last + 1)) (omega arith);
      here = sym (ap is_blank_line (line_after lines last number late)) ∙ used.here;
    }

-- if none exists, each line after them is blank
pub blank_after_form : (lines : List (List ℕ)) (last : ℕ) → first_used (last + 1) (drop last lines) ≡ None →
    (number : ℕ) → last < number → is_blank_line (line_numbered lines number) ≡ true
blank_after_form lines last none number late =
    sym (ap is_blank_line (line_after lines last number late)) ∙ all_blank (drop last lines) (last + 1) none (number - (last + 1))
