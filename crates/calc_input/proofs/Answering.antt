-- What an input is answered, by its length and its form.
use Rattle.std.proofs.Common.{◌≡◌, ℕ, ◌+◌, ◌<◌, ◌≤◌, ◌==◌, ◌++◌, cond, count_by, length, length-append, List, Result, Ok, Err, sym, ap, ◌∙◌, arith}
use Rattle.std.proofs.lemmas.List.{take-append-le}
use Rattle.std.specs.Result.{IfOk}
use Rattle.farm_base.proofs.BoolTests.{le-ltb, lt-ltb}
use Rattle.farm_fixed.specs.declared.records.Quantities.{Quantities}
use Rattle.calc_input.specs.declared.forms.Input.{Input}
use Rattle.calc_input.specs.declared.refusal.Cause.TheVariants.{Form}
use Rattle.calc_input.specs.declared.refusal.Refused.{Refused}
use Rattle.calc_input.specs.Lines.{lines_of}
use Rattle.calc_input.specs.Forms.{form_of}
use Rattle.calc_input.specs.declared.answer.TheConstants.{MOST_INPUT_BYTES}
use Rattle.calc_input.specs.Answer.{FrontDecides, answer_of, answer_of_form, earlier_line, figures_of_form, figures_or_refused, last_line, over_line, refused_at}

-- an input up to the limit is answered by its form
pub answered_by_form : (bytes : List ℕ) → length bytes ≤ MOST_INPUT_BYTES → answer_of bytes ≡ answer_of_form (form_of (lines_of bytes))
unfolding answer_of
answered_by_form bytes short =
    ap (λ b. cond b (Err (refused_at (over_line bytes) Form)) (answer_of_form (form_of (lines_of bytes)))) (le-ltb MOST_INPUT_BYTES (length bytes) short)

-- and by its figures, once its form is known
pub answered_by_figures : (bytes : List ℕ) (input : Input) → length bytes ≤ MOST_INPUT_BYTES → form_of (lines_of bytes) ≡ Ok input →
    answer_of bytes ≡ figures_or_refused (last_line input) (figures_of_form input)
answered_by_figures bytes input short form = answered_by_form bytes short ∙ ap answer_of_form form

-- figures of an answer are those of an equal one
pub figures_along : {E : Type 0} (result : Result Quantities E) (mine other : Result Quantities Refused) → mine ≡ other →
    IfOk result (λ figures. other ≡ Ok figures) → IfOk result (λ figures. mine ≡ Ok figures)
figures_along (Ok figures) mine other same known = same ∙ known
figures_along (Err e) mine other same known = tt

-- an input over the limit is refused for its form, whatever comes after it
refused_over : (bytes : List ℕ) → MOST_INPUT_BYTES < length bytes → answer_of bytes ≡ Err (refused_at (over_line bytes) Form)
unfolding answer_of
refused_over bytes over =
    ap (λ b. cond b (Err (refused_at (over_line bytes) Form)) (answer_of_form (form_of (lines_of bytes)))) (lt-ltb MOST_INPUT_BYTES (length bytes) over)

-- at a line that the bytes up to the limit alone decide
same_line_over : (front rest : List ℕ) → MOST_INPUT_BYTES ≤ length front → over_line (front ++ rest) ≡ over_line front
unfolding over_line
same_line_over front rest long =
    ap (λ bytes. earlier_line (count_by (λ byte. byte == 10) bytes + 1) (form_of (lines_of bytes))) (take-append-le MOST_INPUT_BYTES front rest long)

-- an input over the limit is answered as its prefix over the limit is
pub front_decides : FrontDecides
front_decides front rest over =
    let whole : MOST_INPUT_BYTES < length (front ++ rest) = omega (arith, over, length-append front rest) in
    refused_over (front ++ rest) whole ∙ ap (λ line. Err (refused_at line Form)) (same_line_over front rest (omega arith)) ∙ sym (refused_over front over)
