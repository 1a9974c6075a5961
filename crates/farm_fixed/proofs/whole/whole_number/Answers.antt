-- Answers to the open goals of `whole_number`.
use Rattle.std.proofs.Common.{◌<◌, ◌≤◌, length, arith, ap, sym, ◌∙◌, subst, Some, rules, w64}
use mir.Val.{SFits}
use Rattle.std.proofs.lemmas.Int.{to_z-of_z}
use Rattle.farm_fixed.specs.Numerals.{IsDigitRun}
use Rattle.farm_fixed.specs.Text.{signed}
use Rattle.farm_fixed.specs.Whole.{are_digits}
use Rattle.farm_fixed.proofs.WholeLaws.{not_digits, whole_number-none, whole_number-some}
use Rattle.farm_fixed.proofs.whole.whole_number.Goals as goal

pub returns-then-run-eq0 : goal.returns-then-run-eq0
returns-then-run-eq0 c =
    let run = c.digit_run-run.result in
    let digits = c.unsigned_text-digits.result.now in
    let out : 0 < run.count → length digits ≤ run.count → run.count ≤ 18 → ⊥ = λ some all few. omega (arith, c.then-run-eq0.either) in
    record { whole_number = sym (whole_number-none c.args.text.now (ap are_digits (sym c.unsigned_text-digits.ensures) ∙ not_digits digits run c.digit_run-run.ensures out)) }

pub returns : goal.returns
returns c =
    let run = c.digit_run-run.result in
    let digits = c.unsigned_text-digits.ensures in
    let is = subst (λ t. IsDigitRun 0 t run) digits c.digit_run-run.ensures in
    let read = whole_number-some c.args.text.now run is (omega arith) (omega (arith, ap length digits)) c.if-run-gt-MOST_DIGITS.false in
    let value = c.with_sign.ensures ∙ ap (λ b. signed b run.value) c.is_negative.ensures in
    let in_word : SFits w64 c.with_sign.result = search rules in
    record { whole_number = simp to_z-of_z (ap Some value ∙ sym read) }
