-- Answers to the open goals of `number_within`.
use Rattle.std.proofs.Common.{◌≡◌, ◌<◌, ◌≤◌, true, length, ap, arith, sym, ◌∙◌}
use Rattle.std.proofs.lemmas.Bool.Decides.{nat_tests}
use Rattle.farm_base.specs.Bytes.{is_all_digits}
use Rattle.std.specs.Result.{result_ok}
use Rattle.http_requests.proofs.Parameters.{parsed}
use Rattle.http_requests.proofs.paths.number_within.Goals as goal

pub returns-in_err-number-clause-value : goal.returns-in_err-number-clause-value
returns-in_err-number-clause-value c =
    let text = c.args.parameter.now in
    let digits : is_all_digits text ≡ true =
    sym (c.is_all_digits.ensures.digits ∙ ap is_all_digits c.as_bytes.ensures.value) ∙ c.if-not-is_all_digits.false in
    let some : 0 < length text = grind (arith, nat_tests, c.if-is_empty.false, c.is_empty.ensures) in
    let few : length text ≤ 10 = omega (arith, c.if-parameter-gt-MOST_PARAMETER_DIGITS.false) in
    let is = parsed text c.parse.result c.parse.ensures.value.0 digits some few in
    let read = ap result_ok is in
    let none = c.in_err-number.ensures.value in
    absurd cc
