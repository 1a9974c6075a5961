-- Answers to the open goals of `number_between`.
use Rattle.std.proofs.Common.{◌≡◌, ◌≤◌, true, length, ap, arith, sym, ◌∙◌}
use Rattle.std.proofs.lemmas.Bool.Decides.{nat_tests}
use Rattle.farm_base.specs.Bytes.{is_all_digits}
use Rattle.command_line.proofs.Parsing.{no_number, unparsed}
use Rattle.command_line.proofs.numbers.number_between.Goals as goal

-- digits that aren't parsed are a number beyond 64 bits, so beyond the limits
pub returns-in_err-number-clause-value : goal.returns-in_err-number-clause-value
returns-in_err-number-clause-value c =
    let text = c.args.text.now in
    let digits : is_all_digits text ≡ true =
    sym (c.is_all_digits.ensures.digits ∙ ap is_all_digits c.as_bytes.ensures.value) ∙ c.if-not-is_all_digits.false in
    let some : 1 ≤ length text = grind (arith, nat_tests, c.if-is_empty.false, c.is_empty.ensures) in
    let none = sym c.in_err-number.was ∙ c.ok.ensures.value in
    let beyond = unparsed text c.parse.result c.parse.ensures.value.0 digits some none in
    c.from_residual.ensures ∙ no_number c.args.least c.args.most text (λ number is. beyond (omega (arith, is.value, is.not_more, c.ranges.most.fits)))
