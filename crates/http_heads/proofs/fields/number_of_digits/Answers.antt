-- Answers to the open goals of `number_of_digits`.
use Rattle.std.proofs.Common.{arith}
use Rattle.http_heads.proofs.Digits.{digit_of_value}
use Rattle.http_heads.proofs.fields.number_of_digits.Goals as goal

pub overflow_mul-number : goal.overflow_mul-number
overflow_mul-number c =
    let digit = digit_of_value c.args.digits.now c.loop-digit.digit-index c.requires.digits c.requires.few c.loop-digit-test.true in
    omega arith

pub overflow_sub-digit : goal.overflow_sub-digit
overflow_sub-digit c =
    let digit = digit_of_value c.args.digits.now c.loop-digit.digit-index c.requires.digits c.requires.few c.loop-digit-test.true in
    digit.low

pub overflow_add-number : goal.overflow_add-number
overflow_add-number c =
    let digit = digit_of_value c.args.digits.now c.loop-digit.digit-index c.requires.digits c.requires.few c.loop-digit-test.true in
    omega arith

pub loop-digit-preserved : goal.loop-digit-preserved
loop-digit-preserved c =
    let digit = digit_of_value c.args.digits.now c.loop-digit.digit-index c.requires.digits c.requires.few c.loop-digit-test.true in
    omega (arith, digit.more)
