-- Answers to the open goals of `number_of`.
use Rattle.std.proofs.Common.{arith}
use Rattle.calc_input.proofs.Digits.{digit_of_word}
use Rattle.calc_input.proofs.fields.number_of.Goals as goal

pub overflow_mul-number : goal.overflow_mul-number
overflow_mul-number c =
    let digit = digit_of_word c.args.word.now c.loop-byte.byte-index c.requires.digits c.requires.length c.loop-byte-test.true in
    omega arith

pub overflow_sub-byte : goal.overflow_sub-byte
overflow_sub-byte c =
    let digit = digit_of_word c.args.word.now c.loop-byte.byte-index c.requires.digits c.requires.length c.loop-byte-test.true in
    digit.low

pub overflow_add-number : goal.overflow_add-number
overflow_add-number c =
    let digit = digit_of_word c.args.word.now c.loop-byte.byte-index c.requires.digits c.requires.length c.loop-byte-test.true in
    omega arith

pub loop-byte-preserved : goal.loop-byte-preserved
loop-byte-preserved c =
    let digit = digit_of_word c.args.word.now c.loop-byte.byte-index c.requires.digits c.requires.length c.loop-byte-test.true in
    omega (arith, digit.more)
