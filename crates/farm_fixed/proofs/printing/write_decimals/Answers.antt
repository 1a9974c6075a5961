-- Answers to the open goals of `write_decimals`.
use Rattle.std.proofs.Common.{length, ap, arith}
use Rattle.farm_fixed.proofs.PrintingLaws.{short_decimals, padded_at_end}
use Rattle.farm_fixed.proofs.printing.write_decimals.Goals as goal

pub write_digits-requires : goal.write_digits-requires
write_digits-requires c =
    let short = short_decimals c.args.places c.args.decimals c.requires.some c.requires.places c.requires.decimals in
    (omega arith, omega (arith, ap length c.requires.blank))

pub returns-clause-text : goal.returns-clause-text
returns-clause-text c =
    let short = short_decimals c.args.places c.args.decimals c.requires.some c.requires.places c.requires.decimals in
    padded_at_end c.args.places c.args.decimals c.write_digits.result c.args.buffer.now c.write_digits.new.buf c.requires.places short c.requires.blank
    c.write_digits.ensures.start c.write_digits.ensures.written c.write_digits.ensures.before
