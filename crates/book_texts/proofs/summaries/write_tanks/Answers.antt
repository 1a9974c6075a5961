-- Answers to the open goals of `write_tanks`.
use Rattle.std.proofs.Common.{rules}
use Rattle.text_pieces.proofs.Lengths.{begins_before}
use Rattle.book_texts.proofs.summaries.write_tanks.Goals as goal

pub returns-in_err-write_tank : goal.returns-in_err-write_tank
returns-in_err-write_tank g c =
    let before = begins_before c.args.out.now.items _ c.loop-tank.out.items c.write_tank.new.out.items c.loop-tank.invariant c.in_err-write_tank.ensures.line.err in
    record { lines = record { ok = search rules; err = search (rules, before) } }
