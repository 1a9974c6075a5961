-- Answers to the open goals of `write_tanks`.
use Rattle.std.proofs.Common.{rules}
use Rattle.text_pieces.proofs.Lengths.{begins_before}
use Rattle.farm_report.proofs.tables.write_tanks.Goals as goal

pub returns-in_err-write_tank : goal.returns-in_err-write_tank
returns-in_err-write_tank c =
    let before = begins_before c.args.out.now.items _ c.loop-tank.out.items c.write_tank.new.out.items c.loop-tank.invariant c.in_err-write_tank.ensures.tank.err in
    record { tanks = record { ok = search rules; err = search (rules, before) } }
