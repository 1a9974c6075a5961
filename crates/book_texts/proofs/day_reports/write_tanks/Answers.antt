-- Answers to the open goals of `write_tanks`.
use Rattle.std.proofs.Common.{◌++◌, get_or, ap, ◌∙◌, rules}
use Rattle.farm_site.specs.declared.items.Tank.{Tank}
use Rattle.text_pieces.proofs.Lengths.{begins_before}
use Rattle.day_balances.proofs.Totals.{zeros}
use Rattle.book_texts.specs.DayReports.{tank_balance_lines}
use Rattle.book_texts.proofs.Reports.{tanks_more}
use Rattle.book_texts.proofs.day_reports.write_tanks.Goals as goal

pub returns-in_err-write_tank : goal.returns-in_err-write_tank
returns-in_err-write_tank c =
    let before = begins_before c.args.out.now.items _ c.loop-index.out.items c.write_tank.new.out.items c.loop-index.invariant c.in_err-write_tank.ensures.lines.err in
    record { lines = record { ok = search rules; err = search (rules, before) } }

pub loop-index-preserved : goal.loop-index-preserved
loop-index-preserved c =
    let balance = get_or c.args.balances.now c.loop-index.index zeros in
    tanks_more c.args.out.now.items c.loop-index.out.items c.write_tank.new.out.items c.args.tanks.now c.args.balances.now c.loop-index.index
    c.index-tanks-index.result zeros c.requires.as_many c.loop-index-test.true c.loop-index.invariant
    (c.in_ok-write_tank.ensures.lines.ok
    ∙ ap (λ (tank : Tank). c.loop-index.out.items ++ tank_balance_lines tank.number balance) c.index-tanks-index.is)
