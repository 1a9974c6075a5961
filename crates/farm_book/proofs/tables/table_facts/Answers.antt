-- Answers to the open goals of `table_facts`.
use Rattle.std.proofs.Common.{◌≡◌, ◌≤◌, List, length, subst}
use Rattle.farm_site.specs.declared.items.Tank.{Tank}
use Rattle.farm_book.proofs.TablesRead.{AreRead, read_computable, read_more, site_rising}
use Rattle.farm_book.proofs.tables.table_facts.Goals as goal

pub loop-tank-preserved : goal.loop-tank-preserved
loop-tank-preserved c =
    read_more c.get-tank-items.result.now c.loop-tank.tank-index c.tank-item.result c.loop-tank.invariant c.loop-tank-test.true c.tank-item.is c.rows.ensures.table

pub returns : goal.returns
returns c =
    let tanks : c.get-tank-items.result.now ≡ c.args.site.now.tanks = c.get-tank-items.ensures.items in
    let read = subst (λ (tanks : List Tank). AreRead tanks c.loop-tank.tank-index) tanks c.loop-tank.invariant in
    let all = subst (λ (tanks : List Tank). length tanks ≤ c.loop-tank.tank-index) tanks c.loop-tank-test.false in
    record { computable = read_computable c.args.site.now c.loop-tank.tank-index read all; rising = site_rising c.args.site.now }
