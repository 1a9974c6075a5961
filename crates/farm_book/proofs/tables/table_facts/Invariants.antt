-- The invariants of the loops of `table_facts`.
use Rattle.farm_book.proofs.TablesRead.{AreRead}
use Rattle.farm_book.proofs.tables.table_facts.Given as goal

-- the tables of the tanks so far are capacity tables
abbrev pub invariant-loop-tank : goal.invariant-loop-tank
invariant-loop-tank l = AreRead l.tank-items l.tank-index
