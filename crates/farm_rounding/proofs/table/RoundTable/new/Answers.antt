-- Answers to the open goals of `new`.
use Rattle.std.proofs.Common.{◌+◌, rules, arith}
use Rattle.std.proofs.lemmas.Grind.{common_steps}
use Rattle.farm_rounding.proofs.Rows.{first_bad_of, table_from_rows}
use Rattle.farm_rounding.proofs.table.RoundTable.new.Goals as goal

pub invariant_of-result : goal.invariant_of-result
invariant_of-result c = table_from_rows c.args.rows (search rules) (grind (arith, common_steps))

pub returns-then-not-is_row-clause-first_bad : goal.returns-then-not-is_row-clause-first_bad
returns-then-not-is_row-clause-first_bad c = first_bad_of c.args.rows (c.loop-index.index + 1) (grind (arith, common_steps))

pub returns-clause-allowed : goal.returns-clause-allowed
returns-clause-allowed c = table_from_rows c.args.rows (search rules) (grind (arith, common_steps))
