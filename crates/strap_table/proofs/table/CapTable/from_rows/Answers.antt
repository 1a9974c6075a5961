-- Answers to the open goals of `from_rows`.
use Rattle.std.proofs.Common.{ap, rules}
use Rattle.std.specs.Prelude.{Err}
use Rattle.strap_table.proofs.FirstFault.{fault_is, no_fault, one_fault}
use Rattle.strap_table.proofs.Rows.{table_from_rows}
use Rattle.strap_table.proofs.table.CapTable.from_rows.Goals as goal

pub invariant_of-result : goal.invariant_of-result
invariant_of-result c = table_from_rows c.args.rows.items (search rules)

pub returns-in-Some-clause-meaning : goal.returns-in-Some-clause-meaning
returns-in-Some-clause-meaning c = fault_is c.args.rows.items c.in-Some.fault (search rules)

pub returns-in-Some-clause-one_answer : goal.returns-in-Some-clause-one_answer
returns-in-Some-clause-one_answer c fault has = ap Err (one_fault c.args.rows.items c.in-Some.fault fault (returns-in-Some-clause-meaning c) has)

pub returns-in-None-clause-meaning : goal.returns-in-None-clause-meaning
returns-in-None-clause-meaning c = table_from_rows c.args.rows.items (search rules)

pub returns-in-None-clause-one_answer : goal.returns-in-None-clause-one_answer
returns-in-None-clause-one_answer c fault has = absurd (no_fault c.args.rows.items fault (table_from_rows c.args.rows.items (search rules)) has)
