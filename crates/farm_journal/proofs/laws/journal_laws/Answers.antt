-- Answers to the open goals of `journal_laws`.
use Rattle.farm_journal.proofs.Gates.{stands_on_each}
use Rattle.farm_journal.proofs.OneMeaning.{one_damage, one_meaning, whole_is_not_refused}
use Rattle.farm_journal.proofs.laws.journal_laws.Goals as goal

pub returns-clause-stands_on_each : goal.returns-clause-stands_on_each
returns-clause-stands_on_each g c = stands_on_each g.D.Disk.trace

pub returns-clause-one_meaning : goal.returns-clause-one_meaning
returns-clause-one_meaning g c = one_meaning

pub returns-clause-whole_is_not_refused : goal.returns-clause-whole_is_not_refused
returns-clause-whole_is_not_refused g c = whole_is_not_refused

pub returns-clause-one_damage : goal.returns-clause-one_damage
returns-clause-one_damage g c = one_damage
