-- Answers to the open goals of `batch_laws`.
use Rattle.farm_batch.proofs.Faults.{faults_ask}
use Rattle.farm_batch.proofs.OneOutcome.{outcomes_are_one}
use Rattle.farm_batch.proofs.laws.batch_laws.Goals as goal

pub returns-clause-outcomes_are_one : goal.returns-clause-outcomes_are_one
returns-clause-outcomes_are_one g c = outcomes_are_one _

pub returns-clause-faults_ask : goal.returns-clause-faults_ask
returns-clause-faults_ask g c = faults_ask _
