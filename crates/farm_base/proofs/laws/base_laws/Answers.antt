-- Answers to the open goals of `base_laws`.
use Rattle.farm_base.proofs.Rises.{faults_add_up, faults_are_added, rises_add_up}
use Rattle.farm_base.proofs.Additions.{additions_add_up, takings_add_up}
use Rattle.farm_base.proofs.laws.base_laws.Goals as goal

pub returns-clause-counts_add_up : goal.returns-clause-counts_add_up
returns-clause-counts_add_up c = rises_add_up

pub returns-clause-faults_are_added : goal.returns-clause-faults_are_added
returns-clause-faults_are_added c = faults_are_added

pub returns-clause-faults_add_up : goal.returns-clause-faults_add_up
returns-clause-faults_add_up c = faults_add_up

pub returns-clause-additions_add_up : goal.returns-clause-additions_add_up
returns-clause-additions_add_up c = additions_add_up

pub returns-clause-takings_add_up : goal.returns-clause-takings_add_up
returns-clause-takings_add_up c = takings_add_up
