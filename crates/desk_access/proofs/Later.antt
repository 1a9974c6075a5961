-- Desks that stand later, one after another.
use Rattle.std.proofs.Common.{◌∙◌, ◌+◌, ap, sym, ℕ, List, Option, arith}
use Rattle.farm_base.proofs.Rises.{faults_add_up}
use Rattle.farm_base.specs.Counts.{raised}
use Rattle.farm_desk.specs.States.{DeskState}
use Rattle.farm_disk.proofs.Extending.{extends_more}
use Rattle.farm_disk.specs.Images.{State}
use Rattle.desk_access.specs.Sole.{StandsLater}

-- a desk that stands later than a later one stands later
pub later_on : {D : Type 0} (trace : D → Option (List State)) (moment faults : D → ℕ) (first second third : DeskState D) →
    StandsLater trace moment faults first second → StandsLater trace moment faults second third → StandsLater trace moment faults first third
later_on trace moment faults first second third earlier later = record {
  opened = later.opened ∙ earlier.opened;
  extends = extends_more (trace first.disk) (trace second.disk) (trace third.disk) earlier.extends later.extends;
  moment_on = omega (arith, earlier.moment_on, later.moment_on);
  answered = earlier.answered + later.answered;
  failed = later.failed ∙ ap (raised later.answered) earlier.failed ∙ sym (faults_add_up earlier.answered later.answered first.failed);
  counted = later.counted ∙ ap (raised later.answered) earlier.counted ∙ sym (faults_add_up earlier.answered later.answered (faults first.disk));
}
