-- Answers to the open goals of `access_laws`.
use Rattle.std.proofs.Common.{◌∙◌, refl, sym, subst}
use Rattle.farm_history.specs.History.{History}
use Rattle.desk_access.specs.Access.{Continues}
use Rattle.desk_access.proofs.Fronts.{front_whole}
use Rattle.desk_access.proofs.Later.{later_on}
use Rattle.desk_access.proofs.sole.SoleAccessDeskAccess.access_laws.Goals as goal

pub returns-clause-keeps_on : goal.returns-clause-keeps_on
returns-clause-keeps_on g c = λ first second third earlier later.
    later_on g.D.Disk.trace g.D.Disk.moment g.D.Disk.faults first.desk second.desk third.desk earlier later

pub returns-clause-followers : goal.returns-clause-followers
returns-clause-followers g c = record {
  itself = λ seen. refl;
  on = λ first second third earlier later. later ∙ earlier;
  continues = λ seen next same. subst (λ (history : History). Continues seen history) (sym same) (front_whole seen);
}
