-- What holds of every desk, from how it stands on its journal.
use Rattle.std.proofs.Common.{◌≡◌, ℕ, ◌≤◌, Bool, true, false, List, Option, subst, arith}
use Rattle.farm_history.specs.History.{History, last_place}
use Rattle.farm_disk.specs.Images.{State}
use Rattle.farm_disk.specs.Runs.{EachNow}
use Rattle.farm_journal.specs.Standing.{JournalState}
use Rattle.journaled_book.specs.Histories.{RecoversNow, certain}
use Rattle.farm_desk.specs.States.{DeskState, IsDesk, IsDurable}
use Rattle.journaled_book.proofs.Settling.{records_now}

-- entries that aren't in doubt are of the history
pub is_within : (doubt : Bool) (history : History) (entries : ℕ) → entries ≤ certain doubt history → entries ≤ last_place history
is_within false history entries least = least
is_within true history entries least = omega (arith, least)

-- what holds of a desk holds of it under another name
pub durable : {D : Type 0} (trace : D → Option (List State)) (moment faults : D → ℕ) (limit : ℕ) (desk : DeskState D) (journal : JournalState D) →
    journal.disk ≡ desk.disk → IsDesk trace moment faults limit desk journal → IsDurable trace moment faults limit desk
durable trace moment faults limit desk journal same is = record {
  since = is.since;
  now = subst (λ disk. EachNow (trace disk) (RecoversNow limit desk.doubt desk.history)) same (records_now trace limit desk.doubt desk.history journal is.records);
  begins = is_within desk.doubt desk.history desk.opened.entries is.least;
  extends = is.extends;
  moment_is = is.moment_is;
  faults_is = is.faults_is;
  moment_on = is.moment_on;
  counted = is.counted;
}
