-- What a batch keeps of a desk, whatever it asks.
use Rattle.std.specs.Prelude.{◌≡◌, ℕ, ◌≤◌, List, Option}
use Rattle.farm_disk.specs.Images.{State}
use Rattle.farm_disk.specs.Runs.{Extends}
use Rattle.farm_desk.specs.Asking.{KeepsAcknowledged}
use Rattle.journaled_book.specs.Histories.{certain}
use Rattle.farm_desk.specs.States.{DeskState}

-- From a desk to a desk: it stands as it was made, what a crash left on its disk at a moment it leaves, no fewer of its entries aren't in
-- doubt, and neither the moment nor the count of its disk falls.
pub record KeepsDesk {D : Type 0} (trace : D → Option (List State)) (moment faults : D → ℕ) (limit : ℕ) (before after : DeskState D) : Type 0 where
  pub opened : after.opened ≡ before.opened
  pub surer : certain before.doubt before.history ≤ certain after.doubt after.history
  pub acknowledged : KeepsAcknowledged trace limit before after.disk
  pub extends : Extends (trace before.disk) (trace after.disk)
  pub moment_on : moment before.disk ≤ moment after.disk
  pub never_falls : faults before.disk ≤ faults after.disk
