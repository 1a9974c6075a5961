-- A disk over the calls of a run.
use Rattle.std.specs.Prelude.{ℕ, ◌≤◌, List, Option}
use Rattle.farm_base.specs.Counts.{Count}
use Rattle.farm_disk.specs.Images.{State}
use Rattle.farm_disk.specs.Runs.{Extends}

-- a disk later: its states continue those that it had, and neither its moment nor its count falls
pub record IsLater (old new : Option (List State)) (moment moment_now : ℕ) (count : Count) : Type 0 where
  pub extends : Extends old new
  pub moment_on : moment ≤ moment_now
  pub never_falls : count.before ≤ count.now
