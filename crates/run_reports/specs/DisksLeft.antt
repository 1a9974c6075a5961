-- What a run on a recovered history leaves on the disk.
use Rattle.std.specs.Prelude.{◌≡◌, ℕ, ◌+◌, Bool, true, false, List, Option}
use Rattle.farm_base.specs.Counts.{Count, raised}
use Rattle.journaled_book.specs.Histories.{RecoversFront, RecoversNow}
use Rattle.journaled_book.specs.Moments.{EachFrom}
use Rattle.farm_disk.specs.Images.{State}
use Rattle.farm_disk.specs.Runs.{EachNow}
use Rattle.farm_history.specs.History.{History, last_place}
use Rattle.run_reports.specs.Limits.{book_limit}

-- the gate of an entry that is still in doubt at the end failed to open once more
abbrev pub faults_at_end : Bool → ℕ
faults_at_end true = 1
faults_at_end false = 0

-- A run that found this history on the disk left this one there, with its last entry in doubt or not, and this many of its answers were
-- faults of the disk.
pub record LeavesHistory (found history : History) (faulted : ℕ) (doubt : Bool) (moment : ℕ) (trace : Option (List State)) (disk : Count) : Type 0 where
  -- each image at a moment since the recovery encodes a prefix of the history, with all that was recovered
  pub since : EachFrom trace moment (RecoversFront book_limit history (last_place found))
  -- each image now encodes the history or, if its last entry is in doubt, that or the history without it
  pub now : EachNow trace (RecoversNow book_limit doubt history)
  -- the disk counted just as many faults as were answered, and one more if an entry is in doubt
  pub counted : disk.now ≡ raised (faulted + faults_at_end doubt) disk.before
