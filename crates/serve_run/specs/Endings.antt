-- The end of a run on a desk that was served.
use Rattle.std.specs.Prelude.{◌≡◌, ℕ, Bool, true, false, List, Option}
use Rattle.farm_base.specs.Counts.{count_of, raised}
use Rattle.journaled_book.specs.Histories.{RecoversFront, RecoversNow}
use Rattle.journaled_book.specs.Moments.{EachFrom}
use Rattle.farm_desk.specs.States.{DeskState}
use Rattle.farm_disk.specs.Images.{State}
use Rattle.farm_disk.specs.Runs.{EachNow}
use Rattle.book_texts.specs.Summaries.{IsSummary, summary_text}
use Rattle.boxed_disk.specs.declared.boxed.BoxedDisk.{BoxedDisk}
use Rattle.run_reports.specs.Disks.{IsLater}
use Rattle.run_reports.specs.Limits.{book_limit}
use Rattle.run_reports.specs.Reports.{Output}
use Rattle.serve_run.specs.Summaries.{ReportsSummary}

-- A desk that was served ended, after a call on a listener failed or none did: its disk is left with its history, the last entry in doubt or
-- not after its gate was opened once more, and the summary of that history and the status were put.
pub record EndsDesk {D : Type 0} (trace : D → Option (List State)) (moment faults : D → ℕ) (desk : DeskState (BoxedDisk D)) (failed : Bool) (left : D)
    (output : Output) (status : ℕ) : Type 0 where
  pub doubt : Bool
  -- an entry is in doubt only if it was
  pub settled : desk.doubt ≡ false → doubt ≡ false
  -- what a crash leaves of the disk, at each moment since the desk was opened, and now
  pub since : EachFrom (trace left) desk.opened.moment (RecoversFront book_limit desk.history desk.opened.entries)
  pub now : EachNow (trace left) (RecoversNow book_limit doubt desk.history)
  -- the disk counted a fault if an entry is in doubt, and else none
  pub once : doubt ≡ true → faults left ≡ raised 1 (faults desk.disk.disk.value)
  pub quiet : doubt ≡ false → faults left ≡ faults desk.disk.disk.value
  pub disk_later : IsLater (trace desk.disk.disk.value) (trace left) (moment desk.disk.disk.value) (moment left) (count_of faults desk.disk.disk.value left)
  -- what was put, and the status
  pub summary : IsSummary desk.history (summary_text desk.history)
  pub reports : ReportsSummary (summary_text desk.history) doubt failed output status
