-- A desk that is recovered from the disk in memory of another has its history.
use Rattle.std.proofs.Common.{◌≡◌, ℕ, List, subst}
use Rattle.farm_disk.proofs.Replay.{present_is_image}
use Rattle.farm_disk.specs.Images.{IsCrashImage, State, present}
use Rattle.farm_disk.specs.Memory.{MemState, states_of}
use Rattle.farm_disk.specs.Runs.{LeavesBytes}
use Rattle.farm_history.specs.History.{History}
use Rattle.farm_recovery.specs.Laws.{OneHistory}
use Rattle.journaled_book.specs.Histories.{Recovers}

-- Each image of the disk encodes the first history, and what is read there afterwards encodes the second: they are one.
pub recovered_same : (limit : ℕ) (first second : History) (disk : MemState) (left : List State) → OneHistory →
    ((image : List ℕ) → IsCrashImage (present (states_of disk.start disk.calls)) image → Recovers limit first image) →
    LeavesBytes (states_of disk.start disk.calls) left → Recovers limit second (present left).seen → second ≡ first
recovered_same limit first second disk left one each leaves recovers =
    let states : List State = states_of disk.start disk.calls in
    one limit second first (present states).seen
    (subst (Recovers limit second) leaves.reads recovers)
    (each (present states).seen (present_is_image disk.start disk.calls))
