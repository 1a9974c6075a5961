-- The invariants of the loops of `take_bodies`.
use Rattle.std.proofs.Common.{◌≡◌, ◌+◌, ◌-◌, ◌≤◌, length}
use Rattle.farm_base.specs.Known.{Stays}
use Rattle.farm_journal.specs.Progress.{HasTaken}
use Rattle.farm_journal.specs.Windows.{Shows}
use Rattle.farm_journal.specs.Limits.{max_bodies}
use Rattle.farm_journal.proofs.recovering.take_bodies.Given as goal

abbrev pub invariant-loop-count : goal.invariant-loop-count
invariant-loop-count g l = record {
  shows : Shows g.D.Disk.trace l.window;
  taken : HasTaken g.T.Taker.accepts (g.T.Taker.taken l.taker) (g.D.Disk.trace l.window.disk) l.window.offset;
  counted : length (g.T.Taker.taken l.taker) ≡ l.count + 1;
  within : l.count ≤ max_bodies;
  stays : Stays (g.D.Disk.trace l.fn.window.disk) (g.D.Disk.trace l.window.disk);
  quiet : g.D.Disk.faults l.window.disk ≡ g.D.Disk.faults l.fn.window.disk;
  moment : g.D.Disk.moment l.fn.window.disk ≤ g.D.Disk.moment l.window.disk;
}

abbrev pub decreases-loop-count : goal.decreases-loop-count
decreases-loop-count g l = max_bodies - l.count
