-- The invariants of the loops of `look`.
use Rattle.std.proofs.Common.{◌≡◌, ◌-◌, ◌≤◌, length, take}
use Rattle.farm_base.specs.Known.{Stays}
use Rattle.farm_journal.specs.Windows.{BeginsWith, WhereLeft}
use Rattle.farm_journal.proofs.window.Window.look.Given as goal

abbrev pub invariant-loop-self : goal.invariant-loop-self
invariant-loop-self g l = record {
  from : l.self-inside.from ≡ 0;
  within : l.self-inside.to ≤ length l.self-inside.bytes.items;
  room : l.need ≤ length l.self-inside.bytes.items;
  offset : l.self-inside.offset ≡ l.fn.self.offset;
  shows : WhereLeft (g.D.Disk.trace l.self-inside.disk) l.self-inside.offset (BeginsWith (take l.self-inside.to l.self-inside.bytes.items));
  grows : BeginsWith l.fn.self.ahead (take l.self-inside.to l.self-inside.bytes.items);
  stays : Stays (g.D.Disk.trace l.fn.self.disk) (g.D.Disk.trace l.self-inside.disk);
  quiet : g.D.Disk.faults l.self-inside.disk ≡ g.D.Disk.faults l.fn.self.disk;
  moment : g.D.Disk.moment l.fn.self.disk ≤ g.D.Disk.moment l.self-inside.disk;
}

abbrev pub decreases-loop-self : goal.decreases-loop-self
decreases-loop-self g l = l.need - l.self-inside.to
