-- Answers to the open goals of `sync`.
use Rattle.std.proofs.Common.{◌≡◌, ◌≤◌, ⊎_elim, ap, subst}
use Rattle.farm_disk.specs.Images.{synced, unchanged}
use Rattle.farm_disk.specs.Runs.{Extends, WritesNothing}
use Rattle.farm_journal.proofs.Known.{added_extends, stays_extends, stays_writes_nothing, synced_writes_nothing, unsynced_writes_nothing}
use Rattle.farm_journal.proofs.window.Window.sync.Goals as goal

pub returns-clause-wrote_nothing : goal.returns-clause-wrote_nothing
returns-clause-wrote_nothing g c =
    let disk : c.self.inside.disk ≡ c.args.self.now.disk = ap (λ window. window.disk) c.self.view_is in
    subst (λ disk. WritesNothing (g.D.Disk.trace disk) (g.D.Disk.trace c.sync.new.self)) disk
    (synced_writes_nothing (g.D.Disk.trace c.self.inside.disk) (g.D.Disk.trace c.sync.new.self) c.disk_laws.ensures.added_is_present
    c.disk_laws.ensures.synced_is_one c.stand-before.ensures.image c.in_ok-sync.ensures.states)

pub returns-clause-moves : goal.returns-clause-moves
returns-clause-moves g c =
    let disk : c.self.inside.disk ≡ c.args.self.now.disk = ap (λ window. window.disk) c.self.view_is in
    record {
      extends = subst (λ disk. Extends (g.D.Disk.trace disk) (g.D.Disk.trace c.sync.new.self)) disk
          (added_extends unchanged synced (g.D.Disk.trace c.self.inside.disk) (g.D.Disk.trace c.sync.new.self) c.in_ok-sync.ensures.states);
      moment = subst (λ disk. g.D.Disk.moment disk ≤ g.D.Disk.moment c.sync.new.self) disk c.sync.ensures.moment.never_falls;
    }

pub returns-in_err-sync-clause-wrote_nothing : goal.returns-in_err-sync-clause-wrote_nothing
returns-in_err-sync-clause-wrote_nothing g c =
    let disk : c.self.inside.disk ≡ c.args.self.now.disk = ap (λ window. window.disk) c.self.view_is in
    subst (λ disk. WritesNothing (g.D.Disk.trace disk) (g.D.Disk.trace c.sync.new.self)) disk
    (⊎_elim (unsynced_writes_nothing (g.D.Disk.trace c.self.inside.disk) (g.D.Disk.trace c.sync.new.self) c.disk_laws.ensures.added_is_present)
    (stays_writes_nothing (g.D.Disk.trace c.self.inside.disk) (g.D.Disk.trace c.sync.new.self)) c.in_err-sync.ensures.states)

pub returns-in_err-sync-clause-moves : goal.returns-in_err-sync-clause-moves
returns-in_err-sync-clause-moves g c =
    let disk : c.self.inside.disk ≡ c.args.self.now.disk = ap (λ window. window.disk) c.self.view_is in
    record {
      extends = subst (λ disk. Extends (g.D.Disk.trace disk) (g.D.Disk.trace c.sync.new.self)) disk
          (⊎_elim (added_extends unchanged unchanged (g.D.Disk.trace c.self.inside.disk) (g.D.Disk.trace c.sync.new.self))
          (stays_extends (g.D.Disk.trace c.self.inside.disk) (g.D.Disk.trace c.sync.new.self)) c.in_err-sync.ensures.states);
      moment = subst (λ disk. g.D.Disk.moment disk ≤ g.D.Disk.moment c.sync.new.self) disk c.sync.ensures.moment.never_falls;
    }
