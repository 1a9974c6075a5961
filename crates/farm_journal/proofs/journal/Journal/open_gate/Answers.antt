-- Answers to the open goals of `open_gate`.
use Rattle.std.proofs.Common.{refl}
use Rattle.farm_journal.proofs.Putting.{on_err}
use Rattle.farm_journal.proofs.Opening.{open_images, open_stands, open_stays}
use Rattle.farm_journal.proofs.journal.Journal.open_gate.Goals as goal

pub returns-in_err-write_synced-clause-images : goal.returns-in_err-write_synced-clause-images
returns-in_err-write_synced-clause-images g c = λ header body bodies stands.
    open_images header bodies body g.D.Disk.trace _ c.args.self.now c.write_synced.new.disk _ c.self.view_is stands c.write_synced.ensures.step

pub returns-in_err-write_synced-clause-stands : goal.returns-in_err-write_synced-clause-stands
returns-in_err-write_synced-clause-stands g c = λ header body bodies stands.
    on_err c.from_residual.result _ _ c.from_residual.ensures.0
    (λ fault.
    open_stays header bodies body g.D.Disk.trace _ c.args.self.now c.write_synced.new.disk _ c.self.view_is stands c.in_err-write_synced.ensures.step
    _ refl refl refl refl refl)

pub returns-in-Some-clause-images : goal.returns-in-Some-clause-images
returns-in-Some-clause-images g c = λ header body bodies stands.
    open_images header bodies body g.D.Disk.trace _ c.args.self.now c.write_synced.new.disk _ c.self.view_is stands c.write_synced.ensures.step

pub returns-in-Some-clause-stands : goal.returns-in-Some-clause-stands
returns-in-Some-clause-stands g c = λ header body bodies stands.
    open_stands header bodies body g.D.Disk.trace _ c.args.self.now c.write_synced.new.disk _ c.self.view_is stands c.in_ok-write_synced.ensures.step
    _ c.in-Some.next refl refl c.in-Some.is refl refl refl
