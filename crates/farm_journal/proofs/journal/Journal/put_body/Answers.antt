-- Answers to the open goals of `put_body`.
use Rattle.std.proofs.Common.{◌+◌, Some, length, refl, ap, ◌∙◌}
use Rattle.farm_journal.specs.Standing.{JournalState}
use Rattle.farm_journal.proofs.Putting.{on_err, put_images, put_one_write, put_stays, put_stands, put_step}
use Rattle.farm_journal.proofs.journal.Journal.put_body.Goals as goal

-- one write and one sync: first here, since the first answer that no longer fits names the clause
pub returns-clause-one_write : goal.returns-clause-one_write
returns-clause-one_write g c =
    put_one_write g.D.Disk.trace c.args.body.now c.made.result.now _ c.args.self.now c.write_synced.new.disk (c.made.ensures ∙ c.make.ensures.made)
    c.self.view_is c.in_ok-write_synced.ensures.one_write

pub returns-in_err-write_synced-clause-images : goal.returns-in_err-write_synced-clause-images
returns-in_err-write_synced-clause-images g c = λ header bodies stands.
    put_images header bodies c.args.body.now g.D.Disk.trace c.args.self.now c.write_synced.new.disk _ stands
    (put_step g.D.Disk.trace c.args.body.now c.made.result.now _ c.args.self.now c.write_synced.new.disk _ (c.made.ensures ∙ c.make.ensures.made) c.self.view_is c.write_synced.ensures.step)

pub returns-clause-images : goal.returns-clause-images
returns-clause-images g c = λ header bodies stands.
    put_images header bodies c.args.body.now g.D.Disk.trace c.args.self.now c.write_synced.new.disk _ stands
    (put_step g.D.Disk.trace c.args.body.now c.made.result.now _ c.args.self.now c.write_synced.new.disk _ (c.made.ensures ∙ c.make.ensures.made) c.self.view_is c.write_synced.ensures.step)

pub returns-clause-stands : goal.returns-clause-stands
returns-clause-stands g c = λ header bodies stands.
    let view = c.self.view_is in
    put_stands header bodies c.args.body.now g.D.Disk.trace c.args.self.now c.write_synced.new.disk _ stands
    (put_step g.D.Disk.trace c.args.body.now c.made.result.now _ c.args.self.now c.write_synced.new.disk _ (c.made.ensures ∙ c.make.ensures.made) c.self.view_is c.in_ok-write_synced.ensures.step)
    _ refl c.requires.short refl (ap (λ (journal : JournalState _). journal.gate) view) (ap (λ (journal : JournalState _). journal.count) view)
    (ap (λ (journal : JournalState _). Some (journal.gate + 5 + length c.args.body.now)) view)

pub returns-in_err-write_synced-clause-stands : goal.returns-in_err-write_synced-clause-stands
returns-in_err-write_synced-clause-stands g c = λ header bodies stands.
    let view = c.self.view_is in
    on_err c.from_residual.result _ _ c.from_residual.ensures.0
    (λ fault. put_stays header bodies c.args.body.now g.D.Disk.trace c.args.self.now c.write_synced.new.disk _ stands
    (put_step g.D.Disk.trace c.args.body.now c.made.result.now _ c.args.self.now c.write_synced.new.disk _ (c.made.ensures ∙ c.make.ensures.made) c.self.view_is c.in_err-write_synced.ensures.step)
    _ refl refl (ap (λ (journal : JournalState _). journal.gate) view) (ap (λ (journal : JournalState _). journal.count) view)
    (ap (λ (journal : JournalState _). journal.next_gate) view))
