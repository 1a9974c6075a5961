-- Answers to the open goals of `finish`.
use Rattle.std.proofs.Common.{◌∙◌, ap, refl, sym, rules}
use Rattle.std.proofs.lemmas.Bool.{false_from_ne_true}
use Rattle.farm_book.specs.Kept.{Kept}
use Rattle.farm_journal.specs.Standing.{JournalState}
use Rattle.journaled_book.specs.Histories.{certain}
use Rattle.farm_desk.specs.States.{DeskState}
use Rattle.farm_desk.proofs.Finishing.{at_err, at_ok, finished_continues, finished_counted, finished_extends, finished_images, finished_now, finished_once, finished_once_more, finished_quiet, finished_rose, finished_since}
use Rattle.journaled_book.proofs.Keeping.{acknowledged_since}
use Rattle.farm_desk.proofs.desk.Desk.finish.Goals as goal

pub returns-clause-untouched : goal.returns-clause-untouched
returns-clause-untouched g c = λ sure.
    let none = c.settle.ensures.untouched (ap (λ (desk : DeskState _). desk.doubt) c.self.view_is ∙ sure) in (
      c.into_disk.ensures.disk ∙ ap (λ (journal : JournalState _). journal.disk) none.0 ∙ ap (λ (desk : DeskState _). desk.disk) c.self.view_is,
      c.is_err-doubt.ensures.value ∙ sym c.settle.ensures.settled ∙ none.1,
    )

pub returns-clause-since : goal.returns-clause-since
returns-clause-since g c =
    finished_since g.D.Disk.trace g.row.LIMIT _ c.args.self c.self.view_is c.settle.new.self.journal.disk c.into_disk.result c.into_disk.ensures.disk
    g.D.Disk.moment g.D.Disk.faults c.self.inside.records.journal c.self.invariant c.settle.ensures.moves.extends c.settle.ensures.images

pub returns-clause-now : goal.returns-clause-now
returns-clause-now g c =
    finished_now g.D.Disk.trace g.row.LIMIT _ c.args.self c.self.view_is c.settle.new.self.journal.disk c.into_disk.result c.into_disk.ensures.disk
    c.settle.new.self.doubt c.is_err-doubt.result c.settle.new.self.book.history c.settle.new.self.journal refl
    (ap (λ (kept : Kept). kept.history) c.settle.ensures.book) (c.settle.ensures.settled ∙ sym c.is_err-doubt.ensures.value) c.settle.ensures.kept

pub returns-clause-acknowledged : goal.returns-clause-acknowledged
returns-clause-acknowledged g c = λ moment count fewer each.
    acknowledged_since g.row.LIMIT c.args.self.history (certain c.args.self.doubt c.args.self.history) count moment (g.D.Disk.trace c.args.self.disk)
    (g.D.Disk.trace c.into_disk.result) fewer
    (finished_extends g.D.Disk.trace g.row.LIMIT _ c.args.self c.self.view_is c.settle.new.self.journal.disk c.into_disk.result c.into_disk.ensures.disk c.settle.ensures.moves.extends)
    (finished_images g.D.Disk.trace g.row.LIMIT _ c.args.self c.self.view_is c.settle.new.self.journal.disk c.into_disk.result c.into_disk.ensures.disk c.settle.ensures.images)
    each

pub returns-clause-moves : goal.returns-clause-moves
returns-clause-moves g c =
    record {
      extends = finished_extends g.D.Disk.trace g.row.LIMIT _ c.args.self c.self.view_is c.settle.new.self.journal.disk c.into_disk.result c.into_disk.ensures.disk c.settle.ensures.moves.extends;
      moment = search rules;
    }

pub returns-clause-continues : goal.returns-clause-continues
returns-clause-continues g c =
    finished_continues g.D.Disk.trace g.row.LIMIT _ c.args.self c.self.view_is c.settle.new.self.journal.disk c.into_disk.result c.into_disk.ensures.disk
    c.self.invariant.extends c.settle.ensures.moves.extends

pub returns-clause-counts : goal.returns-clause-counts
returns-clause-counts g c =
    record {
      never_falls = search rules;
      failed = λ is.
          finished_rose g.D.Disk.trace g.row.LIMIT _ c.args.self c.self.view_is c.settle.new.self.journal.disk c.into_disk.result c.into_disk.ensures.disk g.D.Disk.faults
          (at_err c.settle.result _ (sym c.is_err-doubt.ensures.value ∙ is) c.settle.ensures.counts.failed);
      once = λ is.
          finished_once g.D.Disk.trace g.row.LIMIT _ c.args.self c.self.view_is c.settle.new.self.journal.disk c.into_disk.result c.into_disk.ensures.disk g.D.Disk.faults
          (at_err c.settle.result _ (sym c.is_err-doubt.ensures.value ∙ is) c.settle.ensures.counts.once);
      quiet = λ isnt.
          finished_quiet g.D.Disk.trace g.row.LIMIT _ c.args.self c.self.view_is c.settle.new.self.journal.disk c.into_disk.result c.into_disk.ensures.disk g.D.Disk.faults
          (at_ok c.settle.result _ (sym c.is_err-doubt.ensures.value ∙ false_from_ne_true _ isnt) c.settle.ensures.counts.quiet);
    }

pub returns-clause-counted : goal.returns-clause-counted
returns-clause-counted g c = λ is.
    finished_counted g.D.Disk.trace g.row.LIMIT _ c.args.self c.self.view_is c.settle.new.self.journal.disk c.into_disk.result c.into_disk.ensures.disk g.D.Disk.faults
    c.self.invariant.counted (at_ok c.settle.result _ (sym c.is_err-doubt.ensures.value ∙ is) c.settle.ensures.counts.quiet)

pub returns-clause-counted_once_more : goal.returns-clause-counted_once_more
returns-clause-counted_once_more g c = λ is.
    finished_once_more g.D.Disk.trace g.row.LIMIT _ c.args.self c.self.view_is c.settle.new.self.journal.disk c.into_disk.result c.into_disk.ensures.disk g.D.Disk.faults
    c.self.invariant.counted (at_err c.settle.result _ (sym c.is_err-doubt.ensures.value ∙ is) c.settle.ensures.counts.once)
