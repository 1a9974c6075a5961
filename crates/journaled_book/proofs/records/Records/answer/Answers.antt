-- Answers to the open goals of `answer`.
use Rattle.std.proofs.Common.{◌∙◌, ap, refl, sym, subst, arith, w64, ℤ, rules}
use Rattle.std.proofs.lemmas.Int.{to_z-of_z}
use Rattle.farm_base.specs.Counts.{Rose, raised}
use Rattle.farm_book.specs.Kept.{Kept}
use Rattle.farm_history.specs.Desk.{Answered, stamped}
use Rattle.farm_disk.proofs.Extending.{extends_more}
use Rattle.farm_journal.specs.Standing.{JournalState}
use Rattle.journaled_book.proofs.Answered.{settled_and_answered}
use Rattle.journaled_book.proofs.Answering.{certain_settled, done_answered, done_is, grown_since, look_answered}
use Rattle.journaled_book.proofs.records.Records.answer.Goals as goal

pub returns-in-Look-clause-answered : goal.returns-in-Look-clause-answered
returns-in-Look-clause-answered g c =
    look_answered g.row.LIMIT c.args.self.now.book c.settle.new.self.book c.settle.new.self.doubt c.args.caller c.args.now c.args.ask.now c.in-Look.query
    c.look.result c.settle.ensures.book c.in_ok-settle.ensures.settled c.in-Look.is c.look.ensures.looked_up

pub returns-in-Look-clause-certain : goal.returns-in-Look-clause-certain
returns-in-Look-clause-certain g c =
    certain_settled c.args.self.now.doubt c.settle.new.self.doubt c.args.self.now.book c.settle.new.self.book c.settle.ensures.book c.in_ok-settle.ensures.settled

pub returns-in-Do-clause-answered : goal.returns-in-Do-clause-answered
returns-in-Do-clause-answered g c =
    done_answered g.row.LIMIT c.args.self.now.book c.settle.new.self.book c.judge_and_enter.new.self.book c.judge_and_enter.new.self.doubt c.args.caller c.in-Do.account c.in-Do.key c.args.now c.args.ask.now c.in-Do.cmd c.in-Do.cmd c.entry_of-entry.result
    _ c.settle.ensures.book c.in-Do.is refl
    (c.entry_of-entry.ensures.entry ∙ ap (λ (clock : ℤ). stamped c.settle.new.self.book.history c.args.caller clock c.in-Do.account c.in-Do.key c.in-Do.cmd)
    (to_z-of_z w64 c.args.now c.ranges.now)) c.judge_and_enter.ensures.answered

pub returns-in-Do-clause-grows : goal.returns-in-Do-clause-grows
returns-in-Do-clause-grows g c = grown_since c.args.self.now.book c.settle.new.self.book c.judge_and_enter.new.self.book c.settle.ensures.book c.judge_and_enter.ensures.grows

pub returns-in-Do-clause-certain : goal.returns-in-Do-clause-certain
returns-in-Do-clause-certain g c =
    omega (
      arith,
      certain_settled c.args.self.now.doubt c.settle.new.self.doubt c.args.self.now.book c.settle.new.self.book c.settle.ensures.book
          c.in_ok-settle.ensures.settled,
      c.judge_and_enter.ensures.certain,
    )

pub returns-in-Do-clause-untouched : goal.returns-in-Do-clause-untouched
returns-in-Do-clause-untouched g c = λ sure stays.
    c.judge_and_enter.ensures.untouched
    (ap (λ (answered : Answered). answered.history) (done_is g.row.LIMIT c.args.self.now.book c.settle.new.self.book c.args.caller c.in-Do.account c.in-Do.key c.args.now c.args.ask.now c.in-Do.cmd c.in-Do.cmd c.entry_of-entry.result c.settle.ensures.book c.in-Do.is refl
    (c.entry_of-entry.ensures.entry ∙ ap (λ (clock : ℤ). stamped c.settle.new.self.book.history c.args.caller clock c.in-Do.account c.in-Do.key c.in-Do.cmd)
    (to_z-of_z w64 c.args.now c.ranges.now)))
    ∙ stays ∙ sym (ap (λ (kept : Kept). kept.history) c.settle.ensures.book))
    ∙ ap (λ (journal : JournalState _). journal.disk) ((c.settle.ensures.untouched sure).0)

pub returns-in-Do-clause-unwritten : goal.returns-in-Do-clause-unwritten
returns-in-Do-clause-unwritten g c = λ sure none.
    c.judge_and_enter.ensures.unwritten none ∙ ap (λ (journal : JournalState _). journal.disk) ((c.settle.ensures.untouched sure).0)

pub returns-in-Do-clause-images : goal.returns-in-Do-clause-images
returns-in-Do-clause-images g c =
    settled_and_answered g.row.LIMIT c.args.self.now.doubt c.args.self.now.book c.settle.new.self.book c.judge_and_enter.new.self.book _ _ _ c.settle.ensures.book
    c.judge_and_enter.ensures.grows c.judge_and_enter.ensures.moves.extends c.settle.ensures.images c.judge_and_enter.ensures.images

pub returns-in-Do-clause-moves : goal.returns-in-Do-clause-moves
returns-in-Do-clause-moves g c =
    record {
      extends = extends_more _ _ _ c.settle.ensures.moves.extends c.judge_and_enter.ensures.moves.extends;
      moment = search rules;
    }

pub returns-in-Do-clause-counts : goal.returns-in-Do-clause-counts
returns-in-Do-clause-counts g c =
    record {
      never_falls = search rules;
      failed = λ is.
          subst (λ count. Rose count (g.D.Disk.faults c.judge_and_enter.new.self.journal.disk)) c.in_ok-settle.ensures.counts.quiet (c.judge_and_enter.ensures.counts.failed is);
      once = λ is. c.judge_and_enter.ensures.counts.once is ∙ ap (λ count. raised 1 count) c.in_ok-settle.ensures.counts.quiet;
      quiet = λ isnt. c.judge_and_enter.ensures.counts.quiet isnt ∙ c.in_ok-settle.ensures.counts.quiet;
    }

pub returns-in-Do-clause-stays_sure : goal.returns-in-Do-clause-stays_sure
returns-in-Do-clause-stays_sure g c = λ sure same.
    c.judge_and_enter.ensures.stays_sure (same ∙ sym (ap (λ (kept : Kept). kept.history) c.settle.ensures.book))
