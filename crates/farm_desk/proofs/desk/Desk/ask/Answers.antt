-- Answers to the open goals of `ask`.
use Rattle.std.proofs.Common.{◌≡◌, ◌∙◌, ◌+◌, ◌-◌, ◌^◌, min, false, ap, ap₂, refl, sym, subst, w64, ℤ, rules}
use Rattle.std.proofs.lemmas.Int.{to_z-of_z}
use Rattle.farm_base.specs.Counts.{Rose, raised}
use Rattle.farm_history.specs.Desk.{desk_answer}
use Rattle.farm_history.specs.History.{History}
use Rattle.farm_desk.specs.declared.opened.Opened.{Opened}
use Rattle.journaled_book.specs.Histories.{front_of}
use Rattle.journaled_book.specs.Replies.{IsAnswered, answer_of}
use Rattle.farm_desk.specs.States.{DeskState}
use Rattle.journaled_book.specs.declared.answer.Answer.{Answer}
use Rattle.journaled_book.specs.declared.answer.Answer.TheVariants.{NoMemory}
use Rattle.farm_desk.proofs.Asked.{asked_acknowledged, asked_extends, asked_found, asked_since, asked_stands, cause_of, counted_on, lacking_of, not_counted, quiet_of}
use Rattle.farm_desk.proofs.Durable.{durable}
use Rattle.farm_desk.proofs.desk.Desk.ask.Goals as goal

pub invariant_of-self : goal.invariant_of-self
invariant_of-self g c =
    asked_stands g.D.Disk.trace g.D.Disk.moment g.D.Disk.faults g.row.LIMIT _ c.args.self.now c.self.view_is c.self.inside.records.journal c.answer.new.self.journal
    c.answer.new.self.book.history c.answer.new.self.doubt c.self.invariant c.answer.ensures.kept c.answer.ensures.grows c.answer.ensures.certain
    c.answer.ensures.moves.extends c.answer.ensures.images c.saturating_add-self-inside.result
    (counted_on c.answer_of-answer.result c.self.inside.failed c.saturating_add-self-inside.result _ _ _ c.self.invariant.counted
    (c.saturating_add-self-inside.ensures ∙ ap (λ n. min (c.self.inside.failed + n) (2 ^ 64 - 1)) c.faults.ensures.faults)
    c.self.ranges.1.1.0.1 c.self.invariant.small
    (cause_of c.answer.result c.answer_of-answer.result _ c.answer_of-answer.ensures.answer c.answer.ensures.counts.once)
    (quiet_of c.answer.result c.answer_of-answer.result _ c.answer_of-answer.ensures.answer c.answer.ensures.counts.quiet)) c.answer.ensures.moves.moment

pub returns-clause-answered : goal.returns-clause-answered
returns-clause-answered g c =
    subst (λ (answer : Answer). IsAnswered c.args.self.now.history c.answer.new.self.book.history c.answer.new.self.doubt
    (desk_answer g.row.LIMIT c.args.self.now.history c.args.caller c.args.now c.args.ask.now) answer) (sym c.answer_of-answer.ensures.answer)
    (subst (λ (desk : DeskState _). IsAnswered desk.history c.answer.new.self.book.history c.answer.new.self.doubt
    (desk_answer g.row.LIMIT desk.history c.args.caller c.args.now c.args.ask.now) (answer_of c.answer.result)) c.self.view_is
    (subst (λ (clock : ℤ). IsAnswered c.self.inside.records.book.history c.answer.new.self.book.history c.answer.new.self.doubt
    (desk_answer g.row.LIMIT c.self.inside.records.book.history c.args.caller clock c.args.ask.now) (answer_of c.answer.result))
    (to_z-of_z w64 c.args.now c.ranges.now) c.answer.ensures.answered))

pub returns-clause-durable : goal.returns-clause-durable
returns-clause-durable g c =
    durable g.D.Disk.trace g.D.Disk.moment g.D.Disk.faults g.row.LIMIT _ c.answer.new.self.journal refl
    (asked_stands g.D.Disk.trace g.D.Disk.moment g.D.Disk.faults g.row.LIMIT _ c.args.self.now c.self.view_is c.self.inside.records.journal c.answer.new.self.journal
    c.answer.new.self.book.history c.answer.new.self.doubt c.self.invariant c.answer.ensures.kept c.answer.ensures.grows c.answer.ensures.certain
    c.answer.ensures.moves.extends c.answer.ensures.images c.saturating_add-self-inside.result
    (counted_on c.answer_of-answer.result c.self.inside.failed c.saturating_add-self-inside.result _ _ _ c.self.invariant.counted
    (c.saturating_add-self-inside.ensures ∙ ap (λ n. min (c.self.inside.failed + n) (2 ^ 64 - 1)) c.faults.ensures.faults)
    c.self.ranges.1.1.0.1 c.self.invariant.small
    (cause_of c.answer.result c.answer_of-answer.result _ c.answer_of-answer.ensures.answer c.answer.ensures.counts.once)
    (quiet_of c.answer.result c.answer_of-answer.result _ c.answer_of-answer.ensures.answer c.answer.ensures.counts.quiet)) c.answer.ensures.moves.moment)

pub returns-clause-since_call : goal.returns-clause-since_call
returns-clause-since_call g c =
    asked_since g.D.Disk.trace g.D.Disk.moment g.D.Disk.faults g.row.LIMIT _ c.args.self.now c.self.view_is c.self.inside.records.journal c.answer.new.self.journal
    c.answer.new.self.book.history c.answer.new.self.doubt c.self.invariant c.answer.ensures.kept c.answer.ensures.grows c.answer.ensures.certain
    c.answer.ensures.moves.extends c.answer.ensures.images

pub returns-clause-acknowledged : goal.returns-clause-acknowledged
returns-clause-acknowledged g c =
    asked_acknowledged g.D.Disk.trace g.D.Disk.moment g.D.Disk.faults g.row.LIMIT _ c.args.self.now c.self.view_is c.self.inside.records.journal c.answer.new.self.journal
    c.answer.new.self.book.history c.answer.new.self.doubt c.self.invariant c.answer.ensures.kept c.answer.ensures.grows c.answer.ensures.certain
    c.answer.ensures.moves.extends c.answer.ensures.images

pub returns-clause-untouched : goal.returns-clause-untouched
returns-clause-untouched g c =
    subst (λ (desk : DeskState _). desk.doubt ≡ false →
    (desk_answer g.row.LIMIT desk.history c.args.caller c.args.now c.args.ask.now).history ≡ desk.history → c.answer.new.self.journal.disk ≡ desk.disk)
    c.self.view_is
    (subst (λ (clock : ℤ). c.self.inside.records.doubt ≡ false →
    (desk_answer g.row.LIMIT c.self.inside.records.book.history c.args.caller clock c.args.ask.now).history ≡ c.self.inside.records.book.history →
    c.answer.new.self.journal.disk ≡ c.self.inside.records.journal.disk) (to_z-of_z w64 c.args.now c.ranges.now) c.answer.ensures.untouched)

pub returns-clause-unwritten : goal.returns-clause-unwritten
returns-clause-unwritten g c =
    subst (λ (desk : DeskState _). desk.doubt ≡ false → c.answer_of-answer.result ≡ NoMemory → c.answer.new.self.journal.disk ≡ desk.disk) c.self.view_is
    (λ sure. lacking_of c.answer.result c.answer_of-answer.result _ c.answer_of-answer.ensures.answer (c.answer.ensures.unwritten sure))

pub returns-clause-found : goal.returns-clause-found
returns-clause-found g c =
    let history =
    asked_found g.D.Disk.trace g.D.Disk.moment g.D.Disk.faults g.row.LIMIT _ c.args.self.now c.self.view_is c.self.inside.records.journal c.answer.new.self.journal
    c.answer.new.self.book.history c.answer.new.self.doubt c.self.invariant c.answer.ensures.kept c.answer.ensures.grows c.answer.ensures.certain
    c.answer.ensures.moves.extends c.answer.ensures.images in
    let opened : c.self.inside.opened ≡ c.args.self.now.opened = ap (λ (desk : DeskState _). desk.opened) c.self.view_is in
    let disk : c.self.inside.found.value ≡ c.args.self.now.found = ap (λ (desk : DeskState _). desk.found) c.self.view_is in
    ap₂ (λ disk (stand : Opened). record { disk = disk; history = front_of c.answer.new.self.book.history stand.entries; opened = stand }) disk opened
    ∙ ap (λ (those : History). record { disk = c.args.self.now.found; history = those; opened = c.args.self.now.opened }) history

pub returns-clause-moves : goal.returns-clause-moves
returns-clause-moves g c =
    record {
      extends = asked_extends g.D.Disk.trace g.D.Disk.moment g.D.Disk.faults g.row.LIMIT _ c.args.self.now c.self.view_is c.self.inside.records.journal c.answer.new.self.journal
          c.answer.new.self.book.history c.answer.new.self.doubt c.self.invariant c.answer.ensures.kept c.answer.ensures.grows c.answer.ensures.certain
          c.answer.ensures.moves.extends c.answer.ensures.images;
      moment = search rules;
    }

pub returns-clause-counts : goal.returns-clause-counts
returns-clause-counts g c =
    record {
      never_falls = search rules;
      failed = λ is.
          subst (λ (desk : DeskState _). Rose (g.D.Disk.faults desk.disk) (g.D.Disk.faults c.answer.new.self.journal.disk)) c.self.view_is
          (cause_of c.answer.result c.answer_of-answer.result _ c.answer_of-answer.ensures.answer c.answer.ensures.counts.failed is);
      once = λ is.
          cause_of c.answer.result c.answer_of-answer.result _ c.answer_of-answer.ensures.answer c.answer.ensures.counts.once is
          ∙ ap (λ (desk : DeskState _). raised 1 (g.D.Disk.faults desk.disk)) c.self.view_is;
      quiet = λ none.
          quiet_of c.answer.result c.answer_of-answer.result _ c.answer_of-answer.ensures.answer c.answer.ensures.counts.quiet none
          ∙ ap (λ (desk : DeskState _). g.D.Disk.faults desk.disk) c.self.view_is;
    }

pub returns-clause-not_failed : goal.returns-clause-not_failed
returns-clause-not_failed g c = λ none.
    not_counted c.answer_of-answer.result c.self.inside.failed c.saturating_add-self-inside.result
    (c.saturating_add-self-inside.ensures ∙ ap (λ n. min (c.self.inside.failed + n) (2 ^ 64 - 1)) c.faults.ensures.faults) c.self.ranges.1.1.0.1 none
    ∙ ap (λ (desk : DeskState _). desk.failed) c.self.view_is

pub returns-clause-sure : goal.returns-clause-sure
returns-clause-sure g c = lacking_of c.answer.result c.answer_of-answer.result _ c.answer_of-answer.ensures.answer c.answer.ensures.sure

pub returns-clause-stays_sure : goal.returns-clause-stays_sure
returns-clause-stays_sure g c =
    subst (λ (desk : DeskState _). desk.doubt ≡ false → c.answer.new.self.book.history ≡ desk.history → c.answer.new.self.doubt ≡ false) c.self.view_is
    c.answer.ensures.stays_sure
