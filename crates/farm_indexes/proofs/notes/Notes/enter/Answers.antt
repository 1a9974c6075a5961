-- Answers to the open goals of `enter`.
use Rattle.std.proofs.Common.{◌≡◌, ◌∙◌, ℕ, ◌+◌, Bool, [], ◌∷◌, ◌++◌, if◌then◌else◌, ap, sym, subst, arith}
use Rattle.farm_history.specs.declared.command.Command.{Command}
use Rattle.farm_history.specs.History.{History, last_place}
use Rattle.farm_indexes.specs.Notes.{AreMarked, Kept}
use Rattle.farm_indexes.specs.declared.notes.Note.{Note}
use Rattle.farm_indexes.specs.contracts.notes.Notes.{the_view}
use Rattle.farm_indexes.proofs.NotesMore.{notes_more, ticket_within}
use Rattle.farm_indexes.proofs.Numbers.{tickets_few}
use Rattle.farm_indexes.proofs.notes.Notes.enter.Goals as goal

pub mark_reversed-requires : goal.mark_reversed-requires
mark_reversed-requires c = record {
  within = λ ticket given. ticket_within c.args.past.now c.args.entry.now c.args.self.now ticket c.requires.follows c.requires.notes given;
}

pub overflow_add-self : goal.overflow_add-self
overflow_add-self c =
    let seen = ap (λ (kept : Kept). kept.next_number) c.self.view_is in
    let as_before = c.mark_reversed.ensures.next_number in
    let numbered = c.requires.notes.numbered in
    let few = c.requires.readable.few in
    omega (arith, seen, as_before, numbered, few, tickets_few c.args.past.now.entries)

-- what was marked is so by other names of the history and of the notes
renamed : (history : History) (shown : History) (command : Command) (old new : Kept) (seen : Kept) → shown ≡ history → seen ≡ new →
    AreMarked command (last_place shown + 1) old.notes new.notes → AreMarked command (last_place history + 1) old.notes seen.notes
renamed history shown command old new seen same_history same marks =
    subst (λ (kept : Kept). AreMarked command (last_place history + 1) old.notes kept.notes) (sym same)
    (subst (λ (h : History). AreMarked command (last_place h + 1) old.notes new.notes) same_history marks)

-- the number of the next ticket, by a test that was made
counted : (made test given : Bool) (number : ℕ) → made ≡ test → made ≡ given →
    (if given then number + 1 else number) ≡ (if test then number + 1 else number)
counted made test given number is was = ap (λ (b : Bool). if b then number + 1 else number) (sym was ∙ is)

pub returns-then-issues_ticket-clause-notes : goal.returns-then-issues_ticket-clause-notes
returns-then-issues_ticket-clause-notes c =
    notes_more c.args.past.now c.args.entry.now c.args.posted.now c.args.self.now (the_view c.self.inside) _ c.requires.follows c.requires.posted
    c.requires.notes
    (renamed c.args.past.now _ c.args.entry.now.cmd c.args.self.now c.mark_reversed.new.self (the_view c.self.inside) c.past.view_is
    c.self.view_is c.mark_reversed.ensures.marked)
    (ap (λ (kept : Kept). kept.next_number) c.self.view_is ∙ c.mark_reversed.ensures.next_number)
    (c.push_reserved.ensures.items ∙ ap (λ (note : Note). c.self.inside.notes.items ++ note ∷ []) c.note_of-note.ensures.note)
    (counted c.issues_ticket.result _ _ c.self.inside.next_number c.issues_ticket.ensures.issues c.if-issues_ticket.true)

pub returns-else-issues_ticket-clause-notes : goal.returns-else-issues_ticket-clause-notes
returns-else-issues_ticket-clause-notes c =
    notes_more c.args.past.now c.args.entry.now c.args.posted.now c.args.self.now (the_view c.self.inside) _ c.requires.follows c.requires.posted
    c.requires.notes
    (renamed c.args.past.now _ c.args.entry.now.cmd c.args.self.now c.mark_reversed.new.self (the_view c.self.inside) c.past.view_is
    c.self.view_is c.mark_reversed.ensures.marked)
    (ap (λ (kept : Kept). kept.next_number) c.self.view_is ∙ c.mark_reversed.ensures.next_number)
    (c.push_reserved.ensures.items ∙ ap (λ (note : Note). c.self.inside.notes.items ++ note ∷ []) c.note_of-note.ensures.note)
    (counted c.issues_ticket.result _ _ c.self.inside.next_number c.issues_ticket.ensures.issues c.if-issues_ticket.false)
