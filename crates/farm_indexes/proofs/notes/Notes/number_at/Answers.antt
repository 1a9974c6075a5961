-- Answers to the open goals of `number_at`.
use Rattle.std.proofs.Common.{◌∙◌, Option, Some, ap, sym}
use Rattle.std.proofs.lemmas.Option.{same_Some}
use Rattle.farm_history.specs.History.{before}
use Rattle.farm_history.specs.Movements.{reversal_of}
use Rattle.farm_history.specs.Tickets.{next_number}
use Rattle.farm_indexes.specs.declared.notes.Note.{Note}
use Rattle.farm_indexes.specs.declared.notes.Note.TheVariants.{Ticket}
use Rattle.farm_indexes.proofs.NotesRead.{ticket_noted, ticket_read}
use Rattle.farm_indexes.proofs.notes.Notes.number_at.Goals as goal

pub returns-in-Ticket : goal.returns-in-Ticket
returns-in-Ticket c = record {
  number = λ history are.
      let noted = sym c.at.ensures.note ∙ c.in_ok-number.was ∙ ap {B = Option Note} Some c.in-Ticket.is in
      let read = ticket_read history c.args.self.now c.args.place c.in-Ticket.number c.in-Ticket.reversed_by are noted in
      (read.has, read.numbered);
}

pub returns-in_default : goal.returns-in_default
returns-in_default c = record {
  number = λ history are has.
      let number = next_number (before history c.args.place) in
      let reversed_by = reversal_of history c.args.place in
      let noted = sym c.in_ok-number.was ∙ c.at.ensures.note ∙ ticket_noted history c.args.self.now c.args.place are has in
      c.in_default.not-Ticket number reversed_by (same_Some c.in_ok-number.field-0 (Ticket number reversed_by) noted);
}
