-- Answers to the open goals of `reversal_of`.
use Rattle.std.proofs.Common.{◌∙◌, Option, Some, ap, sym}
use Rattle.std.proofs.lemmas.Option.{same_Some}
use Rattle.farm_indexes.specs.declared.notes.Note.{Note}
use Rattle.farm_indexes.specs.declared.notes.Note.TheVariants.{Ticket}
use Rattle.farm_indexes.proofs.NotesRead.{ticket_read, unreversed_read}
use Rattle.farm_indexes.proofs.notes.Notes.reversal_of.Goals as goal

pub returns-in-Ticket : goal.returns-in-Ticket
returns-in-Ticket c = record {
  reversal = λ history are.
      let noted = sym c.at.ensures.note ∙ c.in_ok-reversed_by.was ∙ ap {B = Option Note} Some c.in-Ticket.is in
      (ticket_read history c.args.self.now c.args.place c.in-Ticket.number c.in-Ticket.reversed_by are noted).reversed;
}

pub returns-in_default : goal.returns-in_default
returns-in_default c = record {
  reversal = λ history are.
      sym (unreversed_read history c.args.self.now c.args.place are
      (λ number reversed_by noted. c.in_default.not-Ticket number reversed_by
      (same_Some c.in_ok-reversed_by.field-0 (Ticket number reversed_by) (sym c.in_ok-reversed_by.was ∙ c.at.ensures.note ∙ noted))));
}
