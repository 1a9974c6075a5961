-- Answers to the open goals of `gain_at`.
use Rattle.std.proofs.Common.{◌∙◌, Option, Some, ap, sym}
use Rattle.farm_indexes.specs.declared.notes.Note.{Note}
use Rattle.farm_indexes.proofs.NotesRead.{gain_in, gain_read, no_gain_in}
use Rattle.farm_indexes.proofs.notes.Notes.gain_at.Goals as goal

pub returns-in_err-gain : goal.returns-in_err-gain
returns-in_err-gain c = record {
  gain = λ history are.
      c.from_residual.ensures ∙ sym (ap gain_in (sym c.at.ensures.note ∙ c.in_err-gain.was))
      ∙ gain_read history c.args.self.now c.args.place are;
}

pub returns-in-Gain : goal.returns-in-Gain
returns-in-Gain c = record {
  gain = λ history are.
      let noted = sym c.at.ensures.note ∙ c.in_ok-gain.was ∙ ap {B = Option Note} Some c.in-Gain.is in
      sym (ap gain_in noted) ∙ gain_read history c.args.self.now c.args.place are;
}

pub returns-in_default : goal.returns-in_default
returns-in_default c = record {
  gain = λ history are.
      sym (no_gain_in c.in_ok-gain.field-0 c.in_default.not-Gain) ∙ sym (ap gain_in (sym c.at.ensures.note ∙ c.in_ok-gain.was))
      ∙ gain_read history c.args.self.now c.args.place are;
}
