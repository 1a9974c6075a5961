-- Answers to the open goal of `new`.
use Rattle.std.proofs.Common.{refl}
use Rattle.farm_indexes.proofs.NotesMore.{no_notes}
use Rattle.farm_indexes.proofs.notes.Notes.new.Goals as goal

pub returns : goal.returns
returns c = record { notes = λ site. no_notes site _ c.new.ensures.items refl }
