-- Answers to the open goals of `turn_laws`.
use Rattle.desk_turns.proofs.Counting.{tallies_add_up as add_up}
use Rattle.desk_turns.proofs.laws.turn_laws.Goals as goal

pub returns : goal.returns
returns c = record { tallies_add_up = add_up }
