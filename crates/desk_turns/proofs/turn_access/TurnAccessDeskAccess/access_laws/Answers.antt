-- Answers to the open goals of `access_laws`.
use Rattle.desk_access.proofs.Fronts.{continues_on, front_whole}
use Rattle.desk_turns.proofs.turn_access.TurnAccessDeskAccess.access_laws.Goals as goal

pub returns-clause-followers : goal.returns-clause-followers
returns-clause-followers g c = record { itself = front_whole; on = continues_on; continues = λ seen next continues. continues }
