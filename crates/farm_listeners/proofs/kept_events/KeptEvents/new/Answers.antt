-- Answers to the open goals of `new`.
use Rattle.std.proofs.Common.{refl}
use Rattle.farm_listeners.specs.Visits.{events_of}
use Rattle.farm_listeners.proofs.kept_events.KeptEvents.new.Goals as goal

pub returns : goal.returns
unfolding events_of
returns c = record { known = rw c.new.ensures.items refl }
