-- Answers to the open goals of `talks`.
use Rattle.std.proofs.Common.{◌≡◌, map}
use Rattle.farm_listeners.specs.Listeners.{left_of}
use Rattle.farm_listeners.specs.Objects.{known_talk}
use Rattle.farm_listeners.proofs.Events.{where_known}
use Rattle.farm_listeners.proofs.Steps.{left_of-events_of}
use Rattle.farm_listeners.proofs.kept_events.KeptEvents.talks.Goals as goal

pub returns : goal.returns
returns c =
    record {
      known = rw (← c.self.view_is) (where_known _ _ (λ events. left_of events ≡ map known_talk c.deref.result.now)
          (rw c.deref.ensures.value (left_of-events_of c.self.inside.kinds.items c.self.inside.ports.items c.self.inside.talks.items c.self.invariant)));
    }
