-- Answers to the open goals of `ports`.
use Rattle.std.proofs.Common.{◌≡◌}
use Rattle.farm_listeners.specs.Listeners.{ports_of}
use Rattle.farm_listeners.proofs.Events.{where_known}
use Rattle.farm_listeners.proofs.Steps.{ports_of-events_of}
use Rattle.farm_listeners.proofs.kept_events.KeptEvents.ports.Goals as goal

pub returns : goal.returns
returns c =
    record {
      known = rw (← c.self.view_is) (where_known _ _ (λ events. ports_of events ≡ c.deref.result.now)
          (rw c.deref.ensures.value (ports_of-events_of c.self.inside.kinds.items c.self.inside.ports.items c.self.inside.talks.items c.self.invariant)));
    }
