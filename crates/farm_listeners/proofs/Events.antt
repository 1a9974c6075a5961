-- The events of a listener, one after another.
use Rattle.std.proofs.Common.{◌≡◌, List, ◌++◌, sym, ap, ◌∙◌, append_assoc, append-nil, Bool, true, false, Some, None, Result, Ok, Err}
use Rattle.std.specs.Prelude.{if◌then◌else◌, IsOk, is_ok}
use Rattle.farm_base.specs.Known.{WhereKnown}
use Rattle.farm_listeners.specs.Listeners.{AddsEvents, Event, EventsAddUp, NoCallAddsNone}

-- events that were added one after another were added as one list
pub events_add_up : EventsAddUp
events_add_up old middle None first second added after = tt
events_add_up old None (Some new) first second added after = absurd after
events_add_up None (Some middle) (Some new) first second added after = absurd added
events_add_up (Some old) (Some middle) (Some new) first second added after =
    after ∙ ap (λ events. events ++ second) added ∙ append_assoc old first second

-- where no call was made the events are those before
pub no_call_adds_none : NoCallAddsNone
no_call_adds_none None = tt
no_call_adds_none (Some events) = sym (append-nil events)

-- where events are known before and afterwards, they are added to these
pub adds_known : (known : Bool) (old new events : List Event) → new ≡ old ++ events →
    AddsEvents (if known then Some old else None) (if known then Some new else None) events
adds_known true old new events added = added
adds_known false old new events added = tt

-- a push that succeeded leaves the list with its item
pub pushed : {A T E : Type 0} (result : Result T E) (old all new : List A) →
    new ≡ (if is_ok result then all else old) → IsOk result → new ≡ all
pushed (Ok done) old all new items ok = items
pushed (Err e) old all new items ok = cc

-- what holds of events that are known
pub where_known : (known : Bool) (events : List Event) (P : List Event → Type 0) → P events →
    WhereKnown (if known then Some events else None) P
where_known true events P holds = holds
where_known false events P holds = tt
