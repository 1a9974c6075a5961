-- What a call on a listener adds to the events that the listener is known to have seen, and what is known of a connection.
use Rattle.std.specs.Prelude.{◌≡◌, ℕ, Bool, true, false, List, [], ◌∷◌, ◌++◌, Option, Some, None, Result, Ok, Err}
use Rattle.farm_base.specs.Known.{Stream, WhereKnown}
use Rattle.farm_listeners.specs.declared.listeners.Accepted.{Accepted}
use Rattle.farm_listeners.specs.declared.listeners.Accepted.TheVariants.{Conn, Idle, End}

-- a connection, as far as it is known: what was taken from it and is left, the bytes that it holds, and its count of faults
pub record Connection : Type 0 where
  pub stream : Option Stream
  pub held : Option (List ℕ)
  pub faults : ℕ

-- what is known of a connection, by what its type makes known
abbrev pub connection_of : {C : Type 0} → (C → Option Stream) → (C → Option (List ℕ)) → (C → ℕ) → C → Connection
connection_of stream held faults conn = record { stream = stream conn; held = held conn; faults = faults conn }

-- if it is known, nothing was taken from a connection and it holds nothing; and its count of faults is 0
pub record IsFreshConnection (conn : Connection) : Type 0 where
  pub taken : WhereKnown conn.stream (λ stream. stream.taken ≡ [])
  pub held : WhereKnown conn.held (λ bytes. bytes ≡ [])
  pub faults : conn.faults ≡ 0

-- The listener was asked to listen on a port, and failed or not; a connection came; a connection was handed back, of which this
-- was known; the listener answered that no more will come.
pub data Event : Type 0 where
  Listened : (port : ℕ) → (failed : Bool) → Event
  Came : Event
  Left : (conn : Connection) → Event
  Ended : Event

-- the ports that a listener was asked to listen on, in their order
abbrev pub ports_of : List Event → List ℕ
ports_of [] = []
ports_of (Listened port failed ∷ events) = port ∷ ports_of events
ports_of (Came ∷ events) = ports_of events
ports_of (Left conn ∷ events) = ports_of events
ports_of (Ended ∷ events) = ports_of events

-- the connections that were handed back to it, in their order
abbrev pub left_of : List Event → List Connection
left_of [] = []
left_of (Listened port failed ∷ events) = left_of events
left_of (Came ∷ events) = left_of events
left_of (Left conn ∷ events) = conn ∷ left_of events
left_of (Ended ∷ events) = left_of events

-- where the events are known afterwards, they are those before and then these
abbrev pub AddsEvents : Option (List Event) → Option (List Event) → List Event → Type 0
AddsEvents old None events = Unit {0}
AddsEvents None (Some new) events = ⊥
AddsEvents (Some old) (Some new) events = new ≡ old ++ events

-- a listen adds its port, and whether it failed
abbrev pub Listens : {T E : Type 0} → Option (List Event) → Option (List Event) → ℕ → Result T E → Type 0
Listens old new port (Ok done) = AddsEvents old new (Listened port false ∷ [])
Listens old new port (Err e) = AddsEvents old new (Listened port true ∷ [])

-- an accept adds that a connection came or that no more will come, and an idle one adds nothing
abbrev pub AddsAccepted : {C : Type 0} → Option (List Event) → Option (List Event) → Accepted C → Type 0
AddsAccepted old new (Conn conn) = AddsEvents old new (Came ∷ [])
AddsAccepted old new Idle = AddsEvents old new []
AddsAccepted old new End = AddsEvents old new (Ended ∷ [])

-- an accept adds what it gave, and one that failed adds nothing
abbrev pub Accepts : {C E : Type 0} → Option (List Event) → Option (List Event) → Result (Accepted C) E → Type 0
Accepts old new (Ok accepted) = AddsAccepted old new accepted
Accepts old new (Err e) = AddsEvents old new []

-- a connection that is handed back is added with what is known of it then
abbrev pub HandsBack : Option (List Event) → Option (List Event) → Connection → Type 0
HandsBack old new conn = AddsEvents old new (Left conn ∷ [])

-- holds of the connection that came, if one did
abbrev pub IfCame : {C : Type 0} → Accepted C → (C → Type 0) → Type 0
IfCame (Conn conn) P = P conn
IfCame Idle P = Unit {0}
IfCame End P = Unit {0}

-- events that were added one after another were added as one list
abbrev pub EventsAddUp : Type 0
EventsAddUp = (old middle new : Option (List Event)) (first second : List Event) →
    AddsEvents old middle first → AddsEvents middle new second → AddsEvents old new (first ++ second)

-- where no call was made the events are those before
abbrev pub NoCallAddsNone : Type 0
NoCallAddsNone = (events : Option (List Event)) → AddsEvents events events []
