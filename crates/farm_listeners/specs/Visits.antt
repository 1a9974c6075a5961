-- What a listener in memory keeps of its events, and what an accept answers at the items that are still to come.
use Rattle.std.specs.Prelude.{ℕ, ◌-◌, Bool, true, List, [], ◌∷◌, Option, Vec, vec_capacity, vec_len}
use Rattle.std.specs.declared.alloc.Global.{Global}
use Rattle.farm_ports.specs.Objects.{Calls}
use Rattle.farm_listeners.specs.Listeners.{Event, Listened, Came, Left, Ended}
use Rattle.farm_listeners.specs.Objects.{TalkState, is_new_talk, known_talk}
use Rattle.farm_listeners.specs.declared.kept_events.Kind.{Kind}
use Rattle.farm_listeners.specs.declared.kept_events.Kind.TheVariants as kinds
use Rattle.farm_listeners.specs.declared.listeners.Accepted.{Accepted}
use Rattle.farm_listeners.specs.declared.listeners.Accepted.TheVariants as answers
use Rattle.farm_listeners.specs.declared.visit.Visit.{Visit}
use Rattle.farm_listeners.specs.declared.visit.Visit.TheVariants as visits

-- there is a port for each listen, a connection for each that was handed back, and no other
abbrev pub InStep : List Kind → List ℕ → List TalkState → Type 0
InStep [] [] [] = Unit {0}
InStep [] [] (talk ∷ talks) = ⊥
InStep [] (port ∷ ports) talks = ⊥
InStep (kinds.Listened failed ∷ rest) [] talks = ⊥
InStep (kinds.Listened failed ∷ rest) (port ∷ ports) talks = InStep rest ports talks
InStep (kinds.Came ∷ rest) ports talks = InStep rest ports talks
InStep (kinds.Left ∷ rest) ports [] = ⊥
InStep (kinds.Left ∷ rest) ports (talk ∷ talks) = InStep rest ports talks
InStep (kinds.Ended ∷ rest) ports talks = InStep rest ports talks

-- the events of these kinds, with the ports and the connections in their order
unfoldable pub events_of : List Kind → List ℕ → List TalkState → List Event
events_of [] ports talks = []
events_of (kinds.Listened failed ∷ rest) [] talks = events_of rest [] talks
events_of (kinds.Listened failed ∷ rest) (port ∷ ports) talks = Listened port failed ∷ events_of rest ports talks
events_of (kinds.Came ∷ rest) ports talks = Came ∷ events_of rest ports talks
events_of (kinds.Left ∷ rest) ports [] = events_of rest ports []
events_of (kinds.Left ∷ rest) ports (talk ∷ talks) = Left (known_talk talk) ∷ events_of rest ports talks
events_of (kinds.Ended ∷ rest) ports talks = Ended ∷ events_of rest ports talks

-- for how many items more a list has memory
abbrev pub spare : {A : Type 0} → Vec A Global → ℕ
spare list = vec_capacity list - vec_len list

-- the events where each could be kept, and for how many more there is memory
pub record EventsState : Type 0 where
  pub events : Option (List Event)
  pub room : ℕ

-- an item that a listener in memory may give: an idle place, or a connection that wasn't used before
abbrev pub is_new : Visit → Bool
is_new visits.Idle = true
is_new (visits.Conn talk) = is_new_talk talk

-- what an accept answers at these items
abbrev pub answer_at : List Visit → Accepted TalkState
answer_at [] = answers.End
answer_at (visits.Idle ∷ items) = answers.Idle
answer_at (visits.Conn talk ∷ items) = answers.Conn talk

-- a listener in memory: its events where each could be kept, for how many more there is memory, the items that are still to
-- come, and its listens and accepts
pub record VisitsState : Type 0 where
  pub events : Option (List Event)
  pub room : ℕ
  pub items : List Visit
  pub calls : Calls
