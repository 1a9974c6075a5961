-- What listeners and connections show to clauses. One in memory shows what it holds and its calls, a real one what it stands over.
use Rattle.std.specs.Prelude.{ℕ, ◌+◌, ◌-◌, ◌^◌, ◌==◌, ◌&&◌, Bool, length, min, take, Some}
use Rattle.farm_ports.specs.Objects.{GatherState, ScriptState}
use Rattle.farm_ports.specs.Pieces.{at_offset}
use Rattle.farm_listeners.specs.Listeners.{Connection}

-- a connection in memory: the source of what is taken from it, and the sink of what is put
pub record TalkState : Type 0 where
  pub source : ScriptState
  pub sink : GatherState

-- the takes and the puts that failed, as one count; it stands still at the last u64
abbrev pub talk_faults : TalkState → ℕ
talk_faults talk = min (talk.source.calls.faults + talk.sink.calls.faults) (2 ^ 64 - 1)

-- what is known of a connection in memory
abbrev pub known_talk : TalkState → Connection
known_talk talk = record {
  stream = Some (at_offset talk.source.taken talk.source.bytes);
  held = Some talk.sink.bytes;
  faults = talk_faults talk;
}

-- no byte was taken from a connection in memory, it holds none, and none of its calls failed
abbrev pub is_new_talk : TalkState → Bool
is_new_talk talk =
    (length (take talk.source.taken talk.source.bytes) == 0) && (length talk.sink.bytes == 0) && (talk_faults talk == 0)

-- a listener of the system: what it stands over, whether it listens, and its faults
pub record Listening (A : Type 0) : Type 0 where
  pub over : A
  pub listening : Bool
  pub faults : ℕ
