-- What a link in memory keeps of its calls, and what it has for a receive.
use Rattle.std.specs.Prelude.{ℕ, ◌+◌, ◌≤◌, List, [], ◌∷◌, length, Option, IsSomeAnd}
use Rattle.farm_base.specs.Known.{WhereKnown}
use Rattle.farm_ports.specs.Copies.{Copies, FitsCopy, TakesOne}
use Rattle.farm_ports.specs.Objects.{Calls}
use Rattle.farm_ports.specs.declared.links.LinkCall.{LinkCall}

-- the calls where each could be kept, for how many calls there is memory, and the room for copies of their bytes
pub record KeptState : Type 0 where
  pub calls : Option (List LinkCall)
  pub room : ℕ
  pub copies : Copies

-- where the calls are known there is memory for this many more
abbrev pub HasRoom : ℕ → Option (List LinkCall) → ℕ → Type 0
HasRoom more calls room = WhereKnown calls (λ kept. length kept + more ≤ room)

-- the calls are known, and there is memory for this many more
abbrev pub CanKeep : ℕ → Option (List LinkCall) → ℕ → Type 0
CanKeep more calls room = IsSomeAnd calls (λ kept. length kept + more ≤ room)

-- the responses that are still to come, and the bytes that are left of the one before them
pub record ResponsesState : Type 0 where
  pub coming : List (List ℕ)
  pub left : List ℕ

-- the first response, and no byte where no response is left
abbrev pub first_response : List (List ℕ) → List ℕ
first_response [] = []
first_response (response ∷ responses) = response

-- the responses after the first
abbrev pub responses_after : List (List ℕ) → List (List ℕ)
responses_after [] = []
responses_after (response ∷ responses) = responses

-- a link in memory: its calls where each could be kept, room for how many and for copies of their bytes, responses to come, what is
-- left to receive, its count
pub record WireState : Type 0 where
  pub calls : Option (List LinkCall)
  pub room : ℕ
  pub copies : Copies
  pub responses : List (List ℕ)
  pub left : List ℕ
  pub counted : Calls

-- the calls of a link are known, and there is memory for one more with this many bytes and for a pause after it
abbrev pub HasRoomFor : ℕ → WireState → Type 0
HasRoomFor bytes wire = CanKeep 2 wire.calls wire.room × FitsCopy bytes wire.copies

-- a call took memory for one call at most
pub record LeavesRoom (old new : WireState) : Type 0 where
  pub calls : old.room ≤ new.room
  pub copies : TakesOne old.copies new.copies
