-- What a disk in memory keeps of its writes and syncs: its states follow from the bytes at the start.
use Rattle.std.specs.Prelude.{◌≡◌, ◌⊎◌, ℕ, ◌+◌, ◌<◌, ◌≤◌, Bool, true, false, List, [], ◌∷◌, ◌++◌, length, Result, Ok, Err}
use Rattle.farm_disk.specs.Images.{State, at_rest, begun, synced, written}
use Rattle.farm_disk.specs.declared.disk_call.DiskCall.{DiskCall}
use Rattle.farm_disk.specs.declared.disk_call.DiskCall.TheVariants.{Write, Sync}
use Rattle.farm_ports.specs.Copies.{Copies, FitsCopy, TakesOne}
use Rattle.farm_ports.specs.Objects.{Calls}

-- the memory of a disk in memory: for how many writes and syncs, for copies of what is written, and for how many bytes that
-- reads give
pub record Room : Type 0 where
  pub calls : ℕ
  pub copies : Copies
  pub bytes : ℕ

-- the bytes at the start, the writes and syncs that were begun since, in their order, and the room for more
pub record KeptDisk : Type 0 where
  pub start : List ℕ
  pub calls : List DiskCall
  pub room : Room

-- a disk in memory: the bytes at the start, the writes and syncs that were begun since, the room for more, and how many calls it has
-- counted
pub record MemState : Type 0 where
  pub start : List ℕ
  pub calls : List DiskCall
  pub room : Room
  pub counted : Calls

-- after these calls there is room for one more
abbrev pub HasRoomForCall : List DiskCall → Room → Type 0
HasRoomForCall calls room = length calls < room.calls

-- after these calls there is room for a write of these bytes at an offset
abbrev pub HasRoomForWrite : ℕ → List ℕ → List DiskCall → Room → Type 0
HasRoomForWrite at bytes calls room =
    HasRoomForCall calls room × FitsCopy (length bytes) room.copies × (at + length bytes ≤ room.bytes)

-- a call took room for one write at most
pub record LeavesRoom (old new : Room) : Type 0 where
  pub calls : old.calls ≤ new.calls
  pub copies : TakesOne old.copies new.copies
  pub bytes : old.bytes ≤ new.bytes

-- a disk once a call has begun
abbrev pub call_begun : DiskCall → State → State
call_begun (Write at bytes done) state = begun at bytes state
call_begun (Sync done) state = state

-- a disk once a call is over: one that isn't done leaves it as it was once it had begun
abbrev pub call_over : DiskCall → State → State
call_over (Write at bytes true) state = written at bytes state
call_over (Write at bytes false) state = begun at bytes state
call_over (Sync true) state = synced state
call_over (Sync false) state = state

-- the states of a disk through these calls, each of which takes two moments, from a first state on
abbrev pub states_through : State → List DiskCall → List State
states_through state [] = state ∷ []
states_through state (call ∷ calls) = state ∷ call_begun call state ∷ states_through (call_over call state) calls

-- a disk once these calls are over
abbrev pub state_after : State → List DiskCall → State
state_after state [] = state
state_after state (call ∷ calls) = state_after (call_over call state) calls

-- the states of a disk that held these bytes, all of them synced, and then took these calls
unfoldable pub states_of : List ℕ → List DiskCall → List State
states_of start calls = states_through (at_rest start) calls

-- what reads give of such a disk
unfoldable pub seen_of : List ℕ → List DiskCall → List ℕ
seen_of start calls = (state_after (at_rest start) calls).seen

-- a call that succeeded was kept as done; one that failed was kept as not done, or nothing was kept
abbrev pub Keeps : {T E : Type 0} → List DiskCall → List DiskCall → (Bool → DiskCall) → Result T E → Type 0
Keeps old new call (Ok value) = new ≡ old ++ call true ∷ []
Keeps old new call (Err fault) = (new ≡ old ++ call false ∷ []) ⊎ (new ≡ old)
