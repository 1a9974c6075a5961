-- A disk's bytes, and what a crash may leave of them.
use Rattle.std.specs.Prelude.{◌≡◌, ◌⊎◌, ℕ, ◌+◌, ◌-◌, ◌<◌, ◌≤◌, max, List, [], ◌∷◌, ◌++◌, length, get_or, slice_index, take, drop, replicate}

-- a range of a disk that a write covers: from an offset, this long
pub record Range : Type 0 where
  pub at : ℕ
  pub size : ℕ

-- A disk at one moment: the bytes that reads give, those that the last good sync left (before the first, those that there
-- were at the start), and the ranges of all writes begun since, the newest first.
pub record State : Type 0 where
  pub seen : List ℕ
  pub base : List ℕ
  pub ranges : List Range

-- the greatest of a length and of the ends of these ranges
abbrev pub reach_from : ℕ → List Range → ℕ
reach_from least [] = least
reach_from least (range ∷ ranges) = max (range.at + range.size) (reach_from least ranges)

-- the greatest length that the writes begun since the last good sync could reach
abbrev pub reach : State → ℕ
reach state = reach_from (length state.base) state.ranges

-- a position is in one of these ranges
abbrev pub IsWritten : List Range → ℕ → Type 0
IsWritten [] position = ⊥
IsWritten (range ∷ ranges) position =
    ((range.at ≤ position) × (position < range.at + range.size)) ⊎ IsWritten ranges position

-- A crash may leave these bytes: no fewer than the base has, no more than the writes could reach, and of the base each byte
-- that no write covers. Every other byte may be any.
pub record IsCrashImage (state : State) (image : List ℕ) : Type 0 where
  pub least : length state.base ≤ length image
  pub most : length image ≤ reach state
  pub kept : (position : ℕ) → position < length state.base → (IsWritten state.ranges position → ⊥) →
      slice_index image position ≡ slice_index state.base position

-- These bytes over others at an offset, with one value at each position between the end of the others and the offset. No byte
-- changes nothing.
unfoldable pub overlaid : ℕ → ℕ → List ℕ → List ℕ → List ℕ
overlaid filler at [] old = old
overlaid filler at (byte ∷ bytes) old =
    take at (old ++ replicate at filler) ++ (byte ∷ bytes) ++ drop (at + length (byte ∷ bytes)) old

-- these bytes written over others at an offset, with zeros where the others are shorter than the offset
abbrev pub written_at : ℕ → List ℕ → List ℕ → List ℕ
written_at at bytes old = overlaid 0 at bytes old

-- a disk that holds these bytes and whose writes are all synced
abbrev pub at_rest : List ℕ → State
at_rest bytes = record { seen = bytes; base = bytes; ranges = [] }

-- A write of these bytes at an offset has begun, and reads give what they gave before. One without a byte begins no range.
abbrev pub begun : ℕ → List ℕ → State → State
begun at [] state = state
begun at (byte ∷ bytes) state = record state { ranges = record { at = at; size = length (byte ∷ bytes) } ∷ state.ranges }

-- such a write has succeeded, and reads give what it wrote
abbrev pub written : ℕ → List ℕ → State → State
written at bytes state = record (begun at bytes state) { seen = written_at at bytes state.seen }

-- nothing has changed
abbrev pub unchanged : State → State
unchanged state = state

-- a sync has succeeded: what reads give is the base, and no write is begun
abbrev pub synced : State → State
synced state = at_rest state.seen

-- The state at a moment, of the states of a disk from the first moment, 0, on. Past the last of them it is an empty disk.
abbrev pub state_at : List State → ℕ → State
state_at states moment = get_or states moment (at_rest [])

-- the last of them
abbrev pub present : List State → State
present states = state_at states (length states - 1)
