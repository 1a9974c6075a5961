-- Room that an object in memory takes beforehand, for copies of the bytes that it keeps.
use Rattle.std.specs.Prelude.{◌≡◌, ℕ, ◌+◌, ◌<◌, ◌≤◌, [], Vec, vec_capacity}
use Rattle.std.specs.declared.alloc.Global.{Global}

-- for how many copies there is room, and for how many bytes of each
pub record Copies : Type 0 where
  pub count : ℕ
  pub size : ℕ

-- a list without a byte that has room for this many
abbrev pub IsSpare : ℕ → Vec ℕ Global → Type 0
IsSpare size copy = (copy.items ≡ []) × (size ≤ vec_capacity copy)

-- there is room for a copy of this many bytes
abbrev pub FitsCopy : ℕ → Copies → Type 0
FitsCopy bytes copies = (0 < copies.count) × (bytes ≤ copies.size)

-- a call took room for one copy at most
pub record TakesOne (old new : Copies) : Type 0 where
  pub count : old.count ≤ new.count + 1
  pub size : new.size ≡ old.size
