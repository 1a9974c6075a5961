-- What a write that is synced at once does to the states of a disk.
use Rattle.std.specs.Prelude.{◌≡◌, ◌⊎◌, ℕ, ◌+◌, ◌<◌, ◌≤◌, List, [], ◌∷◌, ◌++◌, length, take, Option, Some, None, Result, IsOk, MatchResult}
use Rattle.farm_disk.specs.Images.{State, begun, present, state_at, synced, written, written_at}

-- once the write has begun, before the sync is over: the base is as it was, reads give what they gave or what the write makes of
-- that, and the range is begun or isn't yet
pub record IsWriting (at : ℕ) (bytes : List ℕ) (old state : State) : Type 0 where
  pub base : state.base ≡ old.base
  pub seen : (state.seen ≡ old.seen) ⊎ (state.seen ≡ written_at at bytes old.seen)
  pub ranges : (state.ranges ≡ old.ranges) ⊎ (state.ranges ≡ (begun at bytes old).ranges)

-- The states before stay. At Ok the last state is what the write makes of the one before, synced; every other one since is as
-- within the write, and so are all of them after a fault.
pub record AddsSynced {T E : Type 0} (at : ℕ) (bytes : List ℕ) (old new : List State) (result : Result T E) : Type 0 where
  pub extends : take (length old) new ≡ old
  pub within : (moment : ℕ) → length old ≤ moment + 1 → moment < length new →
      IsWriting at bytes (present old) (state_at new moment) ⊎
      (IsOk result × (state_at new moment ≡ synced (written at bytes (present old))))
  pub ends : MatchResult result
      (λ done. present new ≡ synced (written at bytes (present old)))
      (λ fault. IsWriting at bytes (present old) (present new))

-- The same where the states are known; what was known stays known.
abbrev pub WritesSynced : {T E : Type 0} → ℕ → List ℕ → Option (List State) → Option (List State) → Result T E → Type 0
WritesSynced at bytes old None result = Unit {0}
WritesSynced at bytes None (Some new) result = ⊥
WritesSynced at bytes (Some old) (Some new) result = AddsSynced at bytes old new result

-- Where the states are known afterwards, they are those before and then the four of one write of these bytes at an offset and one sync:
-- the write has begun, it is over, the sync has begun, it is over.
abbrev pub AddsOneWrite : ℕ → List ℕ → Option (List State) → Option (List State) → Type 0
AddsOneWrite at bytes old None = Unit {0}
AddsOneWrite at bytes None (Some new) = ⊥
AddsOneWrite at bytes (Some old) (Some new) =
    let over = written at bytes (present old) in
    new ≡ old ++ begun at bytes (present old) ∷ over ∷ over ∷ synced over ∷ []
