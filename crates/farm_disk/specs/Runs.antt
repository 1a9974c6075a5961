-- What holds of a disk over the calls of a run: what a crash may leave now, and at each moment since the run began.
use Rattle.std.specs.Prelude.{◌≡◌, ℕ, ◌+◌, ◌<◌, ◌≤◌, List, length, take, Option, Some, None}
use Rattle.farm_base.specs.Known.{WhereKnown}
use Rattle.farm_disk.specs.Images.{IsCrashImage, State, present, state_at}

-- where the states are known afterwards, they are those before and then the later ones
abbrev pub Extends : Option (List State) → Option (List State) → Type 0
Extends old None = Unit {0}
Extends None (Some new) = ⊥
Extends (Some old) (Some new) = take (length old) new ≡ old

-- where the states are known afterwards they continue those before, and the moment isn't an earlier one
pub record MovesOn (old new : Option (List State)) (before now : ℕ) : Type 0 where
  pub extends : Extends old new
  pub moment : before ≤ now

-- each image that a crash may leave now is such a list of bytes
abbrev pub EachNow : Option (List State) → (List ℕ → Type 0) → Type 0
EachNow trace IsSuch = WhereKnown trace (λ states. (image : List ℕ) → IsCrashImage (present states) image → IsSuch image)

-- Each image that a crash may leave at a moment from the last of the old states on is such a list of bytes: at the moment at
-- which the run began, at each within it, and now.
abbrev pub EachSince : Option (List State) → Option (List State) → (List ℕ → Type 0) → Type 0
EachSince old None IsSuch = Unit {0}
EachSince None (Some new) IsSuch = ⊥
EachSince (Some old) (Some new) IsSuch =
    (moment : ℕ) → length old ≤ moment + 1 → moment < length new →
    (image : List ℕ) → IsCrashImage (state_at new moment) image → IsSuch image

-- Nothing was written: where the states are known afterwards, reads give what they gave, and each image that a crash may leave
-- since is one that it might have left before.
pub record LeavesBytes (old new : List State) : Type 0 where
  pub reads : (present new).seen ≡ (present old).seen
  pub images : EachSince (Some old) (Some new) (IsCrashImage (present old))

-- The same where the states are known; what was known stays known.
abbrev pub WritesNothing : Option (List State) → Option (List State) → Type 0
WritesNothing old None = Unit {0}
WritesNothing None (Some new) = ⊥
WritesNothing (Some old) (Some new) = LeavesBytes old new
