-- What the words of this crate have in common, stated for every value.
use Rattle.std.specs.Prelude.{◌≡◌, ℕ, ◌+◌, ◌-◌, ◌^◌, ◌<◌, ◌≤◌, min, List, ◌++◌, Option}
use Rattle.farm_base.specs.Counts.{RoseBy, raised}
use Rattle.farm_base.specs.Known.{Stream, Adds, Takes}

-- two rises after one another are one rise by their sum
abbrev pub CountsAddUp : Type 0
CountsAddUp = (m n before middle now : ℕ) → before ≤ middle → middle ≤ now →
    RoseBy m before middle → RoseBy n middle now → RoseBy (m + n) before now

-- n faults more are as many added, up to the last u64
abbrev pub FaultsAreAdded : Type 0
FaultsAreAdded = (n before : ℕ) → before < 2 ^ 64 → raised n before ≡ min (before + n) (2 ^ 64 - 1)

-- some faults and then others are their sum
abbrev pub FaultsAddUp : Type 0
FaultsAddUp = (m n before : ℕ) → raised (m + n) before ≡ raised n (raised m before)

-- two additions after one another are one addition of both texts
abbrev pub AdditionsAddUp : Type 0
AdditionsAddUp = (old middle new : Option (List ℕ)) (first second : List ℕ) →
    Adds old middle first → Adds middle new second → Adds old new (first ++ second)

-- two takings after one another are one taking of both texts
abbrev pub TakingsAddUp : Type 0
TakingsAddUp = (old middle new : Option Stream) (first second : List ℕ) →
    Takes old middle first → Takes middle new second → Takes old new (first ++ second)
