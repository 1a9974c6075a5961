-- What a crash may leave at each moment from a given one on.
use Rattle.std.specs.Prelude.{ℕ, ◌<◌, ◌≤◌, List, length, Option}
use Rattle.farm_base.specs.Known.{WhereKnown}
use Rattle.farm_disk.specs.Images.{IsCrashImage, State, state_at}

-- each image that a crash may leave at this moment or a later one is such a list of bytes
abbrev pub EachFrom : Option (List State) → ℕ → (List ℕ → Type 0) → Type 0
EachFrom trace from IsSuch = WhereKnown trace (λ states. (moment : ℕ) → from ≤ moment → moment < length states →
    (image : List ℕ) → IsCrashImage (state_at states moment) image → IsSuch image)
