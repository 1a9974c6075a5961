-- What was done with each of some things, one by one or side by side.
use Rattle.std.specs.Prelude.{◌≡◌, ℕ, List, length}
use Rattle.std.specs.Fork.{ChangesEach}
use denote.Ref.{MutBor}
use denote.Param.Members.{Shared}

-- each was changed by a call of a function with its index, and there are as many as before
pub record EachChanged {F X : Type 0} (g : Shared F (ℕ × (MutBor X × Unit {0})) (Unit {0} × (MutBor X × Unit {0}))) (run : F) (old new : List X) : Type 0 where
  pub each : ChangesEach g run old new
  pub as_many : length new ≡ length old
