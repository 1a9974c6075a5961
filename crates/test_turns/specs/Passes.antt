-- The passes of the two callers of a turn.
use Rattle.std.specs.Prelude.{◌≡◌, ◌+◌, IsSome}
use Rattle.farm_turn.specs.Views.{PassView, TableId, number_limit, numbers_of}

-- a pass is of this turn, and enrolled
pub record IsCaller {E R : Type 0} (turn : TableId) (pass : PassView E R) : Type 0 where
  pub turn_is : pass.turn ≡ turn
  pub enrolled : IsSome pass.known.number

-- two passes are callers of this turn, and together they have all caller numbers
pub record AreAll {E R : Type 0} (turn : TableId) (first last : PassView E R) : Type 0 where
  pub first_is : IsCaller turn first
  pub last_is : IsCaller turn last
  pub numbers : numbers_of first.known + numbers_of last.known ≡ number_limit

-- a pass that took turns is of the same turn, and has the numbers that it had
pub record TakesTurns {E R : Type 0} (old new : PassView E R) : Type 0 where
  pub turn_is : new.turn ≡ old.turn
  pub number : new.known.number ≡ old.known.number
  pub numbers : numbers_of new.known ≡ numbers_of old.known
