-- Passes of the callers of a log.
use Rattle.std.specs.Prelude.{◌≡◌, IsSome}
use Rattle.farm_turn.specs.Views.{TableId, PassView, numbers_of}

-- a pass of this turn that is enrolled
pub record IsCaller {E R : Type 0} (turn : TableId) (pass : PassView E R) : Type 0 where
  pub turn_is : pass.turn ≡ turn
  pub enrolled : IsSome pass.known.number

-- a pass that took turns is of the same turn, and has the numbers that it had
pub record Appends {E R : Type 0} (old new : PassView E R) : Type 0 where
  pub turn_is : new.turn ≡ old.turn
  pub number : new.known.number ≡ old.known.number
  pub numbers : numbers_of new.known ≡ numbers_of old.known
