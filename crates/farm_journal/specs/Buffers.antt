-- What a buffer of a record holds.
use Rattle.std.specs.Prelude.{ℕ, List}

-- the longest body that there is room for, and the bytes that were last made
pub record BufferState : Type 0 where
  pub room : ℕ
  pub made : List ℕ
