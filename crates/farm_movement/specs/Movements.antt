-- Movements that are open, as clauses see them.
use Rattle.std.specs.Prelude.{ℕ, Option}
use Rattle.farm_movement.specs.declared.leg.Leg.{Leg}

-- a movement that is open: the place of its opening, its party and its legs
pub record OpenMove : Type 0 where
  pub place : ℕ
  pub party : ℕ
  pub first : Leg
  pub second : Option Leg
