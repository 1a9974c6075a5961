-- A side of a movement goes the wrong way exactly where what moved on it is refused.
use Rattle.std.proofs.Common.{◌≡◌, ◌⊎◌, inl, inr, Bool, true, false, Option, Some, None, ℤ, pos, ◌-ℤ◌, ◌<ℤ◌, int_lt, refl, arith, ◌∙◌}
use Rattle.std.proofs.lemmas.Bool.{or_from}
use Rattle.std.specs.Prelude.{◌||◌}
use Rattle.std.proofs.lemmas.Int.{ints}
use Rattle.farm_fixed.specs.declared.records.Quantities.{Quantities}
use Rattle.farm_movement.specs.declared.leg.Leg.{Leg}
use Rattle.farm_movement.specs.Closing.{GoesWrong, SecondGoesWrong}
use Rattle.farm_movement.specs.Movements.{OpenMove}
use Rattle.farm_ticket.specs.Amounts.{IsWrongWay, change, differences, moved}
use Rattle.farm_ticket.specs.declared.side.Way.{Way}
use Rattle.farm_ticket.specs.declared.side.Way.TheVariants.{Inward, Outward}
use Rattle.farm_history.specs.Tickets.{any_goes_wrong, goes_wrong, second_goes_wrong}
use Rattle.farm_history.proofs.WrongWays.{below_to, refused_where}

-- a change that isn't below zero
not_below : (a b : ℤ) → (a <ℤ b → ⊥) → int_lt (a -ℤ b) (pos 0) ≡ false
not_below a b least = grind (arith, ints)

-- a change is below zero on the wrong way
wrong_change : (way : Way) (opening closing : Quantities) → IsWrongWay way opening closing → int_lt (change way opening.nsv closing.nsv) (pos 0) ≡ true
wrong_change Inward opening closing wrong = below_to closing.nsv opening.nsv wrong
wrong_change Outward opening closing wrong = below_to opening.nsv closing.nsv wrong

-- and isn't on the right one
right_change : (way : Way) (opening closing : Quantities) → (IsWrongWay way opening closing → ⊥) → int_lt (change way opening.nsv closing.nsv) (pos 0) ≡ false
right_change Inward opening closing right = not_below closing.nsv opening.nsv right
right_change Outward opening closing right = not_below opening.nsv closing.nsv right

-- the test of a side is that of the change of its net standard volume
side_test : (leg : Leg) (closing : Quantities) → goes_wrong leg closing ≡ int_lt (change leg.way leg.opening.nsv closing.nsv) (pos 0)
unfolding moved differences
side_test leg closing = refused_where (int_lt (change leg.way leg.opening.nsv closing.nsv) (pos 0)) (record {}) (differences leg.way leg.opening closing)

-- a side that goes the wrong way tests so
side_wrong : (leg : Leg) (closing : Quantities) → GoesWrong leg closing → goes_wrong leg closing ≡ true
side_wrong leg closing wrong = side_test leg closing ∙ wrong_change leg.way leg.opening closing wrong

-- and one that doesn't tests otherwise
side_right : (leg : Leg) (closing : Quantities) → (GoesWrong leg closing → ⊥) → goes_wrong leg closing ≡ false
side_right leg closing right = side_test leg closing ∙ right_change leg.way leg.opening closing right

-- the same of a second side, where there is one
second_wrong : (leg : Option Leg) (closing : Option Quantities) → SecondGoesWrong leg closing → second_goes_wrong leg closing ≡ true
second_wrong (Some leg) (Some closing) wrong = side_wrong leg closing wrong
second_wrong (Some leg) None wrong = absurd wrong
second_wrong None closing wrong = absurd wrong

-- a second side that goes no wrong way passes its test
second_right : (leg : Option Leg) (closing : Option Quantities) → (SecondGoesWrong leg closing → ⊥) → second_goes_wrong leg closing ≡ false
second_right (Some leg) (Some closing) right = side_right leg closing right
second_right (Some leg) None right = refl
second_right None closing right = refl

-- one of two tests holds
either : (first second : Bool) → (first ≡ true) ⊎ (second ≡ true) → (first || second) ≡ true
either true second holds = refl
either false second (inl first) = cc
either false second (inr second_holds) = second_holds

-- a movement of which a side goes the wrong way tests so
pub any_wrong : (movement : OpenMove) (first : Quantities) (second : Option Quantities) →
    (GoesWrong movement.first first ⊎ SecondGoesWrong movement.second second) → any_goes_wrong (movement, first, second) ≡ true
any_wrong movement first second (inl wrong) = either _ _ (inl (side_wrong movement.first first wrong))
any_wrong movement first second (inr wrong) = either _ _ (inr (second_wrong movement.second second wrong))

-- and one of which none does tests otherwise
pub none_wrong : (movement : OpenMove) (first : Quantities) (second : Option Quantities) →
    ((GoesWrong movement.first first ⊎ SecondGoesWrong movement.second second) → ⊥) → any_goes_wrong (movement, first, second) ≡ false
none_wrong movement first second right =
    or_from _ _ (side_right movement.first first (λ wrong. right (inl wrong))) (second_right movement.second second (λ wrong. right (inr wrong)))
