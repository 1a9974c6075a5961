-- Additions and takings, one after another.
use Rattle.std.proofs.Common.{◌++◌, sym, ap, ◌∙◌, append_assoc, Some, None}
use Rattle.farm_base.specs.Laws.{AdditionsAddUp, TakingsAddUp}

-- two additions after one another are one addition of both texts
pub additions_add_up : AdditionsAddUp
additions_add_up old middle None first second added then = tt
additions_add_up old None (Some new) first second added then = absurd then
additions_add_up None (Some middle) (Some new) first second added then = absurd added
additions_add_up (Some old) (Some middle) (Some new) first second added then =
    then ∙ ap (λ t. t ++ second) added ∙ append_assoc old first second

-- two takings after one another are one taking of both texts
pub takings_add_up : TakingsAddUp
takings_add_up old middle None first second taken then = tt
takings_add_up old None (Some new) first second taken then = absurd then
takings_add_up None (Some middle) (Some new) first second taken then = absurd taken
takings_add_up (Some old) (Some middle) (Some new) first second taken then = record {
  taken = then.taken ∙ ap (λ t. t ++ second) taken.taken ∙ append_assoc old.taken first second;
  left = taken.left ∙ ap (λ t. first ++ t) then.left ∙ sym (append_assoc first second new.left);
}
