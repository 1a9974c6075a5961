-- The movement that is found open is the one in the words of the rule.
use Rattle.std.proofs.Common.{◌≡◌, ◌↔◌, ℕ, Bool, true, false, All, IsFalse, if◌then◌else◌, List, [], ◌∷◌, drop, Option, Some, None, option_and_then, refl, ap, sym, ◌∙◌}
use Rattle.std.specs.List.{list_any}
use Rattle.std.proofs.lemmas.Bool.{or_left, or_right}
use Rattle.std.proofs.lemmas.List.Folds.{list_any_none}
use Rattle.std.proofs.lemmas.List.Elements.{All-cons, All-nil}
use Rattle.farm_history.specs.declared.command.Command.{Command}
use Rattle.farm_history.specs.declared.command.Command.TheVariants.{Opening}
use Rattle.farm_history.specs.declared.entry.Entry.{Entry}
use Rattle.farm_history.specs.declared.plan.Plan.{Plan}
use Rattle.farm_history.specs.Commands.{plan_of}
use Rattle.farm_history.specs.History.{History, entry_at}
use Rattle.farm_history.specs.Movements.{IsOpen, is_end_of, open_movement, opened_at}
use Rattle.farm_history.proofs.At.{at_after, between_of, drop_after}

-- only an Opening has a plan
pub plan_is : (command : Command) (plan : Plan) → plan_of command ≡ Some plan → command ≡ Opening plan
plan_is (Opening other) plan e = let same : other ≡ plan = cc in ap Opening same
plan_is command plan e = cc

-- where the test of any item fails, it fails of each
pub none_passes : {A : Type 0} (holds : A → Bool) (items : List A) → list_any holds items ≡ false → All (λ item. IsFalse (holds item)) items
none_passes holds [] e = All-nil (λ item. IsFalse (holds item))
none_passes holds (item ∷ items) e = by (holds item) (list_any holds items) refl refl (none_passes holds items)
  where
    by : (b c : Bool) → holds item ≡ b → list_any holds items ≡ c →
        (list_any holds items ≡ false → All (λ other. IsFalse (holds other)) items) → All (λ other. IsFalse (holds other)) (item ∷ items)
    by true c h k rest = let bad = or_left (holds item) (list_any holds items) h in cc
    by false true h k rest = let bad = or_right (holds item) (list_any holds items) k in cc
    by false false h k rest = All-cons (λ other. IsFalse (holds other)) item items h (rest k)

-- an Opening with a plan stands at a place
pub record OpensAt (history : History) (place : ℕ) (plan : Plan) : Type 0 where
  pub opening : Entry
  pub there : entry_at history place ≡ Some opening
  pub opened : opening.cmd ≡ Opening plan

-- where a plan is found at a place, such an Opening stands there
pub opens_at : (history : History) (place : ℕ) (plan : Plan) → opened_at history place ≡ Some plan → OpensAt history place plan
unfolding opened_at
opens_at history place plan e = by (entry_at history place) refl e
  where
    by : (o : Option Entry) → entry_at history place ≡ o → option_and_then (λ (entry : Entry). plan_of entry.cmd) o ≡ Some plan →
        OpensAt history place plan
    by None there e = cc
    by (Some entry) there e = record { opening = entry; there = there; opened = plan_is entry.cmd plan e }

-- where such an Opening stands at a place, its plan is found there
pub opened_of : (history : History) (place : ℕ) (plan : Plan) (opening : Entry) → entry_at history place ≡ Some opening →
    opening.cmd ≡ Opening plan → opened_at history place ≡ Some plan
unfolding opened_at
opened_of history place plan opening there opened =
    ap (option_and_then (λ (entry : Entry). plan_of entry.cmd)) there ∙ ap plan_of opened

-- the movement that is found open is open in the words of the rule
is_open : (history : History) (place : ℕ) (plan : Plan) → open_movement history place ≡ Some plan → IsOpen history place plan
unfolding open_movement
is_open history place plan e = by (list_any (is_end_of place) (drop place history.entries)) refl e
  where
    by : (b : Bool) → list_any (is_end_of place) (drop place history.entries) ≡ b →
        (if b then None else opened_at history place) ≡ Some plan → IsOpen history place plan
    by true h e = cc
    by false h e =
        let opens = opens_at history place plan e in
        let stands = between_of history place opens.opening opens.there in
        let rest : drop place history.entries ≡ stands.back =
        ap (λ p. drop p history.entries) stands.counted ∙ drop_after history.entries stands.front stands.back opens.opening stands.split in
        record {
          front = stands.front;
          opening = opens.opening;
          back = stands.back;
          split = stands.split;
          counted = stands.counted;
          opened = opens.opened;
          unended = none_passes (is_end_of place) stands.back (sym (ap (list_any (is_end_of place)) rest) ∙ h);
        }

-- the movement that is open in the words of the rule is found open
found_open : (history : History) (place : ℕ) (plan : Plan) → IsOpen history place plan → open_movement history place ≡ Some plan
unfolding open_movement
found_open history place plan known =
    let there : entry_at history place ≡ Some known.opening =
    ap (entry_at history) known.counted ∙ at_after history known.front known.back known.opening known.split in
    let rest : drop place history.entries ≡ known.back =
    ap (λ p. drop p history.entries) known.counted ∙ drop_after history.entries known.front known.back known.opening known.split in
    let none = ap (list_any (is_end_of place)) rest ∙ list_any_none (is_end_of place) known.back known.unended in
    rw none (opened_of history place plan known.opening there known.opened)

-- the movement that is found open is the one in the words of the rule
pub open_movements_mean : (history : History) (place : ℕ) (plan : Plan) → (open_movement history place ≡ Some plan) ↔ IsOpen history place plan
open_movements_mean history place plan = (is_open history place plan, found_open history place plan)
