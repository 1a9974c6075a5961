-- Answers to the open goals of `open_movement`.
use Rattle.std.proofs.Common.{◌≡◌, ◌∙◌, ℕ, ◌==◌, true, false, Some, None, Option, refl, ap, sym}
use Rattle.std.specs.Option.{option_eq}
use Rattle.std.proofs.lemmas.Bool.{eq-eqb, eqb-true}
use Rattle.farm_history.specs.History.{History}
use Rattle.farm_history.specs.Movements.{holding_movement, open_movement, opened_at}
use Rattle.farm_indexes.proofs.OpenAt.{not_open, open_if_and_only_if_held}
use Rattle.farm_indexes.proofs.indexed.IndexedPastFacts.open_movement.Goals as goal

-- two places are one by the test
held_is : (held : Option ℕ) (place : ℕ) → option_eq (λ first second. first == second) held (Some place) ≡ true → held ≡ Some place
held_is None place e = cc
held_is (Some held) place e = ap {B = Option ℕ} Some (eqb-true held place e)

-- or they aren't
held_isnt : (held : Option ℕ) (place : ℕ) → option_eq (λ first second. first == second) held (Some place) ≡ false → ¬ (held ≡ Some place)
held_isnt held place e is =
    let same : option_eq (λ first second. first == second) held (Some place) ≡ true =
    ap (λ found. option_eq (λ first second. first == second) found (Some place)) is ∙ eq-eqb place place refl in
    cc

pub returns-then-eq : goal.returns-then-eq
returns-then-eq c =
    let past = c.self.inside.past in
    let plan = c.in_ok-plan.plan in
    let place = c.args.place in
    let tank = c.first_tank.result in
    let opened : opened_at past place ≡ Some plan = sym c.in_ok-plan.ensures.opened in
    let state = c.of_tank-state.ensures.state past c.self.invariant.1.states in
    let held : holding_movement past tank ≡ Some place =
    ap (λ state. state.held_by) (sym state) ∙ held_is c.of_tank-state.result.held_by place (sym c.eq.ensures ∙ c.if-eq.true) in
    let meant = open_if_and_only_if_held c.self.invariant.0.limit past tank place plan c.self.invariant.0.legal c.first_tank.ensures.named in
    record { «open» = sym (meant.1 (opened, held)) ∙ ap (λ (history : History). open_movement history place) c.self.view_is }

pub returns : goal.returns
returns c =
    let past = c.self.inside.past in
    let plan = c.in_ok-plan.plan in
    let place = c.args.place in
    let tank = c.first_tank.result in
    let opened : opened_at past place ≡ Some plan = sym c.in_ok-plan.ensures.opened in
    let state = c.of_tank-state.ensures.state past c.self.invariant.1.states in
    let held : ¬ (holding_movement past tank ≡ Some place) =
    λ is. held_isnt c.of_tank-state.result.held_by place (sym c.eq.ensures ∙ c.if-eq.false) (ap (λ state. state.held_by) state ∙ is) in
    let none = not_open c.self.invariant.0.limit past tank place plan c.self.invariant.0.legal c.first_tank.ensures.named opened held in
    record { «open» = sym none ∙ ap (λ (history : History). open_movement history place) c.self.view_is }
