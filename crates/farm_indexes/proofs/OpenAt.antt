-- Which movements of a legal history are open: one at most holds a tank, and one is open at a place if and only if it holds a tank.
use Rattle.std.proofs.Common.{◌≡◌, ◌↔◌, ℕ, zero, suc, ◌+◌, ◌<◌, ◌≤◌, ◌==◌, Bool, true, false, All, IsFalse, IsTrue, if◌then◌else◌, List, [], ◌∷◌, ◌++◌, drop, length, Option, Some, None, option_map, refl, ap, ap₂, sym, ◌∙◌, subst, arith}
use Rattle.std.specs.List.{list_any}
use Rattle.std.proofs.lemmas.Bool.{eqb-true}
use Rattle.std.proofs.lemmas.List.Elements.{All-cons, All-head, All-nil, All-tail}
use Rattle.farm_base.proofs.Steps.{or_else-none}
use Rattle.farm_base.specs.Steps.{or_else}
use Rattle.farm_history.specs.declared.command.Command.TheVariants.{Opening}
use Rattle.farm_history.specs.declared.entry.Entry.{Entry}
use Rattle.farm_history.specs.declared.plan.Plan.{Plan}
use Rattle.farm_history.specs.declared.plan.Plan.TheVariants.{Outside, Transfer}
use Rattle.farm_history.specs.declared.rule.Rule.TheVariants.{TankBusy}
use Rattle.farm_history.specs.declared.verdict.Verdict.TheVariants.{Accept}
use Rattle.farm_history.specs.Commands.{names_tank}
use Rattle.farm_history.specs.History.{History}
use Rattle.farm_history.specs.MovementRules.{no_movement, other_product, same_tank, tank_busy}
use Rattle.farm_history.specs.Movements.{Holds, IsOpen, holding_movement, is_end_of, open_movement, opened_at}
use Rattle.farm_history.specs.Rules.{broken_by_movement, broken_by_names, broken_by_ticket}
use Rattle.farm_history.specs.Verdicts.{IsLegal, verdict}
use Rattle.farm_history.proofs.Accepted.{breaks_none}
use Rattle.farm_history.proofs.Holdings.{holdings_mean}
use Rattle.farm_history.proofs.OpenMovements.{open_movements_mean}

-- of two items of a list, one stands in what follows the other
record StandsLater {A : Type 0} (front : List A) (item : A) (back later_front : List A) (later : A) (later_back : List A) : Type 0 where
  middle : List A
  front_is : later_front ≡ front ++ item ∷ middle
  back_is : back ≡ middle ++ later ∷ later_back

-- the one with the longer front does
stands_later : {A : Type 0} (front back later_front later_back : List A) (item later : A) →
    front ++ item ∷ back ≡ later_front ++ later ∷ later_back → length front < length later_front →
    StandsLater front item back later_front later later_back
stands_later [] back [] later_back item later same below = absurd (omega arith)
stands_later [] back (first ∷ later_front) later_back item later same below =
    let here : first ≡ item = cc in
    let rest : back ≡ later_front ++ later ∷ later_back = cc in
    record { middle = later_front; front_is = ap (λ head. head ∷ later_front) here; back_is = rest }
stands_later (head ∷ front) back [] later_back item later same below = absurd (omega arith)
stands_later (head ∷ front) back (first ∷ later_front) later_back item later same below =
    let here : first ≡ head = cc in
    let tails : front ++ item ∷ back ≡ later_front ++ later ∷ later_back = cc in
    let rest = stands_later front back later_front later_back item later tails (omega arith) in
    record { middle = rest.middle; front_is = ap₂ (λ item items. item ∷ items) here rest.front_is; back_is = rest.back_is }

-- what holds of each of two lists joined holds of each of the first
all_of_first : {A : Type 0} (P : A → Type 0) (first second : List A) → All P (first ++ second) → All P first
all_of_first P [] second all = All-nil P
all_of_first P (item ∷ first) second all =
    All-cons P item first (All-head P item (first ++ second) all) (all_of_first P first second (All-tail P item (first ++ second) all))

-- what holds of each of two lists joined holds of each of the second
all_of_second : {A : Type 0} (P : A → Type 0) (first second : List A) → All P (first ++ second) → All P second
all_of_second P [] second all = all
all_of_second P (item ∷ first) second all = all_of_second P first second (All-tail P item (first ++ second) all)

-- if no movement is found to hold a tank, none below a place holds it
none_below : (history : History) (tank : ℕ) → holding_movement history tank ≡ None → (bound place : ℕ) → place < bound →
    ¬ (Holds history tank place)
none_below history tank none zero place below holds = absurd (omega arith)
none_below history tank none (suc bound) place below holds =
    let first : (earlier : ℕ) → earlier < place → ¬ (Holds history tank earlier) =
    λ earlier under. none_below history tank none bound earlier (omega (arith, below, under)) in
    let found = (holdings_mean history tank place).1 (record { holds = holds; first = first }) in
    cc

-- if no movement is found to hold a tank, none does
pub unheld : (history : History) (tank : ℕ) → holding_movement history tank ≡ None → (place : ℕ) → ¬ (Holds history tank place)
unheld history tank none place = none_below history tank none (place + 1) place (omega arith)

-- an accepted entry needs no tank that an open movement names
pub none_busy : (limit : ℕ) (history : History) (entry : Entry) → verdict limit history entry ≡ Accept → tank_busy history entry.cmd ≡ None
unfolding broken_by_movement
none_busy limit history entry accepted =
    let command = entry.cmd in
    let later = or_else (no_movement history command) (or_else (broken_by_names history command) (broken_by_ticket history command)) in
    let busy = or_else (tank_busy history command) later in
    let none = (breaks_none limit history entry accepted).movement in
    let r9 = or_else-none (same_tank command) (or_else (other_product history command) busy) none in
    let r10 = or_else-none (other_product history command) busy r9.1 in
    (or_else-none (tank_busy history command) later r10.1).0

-- if the rule isn't broken by a tank, there is no such tank
no_tank : (found : Option ℕ) → option_map TankBusy found ≡ None → found ≡ None
no_tank None none = refl
no_tank (Some tank) none = cc

-- an Opening that breaks no rule on busy tanks names only tanks that no movement holds
pub opens_free : (history : History) (tank : ℕ) (plan : Plan) → tank_busy history (Opening plan) ≡ None → IsTrue (names_tank tank plan) →
    holding_movement history tank ≡ None
unfolding tank_busy
opens_free history tank (Outside way number party gauged) free named =
    let none = or_else-none (holding_movement history number) None (no_tank (or_else (holding_movement history number) None) free) in
    subst (λ (n : ℕ). holding_movement history n ≡ None) (eqb-true number tank named) none.0
opens_free history tank (Transfer from to from_gauged to_gauged) free named =
    let rest = or_else (holding_movement history to) None in
    let none = or_else-none (holding_movement history from) rest (no_tank (or_else (holding_movement history from) rest) free) in
    let second = or_else-none (holding_movement history to) None none.1 in
    by (from == tank) refl none.0 second.0
  where
    by : (b : Bool) → (from == tank) ≡ b → holding_movement history from ≡ None → holding_movement history to ≡ None →
        holding_movement history tank ≡ None
    by true same first second = subst (λ (n : ℕ). holding_movement history n ≡ None) (eqb-true from tank same) first
    by false other first second =
        let named : (to == tank) ≡ true = (rw other at named) in
        subst (λ (n : ℕ). holding_movement history n ≡ None) (eqb-true to tank named) second

-- a movement that holds a tank held it before any later entry
pub held_before : (history : History) (tank place : ℕ) (front back : List Entry) (entry : Entry) → history.entries ≡ front ++ entry ∷ back →
    Holds history tank place → place ≤ length front →
    Holds (record { site = history.site; entries = front }) tank place × IsFalse (is_end_of place entry)
held_before history tank place front back entry split holds within =
    let known = holds.is_open in
    let counted = known.counted in
    let later = stands_later known.front known.back front back known.opening entry (sym known.split ∙ split) (omega (arith, counted, within)) in
    let unended : All (λ (other : Entry). IsFalse (is_end_of place other)) (later.middle ++ entry ∷ back) =
    subst (All (λ (other : Entry). IsFalse (is_end_of place other))) later.back_is known.unended in
    let of_entry = all_of_second (λ (other : Entry). IsFalse (is_end_of place other)) later.middle (entry ∷ back) unended in
    let is_open : IsOpen (record { site = history.site; entries = front }) place holds.plan = record {
      front = known.front;
      opening = known.opening;
      back = later.middle;
      split = later.front_is;
      counted = known.counted;
      opened = known.opened;
      unended = all_of_first (λ (other : Entry). IsFalse (is_end_of place other)) later.middle (entry ∷ back) unended;
    } in (
      record { plan = holds.plan; is_open = is_open; named = holds.named },
      All-head (λ (other : Entry). IsFalse (is_end_of place other)) entry back of_entry,
    )

-- in a legal history no movement holds a tank that an earlier one holds
none_later : (limit : ℕ) (history : History) (tank place later : ℕ) → IsLegal limit history → Holds history tank place →
    Holds history tank later → ¬ (place < later)
none_later limit history tank place later legal holds again below =
    let known = again.is_open in
    let counted = known.counted in
    let past : History = record { site = history.site; entries = known.front } in
    let next = legal known.front known.back known.opening known.split in
    let busy : tank_busy past known.opening.cmd ≡ None = none_busy limit past known.opening next.accepted in
    let free = opens_free past tank again.plan (subst (λ command. tank_busy past command ≡ None) known.opened busy) again.named in
    let before = held_before history tank place known.front known.back known.opening known.split holds (omega (arith, counted, below)) in
    unheld past tank free place before.0

-- in a legal history one movement at most holds a tank
pub one_holder : (limit : ℕ) (history : History) (tank place other : ℕ) → IsLegal limit history → Holds history tank place →
    Holds history tank other → place ≡ other
one_holder limit history tank place other legal holds again =
    let not_before = none_later limit history tank place other legal holds again in
    let not_after = none_later limit history tank other place legal again holds in
    omega (arith, not_before, not_after)

-- an open movement was opened
pub opened_if_open : (history : History) (place : ℕ) (plan : Plan) → open_movement history place ≡ Some plan →
    opened_at history place ≡ Some plan
unfolding open_movement
opened_if_open history place plan is_open = by (list_any (is_end_of place) (drop place history.entries)) is_open
  where
    by : (b : Bool) → (if b then None else opened_at history place) ≡ Some plan → opened_at history place ≡ Some plan
    by true e = cc
    by false e = e

-- an open movement holds a tank that its plan names
holds_if_open : (history : History) (tank place : ℕ) (plan : Plan) → open_movement history place ≡ Some plan →
    IsTrue (names_tank tank plan) → Holds history tank place
holds_if_open history tank place plan is_open named = record {
  plan = plan;
  is_open = (open_movements_mean history place plan).0 is_open;
  named = named;
}

-- in a legal history it is the movement that holds the tank
pub held_if_open : (limit : ℕ) (history : History) (tank place : ℕ) (plan : Plan) → IsLegal limit history →
    open_movement history place ≡ Some plan → IsTrue (names_tank tank plan) → holding_movement history tank ≡ Some place
held_if_open limit history tank place plan legal is_open named =
    let holds = holds_if_open history tank place plan is_open named in
    let first : (earlier : ℕ) → earlier < place → ¬ (Holds history tank earlier) =
    λ earlier below again. absurd (let same = one_holder limit history tank earlier place legal again holds in omega (arith, same, below)) in
    (holdings_mean history tank place).1 (record { holds = holds; first = first })

-- what holds a tank is open, with the plan that it was opened with
open_if_held : (history : History) (tank place : ℕ) (plan : Plan) → opened_at history place ≡ Some plan →
    holding_movement history tank ≡ Some place → open_movement history place ≡ Some plan
open_if_held history tank place plan opened held =
    let known = ((holdings_mean history tank place).0 held).holds in
    let found = (open_movements_mean history place known.plan).1 known.is_open in
    found ∙ sym (opened_if_open history place known.plan found) ∙ opened

-- in a legal history a movement is open if and only if it was opened and holds a tank that its plan names
pub open_if_and_only_if_held : (limit : ℕ) (history : History) (tank place : ℕ) (plan : Plan) → IsLegal limit history →
    IsTrue (names_tank tank plan) →
    (open_movement history place ≡ Some plan) ↔ ((opened_at history place ≡ Some plan) × (holding_movement history tank ≡ Some place))
open_if_and_only_if_held limit history tank place plan legal named = (there, back)
  where
    there : open_movement history place ≡ Some plan → (opened_at history place ≡ Some plan) × (holding_movement history tank ≡ Some place)
    there is_open = (opened_if_open history place plan is_open, held_if_open limit history tank place plan legal is_open named)

    back : (opened_at history place ≡ Some plan) × (holding_movement history tank ≡ Some place) → open_movement history place ≡ Some plan
    back known = open_if_held history tank place plan known.0 known.1

-- a movement that was opened, and doesn't hold a tank that its plan names, isn't open
pub not_open : (limit : ℕ) (history : History) (tank place : ℕ) (plan : Plan) → IsLegal limit history → IsTrue (names_tank tank plan) →
    opened_at history place ≡ Some plan → ¬ (holding_movement history tank ≡ Some place) → open_movement history place ≡ None
not_open limit history tank place plan legal named opened not_held = by (open_movement history place) refl
  where
    by : (found : Option Plan) → open_movement history place ≡ found → found ≡ None
    by None e = refl
    by (Some other) e =
        let same : Some other ≡ Some plan = sym (opened_if_open history place other e) ∙ opened in
        let found : open_movement history place ≡ Some plan = e ∙ same in
        absurd (not_held (held_if_open limit history tank place plan legal found named))
