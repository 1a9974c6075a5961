-- A tank is held by the movement in the words of the rule.
use Rattle.std.proofs.Common.{◌≡◌, ◌↔◌, ◌⊎◌, inl, inr, ℕ, ◌+◌, ◌<◌, ◌&&◌, not, Bool, true, false, IsFalse, IsTrue, if◌then◌else◌, List, [], ◌∷◌, ◌++◌, length, Option, Some, None, refl, ap, ◌∙◌, subst, arith}
use Rattle.std.specs.List.{list_any}
use Rattle.std.proofs.lemmas.Bool.{and_from, and_parts, both_ways}
use Rattle.std.proofs.lemmas.List.Folds.{list_any_none}
use Rattle.farm_history.specs.declared.command.Command.{Command}
use Rattle.farm_history.specs.declared.command.Command.TheVariants.{Opening}
use Rattle.farm_history.specs.declared.entry.Entry.{Entry}
use Rattle.farm_history.specs.declared.plan.Plan.{Plan}
use Rattle.farm_history.specs.Commands.{names_tank, opens_on}
use Rattle.farm_history.specs.History.{History}
use Rattle.farm_history.specs.Movements.{Holds, IsHeldBy, holding_from, holding_movement, is_end_of}
use Rattle.farm_history.proofs.OpenMovements.{none_passes}

-- the test of an entry that the search makes
abbrev holds_here : ℕ → ℕ → Entry → List Entry → Bool
holds_here place tank entry later = opens_on tank entry.cmd && not (list_any (is_end_of place) later)

-- in a list that begins at a place, the entry at a place passes the test
record HoldsFrom (begin tank : ℕ) (entries : List Entry) (place : ℕ) : Type 0 where
  front : List Entry
  opening : Entry
  back : List Entry
  split : entries ≡ front ++ opening ∷ back
  counted : place ≡ length front + begin
  passes : IsTrue (holds_here place tank opening back)

-- an entry that passes the test is the first or a later one
first_or_later : (begin tank : ℕ) (entry : Entry) (later : List Entry) (place : ℕ) → HoldsFrom begin tank (entry ∷ later) place →
    ((place ≡ begin) × IsTrue (holds_here begin tank entry later)) ⊎ HoldsFrom (begin + 1) tank later place
first_or_later begin tank entry later place holds = by holds.front holds.split holds.counted
  where
    by : (front : List Entry) → entry ∷ later ≡ front ++ holds.opening ∷ holds.back → place ≡ length front + begin →
        ((place ≡ begin) × IsTrue (holds_here begin tank entry later)) ⊎ HoldsFrom (begin + 1) tank later place
    by [] split counted =
        let here : place ≡ begin = omega arith in
        let passes = holds.passes in
        let first : entry ≡ holds.opening = cc in
        let rest : later ≡ holds.back = cc in
        let same : holds_here begin tank entry later ≡ true = cc in
        inl (here, same)
    by (first ∷ front) split counted =
        let rest : later ≡ front ++ holds.opening ∷ holds.back = cc in
        inr (record {
          front = front;
          opening = holds.opening;
          back = holds.back;
          split = rest;
          counted = omega arith;
          passes = holds.passes;
        })

-- an entry that passes the test in the rest of a list passes it in the list
one_later : (begin tank : ℕ) (entry : Entry) (later : List Entry) (place : ℕ) → HoldsFrom (begin + 1) tank later place →
    HoldsFrom begin tank (entry ∷ later) place
one_later begin tank entry later place holds = record {
  front = entry ∷ holds.front;
  opening = holds.opening;
  back = holds.back;
  split = ap (λ items. entry ∷ items) holds.split;
  counted = omega (arith, holds.counted);
  passes = holds.passes;
}

-- at a place an entry passes the test, and at none before it
record IsFirstHolding (begin tank : ℕ) (entries : List Entry) (place : ℕ) : Type 0 where
  holds : HoldsFrom begin tank entries place
  first : (earlier : ℕ) → earlier < place → ¬ (HoldsFrom begin tank entries earlier)

-- the place that the search finds is such a place
found_holding : (begin tank : ℕ) (entries : List Entry) (place : ℕ) → holding_from begin tank entries ≡ Some place →
    IsFirstHolding begin tank entries place
found_holding begin tank [] place e = cc
found_holding begin tank (entry ∷ later) place e =
    by (holds_here begin tank entry later) refl e (found_holding (begin + 1) tank later place)
  where
    by : (b : Bool) → holds_here begin tank entry later ≡ b → (if b then Some begin else holding_from (begin + 1) tank later) ≡ Some place →
        (holding_from (begin + 1) tank later ≡ Some place → IsFirstHolding (begin + 1) tank later place) →
        IsFirstHolding begin tank (entry ∷ later) place
    by true h e rest =
        let same : begin ≡ place = cc in
        record {
          holds = record {
            front = [];
            opening = entry;
            back = later;
            split = refl;
            counted = omega arith;
            passes = subst (λ p. IsTrue (holds_here p tank entry later)) same h;
          };
          first = λ earlier below held. absurd (let counted = held.counted in omega arith);
        }
    by false h e rest =
        let found = rest e in
        record {
          holds = one_later begin tank entry later place found.holds;
          first = λ earlier below held. elim (first_or_later begin tank entry later earlier held) [
            | inl w ↦ both_ways (holds_here begin tank entry later) h w.1
            | inr w ↦ found.first earlier below w
          ];
        }

-- where the search finds none, no entry passes the test
none_holding : (begin tank : ℕ) (entries : List Entry) (place : ℕ) → holding_from begin tank entries ≡ None →
    ¬ (HoldsFrom begin tank entries place)
none_holding begin tank [] place e held = by held.front held.split
  where
    by : (front : List Entry) → [] ≡ front ++ held.opening ∷ held.back → ⊥
    by [] split = cc
    by (first ∷ front) split = cc
none_holding begin tank (entry ∷ later) place e held =
    by (holds_here begin tank entry later) refl e (none_holding (begin + 1) tank later place)
  where
    by : (b : Bool) → holds_here begin tank entry later ≡ b → (if b then Some begin else holding_from (begin + 1) tank later) ≡ None →
        (holding_from (begin + 1) tank later ≡ None → ¬ (HoldsFrom (begin + 1) tank later place)) → ⊥
    by true h e rest = cc
    by false h e rest = elim (first_or_later begin tank entry later place held) [
      | inl w ↦ both_ways (holds_here begin tank entry later) h w.1
      | inr w ↦ rest e w
    ]

-- a command that opens a movement on a tank is an Opening whose plan names it
pub record OpensOn (tank : ℕ) (command : Command) : Type 0 where
  pub plan : Plan
  pub opened : command ≡ Opening plan
  pub named : IsTrue (names_tank tank plan)

-- so the test says
pub opens_on_is : (tank : ℕ) (command : Command) → IsTrue (opens_on tank command) → OpensOn tank command
opens_on_is tank (Opening plan) e = record { plan = plan; opened = refl; named = e }
opens_on_is tank command e = cc

-- where not a test passes, it fails
not_passes : (b : Bool) → IsTrue (not b) → IsFalse b
not_passes true e = cc
not_passes false e = refl

-- an entry that passes the test holds the tank in the words of the rule
holds_of : (history : History) (tank place : ℕ) → HoldsFrom 1 tank history.entries place → Holds history tank place
holds_of history tank place held =
    let parts = and_parts (opens_on tank held.opening.cmd) (not (list_any (is_end_of place) held.back)) held.passes in
    let opens = opens_on_is tank held.opening.cmd parts.0 in
    record {
      plan = opens.plan;
      is_open = record {
        front = held.front;
        opening = held.opening;
        back = held.back;
        split = held.split;
        counted = held.counted;
        opened = opens.opened;
        unended = none_passes (is_end_of place) held.back (not_passes (list_any (is_end_of place) held.back) parts.1);
      };
      named = opens.named;
    }

-- what holds the tank in the words of the rule passes the test
of_holds : (history : History) (tank place : ℕ) → Holds history tank place → HoldsFrom 1 tank history.entries place
of_holds history tank place holds =
    let known = holds.is_open in
    let none = list_any_none (is_end_of place) known.back known.unended in
    let opens : opens_on tank known.opening.cmd ≡ true = ap (opens_on tank) known.opened ∙ holds.named in
    record {
      front = known.front;
      opening = known.opening;
      back = known.back;
      split = known.split;
      counted = known.counted;
      passes = and_from (opens_on tank known.opening.cmd) (not (list_any (is_end_of place) known.back)) opens (ap not none);
    }

-- the movement that the search finds holds the tank
found_held : (history : History) (tank place : ℕ) → holding_movement history tank ≡ Some place → IsHeldBy history tank place
unfolding holding_movement
found_held history tank place e =
    let found = found_holding 1 tank history.entries place e in
    record {
      holds = holds_of history tank place found.holds;
      first = λ earlier below holds. found.first earlier below (of_holds history tank earlier holds);
    }

-- the search finds the movement that holds the tank
held_found : (history : History) (tank place : ℕ) → IsHeldBy history tank place → holding_movement history tank ≡ Some place
unfolding holding_movement
held_found history tank place held = by (holding_from 1 tank history.entries) refl
  where
    by : (o : Option ℕ) → holding_from 1 tank history.entries ≡ o → o ≡ Some place
    by None e = absurd (none_holding 1 tank history.entries place e (of_holds history tank place held.holds))
    by (Some other) e =
        let found = found_holding 1 tank history.entries other e in
        let not_before : ¬ (other < place) = λ below. held.first other below (holds_of history tank other found.holds) in
        let not_after : ¬ (place < other) = λ below. found.first place below (of_holds history tank place held.holds) in
        let same : other ≡ place = omega (arith, not_before, not_after) in
        ap {B = Option ℕ} Some same

-- a tank is held by the movement in the words of the rule
pub holdings_mean : (history : History) (tank place : ℕ) → (holding_movement history tank ≡ Some place) ↔ IsHeldBy history tank place
holdings_mean history tank place = (found_held history tank place, held_found history tank place)
