-- The rules on movements: each definition answers exactly where the entry breaks the rule in its own words.
use Rattle.std.proofs.Common.{◌≡◌, ℕ, Bool, true, not, List, map, Option, Some, None, option_and_then, refl, ap, ap₂, ◌∙◌, subst, arith}
use Rattle.std.specs.Prelude.{◌==◌, Contains}
use Rattle.std.proofs.lemmas.Bool.{both_ways, eq-eqb, eqb-false, eqb-true, false_from_ne_true, ne_eqb, not-true, not_from_false}
use Rattle.farm_site.specs.Parties.{party_number}
use Rattle.farm_site.specs.declared.items.Tank.{Tank}
use Rattle.farm_site.specs.Numbers.{is_among}
use Rattle.farm_history.specs.declared.command.Command.{Command}
use Rattle.farm_history.specs.declared.command.Command.TheVariants.{Opening}
use Rattle.farm_history.specs.declared.entry.Entry.{Entry}
use Rattle.farm_history.specs.declared.plan.Gauged.{Gauged}
use Rattle.farm_history.specs.declared.plan.Plan.{Plan}
use Rattle.farm_history.specs.declared.plan.Plan.TheVariants.{Outside, Transfer}
use Rattle.farm_history.specs.declared.rule.Rule.TheVariants.{UnknownParty, SameTank, OtherProduct, TankBusy, NoMovement}
use Rattle.farm_ticket.specs.declared.side.Way.{Way}
use Rattle.farm_history.specs.Breaking.{Breaks, HoldDifferent, NamesNoMovement, NamesNoParty, OpensTransfer}
use Rattle.farm_history.specs.Commands.{plan_of, tanks_needed}
use Rattle.farm_history.specs.Given.{first_given}
use Rattle.farm_history.specs.History.{History, tank_after}
use Rattle.farm_history.specs.MovementRules.{gives_one_tank, gives_other_product, hold_different, movement_named, no_movement, other_product, party_of, same_tank, tank_busy, unknown_party, unless_open}
use Rattle.farm_history.specs.Movements.{IsHeldBy, IsOpen, holding_movement, open_movement}
use Rattle.farm_history.proofs.Given.{any_passed, found_such, passed, such_of}
use Rattle.farm_history.proofs.Holdings.{holdings_mean}
use Rattle.farm_history.proofs.OneRule.{IsGiven, first_one, given_says, kept_one, tested_says, value_says}
use Rattle.farm_history.proofs.OpenMovements.{open_movements_mean, plan_is}
use Rattle.farm_history.proofs.Says.{Says}

-- the party that a command gives
abbrev party_given : Command → Option ℕ
party_given command = option_and_then party_of (plan_of command)

-- a command opens a receipt or a delivery with a party
record IsOutside (command : Command) (party : ℕ) : Type 0 where
  way : Way
  tank : ℕ
  gauged : Gauged
  given : command ≡ Opening (Outside way tank party gauged)

-- a command that gives a party does so
outside_of : (command : Command) (party : ℕ) → party_given command ≡ Some party → IsOutside command party
outside_of (Opening (Outside way tank number gauged)) party is =
    let same : number ≡ party = cc in
    record { way = way; tank = tank; gauged = gauged; given = ap {B = Command} (λ (n : ℕ). Opening (Outside way tank n gauged)) same }
outside_of (Opening (Transfer from to from_gauged to_gauged)) party is = cc
outside_of command party is = cc

-- a number that doesn't test as one of a list isn't in it
among_not : (number : ℕ) (numbers : List ℕ) → not (is_among number numbers) ≡ true → ¬ (Contains numbers number)
among_not number numbers test has =
    both_ways (is_among number numbers) (not-true (is_among number numbers) test)
    (any_passed (λ other. other == number) numbers number has (eq-eqb number number refl))

-- a number that isn't in a list doesn't test as one of it
not_among : (number : ℕ) (numbers : List ℕ) → ¬ (Contains numbers number) → not (is_among number numbers) ≡ true
not_among number numbers none =
    not_from_false (is_among number numbers) (false_from_ne_true (is_among number numbers) (λ any.
    let w = passed (λ other. other == number) numbers any in
    none (subst (Contains numbers) (eqb-true w.item number w.passes) w.given)))

-- rule 4: the command gives a party that isn't of the site
pub party_says : (limit : ℕ) (history : History) (entry : Entry) →
    Says (Breaks limit history entry) 3 4 (unknown_party history entry.cmd)
unfolding unknown_party
party_says limit history entry =
    tested_says (Breaks limit history entry) 3 (omega arith) UnknownParty is_unknown (party_given entry.cmd) (λ value. refl) refl there back
  where
    is_unknown : ℕ → Bool
    is_unknown party = not (is_among party (map party_number history.site.parties))

    there : (party : ℕ) → party_given entry.cmd ≡ Some party → is_unknown party ≡ true → NamesNoParty history entry.cmd
    there party is test =
        let outside = outside_of entry.cmd party is in
        record {
          way = outside.way;
          tank = outside.tank;
          party = party;
          gauged = outside.gauged;
          given = outside.given;
          missing = among_not party (map party_number history.site.parties) test;
        }

    back : NamesNoParty history entry.cmd → IsGiven is_unknown (party_given entry.cmd)
    back broken = record {
      item = broken.party;
      is = ap party_given broken.given;
      passes = not_among broken.party (map party_number history.site.parties) broken.missing;
    }

-- rule 9: a transfer gives one tank twice
pub same_says : (limit : ℕ) (history : History) (entry : Entry) → Says (Breaks limit history entry) 8 9 (same_tank entry.cmd)
unfolding same_tank
same_says limit history entry =
    tested_says (Breaks limit history entry) 8 (omega arith) SameTank gives_one_tank (plan_of entry.cmd) (λ value. refl) refl
    (λ plan is. there entry.cmd plan (plan_is entry.cmd plan is)) back
  where
    there : (command : Command) (plan : Plan) → command ≡ Opening plan → gives_one_tank plan ≡ true → OpensTransfer command (λ from to. from ≡ to)
    there command (Outside way tank party gauged) is test = cc
    there command (Transfer from to from_gauged to_gauged) is test = record {
      from = from;
      to = to;
      from_gauged = from_gauged;
      to_gauged = to_gauged;
      given = is;
      there = eqb-true from to test;
    }

    back : OpensTransfer entry.cmd (λ from to. from ≡ to) → IsGiven gives_one_tank (plan_of entry.cmd)
    back broken = record {
      item = Transfer broken.from broken.to broken.from_gauged broken.to_gauged;
      is = ap plan_of broken.given;
      passes = eq-eqb broken.from broken.to broken.there;
    }

-- two tanks that test as holding different products do
differ_from : (history : History) (from to : ℕ) →
    hold_different (tank_after history from) (tank_after history to) ≡ true → HoldDifferent history from to
differ_from history from to = by (tank_after history from) (tank_after history to) refl refl
  where
    by : (first second : Option Tank) → tank_after history from ≡ first → tank_after history to ≡ second →
        hold_different first second ≡ true → HoldDifferent history from to
    by None second here there test = cc
    by (Some tank) None here there test = cc
    by (Some tank) (Some other) here there test = record {
      tank = tank;
      other = other;
      first = here;
      second = there;
      different = eqb-false tank.product other.product (not-true (tank.product == other.product) test);
    }

-- and those that do test so
differ_to : (history : History) (from to : ℕ) →
    HoldDifferent history from to → hold_different (tank_after history from) (tank_after history to) ≡ true
differ_to history from to differ =
    ap₂ hold_different differ.first differ.second
    ∙ not_from_false (differ.tank.product == differ.other.product) (ne_eqb differ.tank.product differ.other.product differ.different)

-- rule 10: the tanks of a transfer hold different products
pub product_says : (limit : ℕ) (history : History) (entry : Entry) → Says (Breaks limit history entry) 9 10 (other_product history entry.cmd)
unfolding other_product
product_says limit history entry =
    tested_says (Breaks limit history entry) 9 (omega arith) OtherProduct (gives_other_product history) (plan_of entry.cmd) (λ value. refl) refl
    (λ plan is. there entry.cmd plan (plan_is entry.cmd plan is)) back
  where
    there : (command : Command) (plan : Plan) → command ≡ Opening plan → gives_other_product history plan ≡ true →
        OpensTransfer command (HoldDifferent history)
    there command (Outside way tank party gauged) is test = cc
    there command (Transfer from to from_gauged to_gauged) is test = record {
      from = from;
      to = to;
      from_gauged = from_gauged;
      to_gauged = to_gauged;
      given = is;
      there = differ_from history from to test;
    }

    back : OpensTransfer entry.cmd (HoldDifferent history) → IsGiven (gives_other_product history) (plan_of entry.cmd)
    back broken = record {
      item = Transfer broken.from broken.to broken.from_gauged broken.to_gauged;
      is = ap plan_of broken.given;
      passes = differ_to history broken.from broken.to broken.there;
    }

-- rule 11: of the tanks that have to be free and are held the first is held by the movement at this place
pub busy_says : (limit : ℕ) (history : History) (entry : Entry) → Says (Breaks limit history entry) 10 11 (tank_busy history entry.cmd)
unfolding tank_busy
busy_says limit history entry =
    value_says (Breaks limit history entry) 10 (omega arith) TankBusy (first_given (holding_movement history) (tanks_needed entry.cmd))
    (λ place. refl) (λ place. refl)
    (found_such (holding_movement history) (IsHeldBy history) (holdings_mean history) (tanks_needed entry.cmd))
    (such_of (holding_movement history) (IsHeldBy history) (holdings_mean history) (tanks_needed entry.cmd))

-- rule 12: the movement that a Closing or a Cancel names isn't open
pub open_says : (limit : ℕ) (history : History) (entry : Entry) → Says (Breaks limit history entry) 11 12 (no_movement history entry.cmd)
unfolding no_movement
open_says limit history entry =
    given_says (Breaks limit history entry) 11 (omega arith) (λ movement. unless_open (open_movement history movement)) (movement_named entry.cmd) kept
    (λ movement is. by movement is (open_movement history movement) refl)
  where
    kept : movement_named entry.cmd ≡ None → (value : ℕ) → ¬ (NamesNoMovement history entry.cmd)
    kept none value broken = let names = broken.named in cc

    by : (movement : ℕ) → movement_named entry.cmd ≡ Some movement → (o : Option Plan) → open_movement history movement ≡ o →
        Says (Breaks limit history entry) 11 12 (unless_open o)
    by movement is None e =
        first_one (Breaks limit history entry) 11 NoMovement refl
        (record {
          movement = movement;
          named = is;
          missing = λ plan is_open. let found = (open_movements_mean history movement plan).1 is_open in cc;
        })
    by movement is (Some plan) e =
        kept_one (Breaks limit history entry) 11 (omega arith) (λ value broken.
        let names = broken.named in
        let same : movement ≡ broken.movement = cc in
        broken.missing plan (subst (λ (place : ℕ). IsOpen history place plan) same ((open_movements_mean history movement plan).0 e)))
