-- Which movement holds a tank after an entry more of a legal history.
use Rattle.std.proofs.Common.{◌≡◌, ◌⊎◌, inl, inr, ℕ, ◌+◌, ◌<◌, ◌≤◌, Bool, true, false, All, IsFalse, IsTrue, if◌then◌else◌, [], ◌∷◌, ◌++◌, length, Option, Some, None, refl, ap, sym, ◌∙◌, subst, append_assoc, length-append, arith}
use Rattle.std.proofs.lemmas.Bool.{both_ways}
use Rattle.std.proofs.lemmas.Bool.Decides.{leb_tells}
use Rattle.std.proofs.lemmas.List.Elements.{All-append, All-cons, All-nil}
use Rattle.farm_history.specs.declared.command.Command.TheVariants.{Opening}
use Rattle.farm_history.specs.declared.entry.Entry.{Entry}
use Rattle.farm_history.specs.declared.plan.Plan.{Plan}
use Rattle.farm_history.specs.declared.verdict.Verdict.TheVariants.{Accept}
use Rattle.farm_history.specs.Commands.{names_tank, opens_on}
use Rattle.farm_history.specs.History.{History, last_place, with_entry}
use Rattle.farm_history.specs.MovementRules.{tank_busy}
use Rattle.farm_history.specs.Movements.{Holds, IsHeldBy, IsOpen, holding_movement, is_end_of}
use Rattle.farm_history.specs.Verdicts.{IsLegal, verdict}
use Rattle.farm_history.proofs.At.{at_after}
use Rattle.farm_history.proofs.Holdings.{holdings_mean, opens_on_is}
use Rattle.farm_indexes.specs.Following.{MayFollow}
use Rattle.farm_indexes.specs.TankStates.{held_after, unless_ended}
use Rattle.farm_indexes.proofs.OpenAt.{held_before, none_busy, one_holder, opens_free, unheld}

-- if no movement holds a tank, none is found
none_held : (history : History) (tank : ℕ) → ((place : ℕ) → ¬ (Holds history tank place)) → holding_movement history tank ≡ None
none_held history tank none = by (holding_movement history tank) refl
  where
    by : (o : Option ℕ) → holding_movement history tank ≡ o → o ≡ None
    by None found = refl
    by (Some place) found = let held = (holdings_mean history tank place).0 found in absurd (none place held.holds)

-- a movement that a further entry doesn't end still holds a tank
held_still : (history : History) (entry : Entry) (tank place : ℕ) → Holds history tank place → IsFalse (is_end_of place entry) →
    Holds (with_entry history entry) tank place
held_still history entry tank place holds unended =
    let known = holds.is_open in
    let none : All (λ (other : Entry). IsFalse (is_end_of place other)) (entry ∷ []) =
    All-cons (λ (other : Entry). IsFalse (is_end_of place other)) entry [] unended (All-nil (λ (other : Entry). IsFalse (is_end_of place other))) in
    let is_open : IsOpen (with_entry history entry) place holds.plan = record {
      front = known.front;
      opening = known.opening;
      back = known.back ++ entry ∷ [];
      split = ap (λ entries. entries ++ entry ∷ []) known.split ∙ append_assoc known.front (known.opening ∷ known.back) (entry ∷ []);
      counted = known.counted;
      opened = known.opened;
      unended = All-append (λ (other : Entry). IsFalse (is_end_of place other)) known.back (entry ∷ []) known.unended none;
    } in
    record { plan = holds.plan; is_open = is_open; named = holds.named }

-- a further Opening holds the tanks that its plan names
held_by_last : (history : History) (entry : Entry) (tank : ℕ) (plan : Plan) → entry.cmd ≡ Opening plan → IsTrue (names_tank tank plan) →
    Holds (with_entry history entry) tank (last_place history + 1)
held_by_last history entry tank plan opened named =
    let is_open : IsOpen (with_entry history entry) (last_place history + 1) plan = record {
      front = history.entries;
      opening = entry;
      back = [];
      split = refl;
      counted = refl;
      opened = opened;
      unended = All-nil (λ (other : Entry). IsFalse (is_end_of (last_place history + 1) other));
    } in
    record { plan = plan; is_open = is_open; named = named }

-- a movement held a tank before a further entry, which doesn't end it
record HeldStill (history : History) (entry : Entry) (tank place : ℕ) : Type 0 where
  holds : Holds history tank place
  unended : IsFalse (is_end_of place entry)

-- what holds a tank after a further entry is that entry, or held it before
held_from : (history : History) (entry : Entry) (tank place : ℕ) → Holds (with_entry history entry) tank place →
    IsTrue (opens_on tank entry.cmd) ⊎ HeldStill history entry tank place
held_from history entry tank place holds = elim (leb_tells place (last_place history)) [
  | inl w ↦ inr (of_before w.1)
  | inr w ↦ inl (of_last w.1)
]
  where
    known : IsOpen (with_entry history entry) place holds.plan
    known = holds.is_open

    of_before : place ≤ last_place history → HeldStill history entry tank place
    of_before within =
        let before = held_before (with_entry history entry) tank place history.entries [] entry refl holds within in
        record { holds = before.0; unended = before.1 }

    of_last : last_place history < place → IsTrue (opens_on tank entry.cmd)
    of_last beyond =
        let counted = known.counted in
        let parts = length-append known.front (known.opening ∷ known.back) in
        let whole = length-append history.entries (entry ∷ []) in
        let same = ap length known.split in
        let last : length known.front ≡ length history.entries = omega (arith, counted, parts, whole, same, beyond) in
        let here = at_after (with_entry history entry) known.front known.back known.opening known.split in
        let there = at_after (with_entry history entry) history.entries [] entry refl in
        let entry_is : known.opening ≡ entry = cc in
        ap (opens_on tank) (ap (λ (e : Entry). e.cmd) (sym entry_is) ∙ known.opened) ∙ holds.named

-- the movement that holds a tank after a further entry that opens one on it
held_after_opening : (limit : ℕ) (history : History) (entry : Entry) (tank : ℕ) → verdict limit history entry ≡ Accept →
    IsTrue (opens_on tank entry.cmd) → holding_movement (with_entry history entry) tank ≡ Some (last_place history + 1)
held_after_opening limit history entry tank accepted opens =
    let is = opens_on_is tank entry.cmd opens in
    let busy = none_busy limit history entry accepted in
    let free = opens_free history tank is.plan (subst (λ command. tank_busy history command ≡ None) is.opened busy) is.named in
    let first : (earlier : ℕ) → earlier < last_place history + 1 → ¬ (Holds (with_entry history entry) tank earlier) =
    λ earlier below held. unheld history tank free earlier
    (held_before (with_entry history entry) tank earlier history.entries [] entry refl held (omega (arith, below))).0 in
    (holdings_mean (with_entry history entry) tank (last_place history + 1)).1
    (record { holds = held_by_last history entry tank is.plan is.opened is.named; first = first })

-- the movement that holds a tank after a further entry that opens none on it
held_after_other : (limit : ℕ) (history : History) (entry : Entry) (tank : ℕ) → IsLegal limit history →
    IsFalse (opens_on tank entry.cmd) →
    holding_movement (with_entry history entry) tank ≡ unless_ended entry.cmd (holding_movement history tank)
held_after_other limit history entry tank legal opens = by (holding_movement history tank) refl
  where
    before : (place : ℕ) → Holds (with_entry history entry) tank place → HeldStill history entry tank place
    before place holds = elim (held_from history entry tank place holds) [
      | inl here ↦ absurd (both_ways (opens_on tank entry.cmd) opens here)
      | inr still ↦ still
    ]

    ended_too : (place other : ℕ) → IsHeldBy history tank place → is_end_of place entry ≡ true → ¬ (Holds (with_entry history entry) tank other)
    ended_too place other held ended holds =
        let still = before other holds in
        let same = one_holder limit history tank place other legal held.holds still.holds in
        both_ways (is_end_of other entry) still.unended (subst (λ (p : ℕ). is_end_of p entry ≡ true) same ended)

    of_found : (place : ℕ) → IsHeldBy history tank place → (b : Bool) → is_end_of place entry ≡ b →
        holding_movement (with_entry history entry) tank ≡ (if b then None else Some place)
    of_found place held true ended =
        none_held (with_entry history entry) tank (λ other holds. ended_too place other held ended holds)
    of_found place held false unended =
        (holdings_mean (with_entry history entry) tank place).1 (record {
          holds = held_still history entry tank place held.holds unended;
          first = λ earlier below holds. held.first earlier below (before earlier holds).holds;
        })

    by : (o : Option ℕ) → holding_movement history tank ≡ o → holding_movement (with_entry history entry) tank ≡ unless_ended entry.cmd o
    by None none = none_held (with_entry history entry) tank (λ place holds. unheld history tank none place (before place holds).holds)
    by (Some place) found = of_found place ((holdings_mean history tank place).0 found) (is_end_of place entry) refl

-- the movement that holds a tank after an entry that may follow
pub held_more : (history : History) (entry : Entry) (tank : ℕ) → MayFollow history entry →
    holding_movement (with_entry history entry) tank ≡ held_after (last_place history + 1) tank entry.cmd (holding_movement history tank)
held_more history entry tank follows = by (opens_on tank entry.cmd) refl
  where
    by : (b : Bool) → opens_on tank entry.cmd ≡ b →
        holding_movement (with_entry history entry) tank ≡
        (if b then Some (last_place history + 1) else unless_ended entry.cmd (holding_movement history tank))
    by true opens = held_after_opening follows.limit history entry tank follows.next.accepted opens
    by false other = held_after_other follows.limit history entry tank follows.legal other
