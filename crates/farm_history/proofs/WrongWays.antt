-- The rule on the way that a volume goes: the definition answers exactly where the entry breaks the rule in its own words.
use Rattle.std.proofs.Common.{◌≡◌, inl, inr, ℕ, Bool, true, false, ◌||◌, if◌then◌else◌, Option, Some, None, option_and_then, Ok, Err, ℤ, pos, ◌-ℤ◌, ◌<ℤ◌, int_lt, refl, ap, sym, ◌∙◌, arith}
use Rattle.std.proofs.lemmas.Bool.{or_cases, or_left, or_right}
use Rattle.std.proofs.lemmas.Int.{ints}
use Rattle.farm_fixed.specs.declared.records.Quantities.{Quantities}
use Rattle.farm_ticket.specs.Amounts.{IsWrongWay, differences, moved}
use Rattle.farm_ticket.specs.declared.amounts.WrongWay.{WrongWay as NoMove}
use Rattle.farm_ticket.specs.declared.side.Moved.{Moved}
use Rattle.farm_ticket.specs.declared.side.Way.{Way}
use Rattle.farm_ticket.specs.declared.side.Way.TheVariants.{Inward, Outward}
use Rattle.farm_history.specs.declared.command.Command.{Command}
use Rattle.farm_history.specs.declared.command.Command.TheVariants.{Closing}
use Rattle.farm_history.specs.declared.entry.Entry.{Entry}
use Rattle.farm_history.specs.declared.plan.Gauged.{Gauged}
use Rattle.farm_history.specs.declared.plan.Named.{Named}
use Rattle.farm_history.specs.declared.plan.Plan.{Plan}
use Rattle.farm_history.specs.declared.plan.Plan.TheVariants.{Outside, Transfer}
use Rattle.farm_history.specs.declared.rule.Rule.TheVariants.{WrongWay}
use Rattle.farm_history.specs.Breaking.{Breaks, ClosesWrong, IsWrongClosing, WentWrong}
use Rattle.farm_history.specs.Figures.{calculated_at, figures_at, figures_of, named}
use Rattle.farm_history.specs.History.{History}
use Rattle.farm_history.specs.MovementRules.{closes_wrong, is_wrong_way, wrong_way}
use Rattle.farm_history.specs.Movements.{opened_at}
use Rattle.farm_history.specs.Tickets.{is_refused, plan_to_close, to_close}
use Rattle.farm_history.proofs.OneRule.{test_says}
use Rattle.farm_history.proofs.Says.{Says}
use Rattle.farm_history.proofs.SideTests.{none_closes, one_wrong, outside_test, side_wrong, transfer_test}
use Rattle.farm_history.proofs.Sides.{figures_known}

-- one number less another tests as below zero: it is below the other
below_from : (a b : ℤ) → int_lt (a -ℤ b) (pos 0) ≡ true → a <ℤ b
below_from a b test = grind (arith, ints)

-- and one below the other tests so
pub below_to : (a b : ℤ) → a <ℤ b → int_lt (a -ℤ b) (pos 0) ≡ true
below_to a b less = grind (arith, ints)

-- what is refused where a test passes
pub refused_where : (test : Bool) (wrong : NoMove) (amounts : Moved) → is_refused (if test then Err wrong else Ok amounts) ≡ test
refused_where true wrong amounts = refl
refused_where false wrong amounts = refl

-- a side that tests as going the wrong way does
wrong_from : (way : Way) (opening closing : Quantities) → is_refused (moved way opening closing) ≡ true → IsWrongWay way opening closing
unfolding moved differences
wrong_from Inward opening closing test =
    below_from closing.nsv opening.nsv (sym (refused_where (int_lt (closing.nsv -ℤ opening.nsv) (pos 0)) _ _) ∙ test)
wrong_from Outward opening closing test =
    below_from opening.nsv closing.nsv (sym (refused_where (int_lt (opening.nsv -ℤ closing.nsv) (pos 0)) _ _) ∙ test)

-- and one that does tests so
wrong_to : (way : Way) (opening closing : Quantities) → IsWrongWay way opening closing → is_refused (moved way opening closing) ≡ true
unfolding moved differences
wrong_to Inward opening closing wrong =
    refused_where (int_lt (closing.nsv -ℤ opening.nsv) (pos 0)) _ _ ∙ below_to closing.nsv opening.nsv wrong
wrong_to Outward opening closing wrong =
    refused_where (int_lt (opening.nsv -ℤ closing.nsv) (pos 0)) _ _ ∙ below_to opening.nsv closing.nsv wrong

-- the figures of a calculation are known
known_to : (history : History) (pair : Named) (figures : Quantities) →
    calculated_at history pair ≡ Some (Ok figures) → figures_at history pair ≡ Some figures
unfolding figures_at
known_to history pair figures is = ap (option_and_then figures_of) is

-- a side that went the wrong way, of figures that are known
went_from : (history : History) (way : Way) (at_opening at_closing : Named) (opening closing : Quantities) →
    figures_at history at_opening ≡ Some opening → figures_at history at_closing ≡ Some closing →
    is_refused (moved way opening closing) ≡ true → WentWrong history way at_opening at_closing
went_from history way at_opening at_closing opening closing opened closed test = record {
  opening = opening;
  closing = closing;
  opened = figures_known history at_opening opening opened;
  closed = figures_known history at_closing closing closed;
  wrong = wrong_from way opening closing test;
}

-- and where one did, its figures test so
went_to : (history : History) (way : Way) (at_opening at_closing : Named) (opening closing : Quantities) →
    figures_at history at_opening ≡ Some opening → figures_at history at_closing ≡ Some closing →
    WentWrong history way at_opening at_closing → is_refused (moved way opening closing) ≡ true
went_to history way at_opening at_closing opening closing opened closed went =
    let opens = known_to history at_opening went.opening went.opened in
    let closes = known_to history at_closing went.closing went.closed in
    let test = wrong_to way went.opening went.closing went.wrong in
    let same : went.opening ≡ opening = cc in
    let equal : went.closing ≡ closing = cc in
    cc

-- a receipt or a delivery that tests as going the wrong way does
outside_from : (history : History) (first : Gauged) (way : Way) (tank : ℕ) (gauged : Gauged) (opening closing : Option Quantities) →
    figures_at history (named tank gauged) ≡ opening → figures_at history (named tank first) ≡ closing →
    side_wrong way opening closing ≡ true → WentWrong history way (named tank gauged) (named tank first)
outside_from history first way tank gauged None closing opened closed test = cc
outside_from history first way tank gauged (Some opening) None opened closed test = cc
outside_from history first way tank gauged (Some opening) (Some closing) opened closed test =
    went_from history way (named tank gauged) (named tank first) opening closing opened closed test

-- all figures that a transfer is closed on are known, and one of its sides went the wrong way
abbrev TransferWrong : History → Gauged → Gauged → ℕ → ℕ → Gauged → Gauged → Type 0
TransferWrong history first second from to from_gauged to_gauged = ClosesWrong history first (Some second) (Transfer from to from_gauged to_gauged)

-- a transfer that tests as going the wrong way does
transfer_from : (history : History) (first second : Gauged) (from to : ℕ) (from_gauged to_gauged : Gauged)
    (opening other closing last : Option Quantities) →
    figures_at history (named from from_gauged) ≡ opening → figures_at history (named to to_gauged) ≡ other →
    figures_at history (named from first) ≡ closing → figures_at history (named to second) ≡ last →
    one_wrong opening other closing last ≡ true → TransferWrong history first second from to from_gauged to_gauged
transfer_from history first second from to from_gauged to_gauged (Some opening) (Some other) (Some closing) (Some last) is_opening is_other is_closing is_last test = (
  (opening, figures_known history (named from from_gauged) opening is_opening),
  (closing, figures_known history (named from first) closing is_closing),
  (other, figures_known history (named to to_gauged) other is_other),
  (last, figures_known history (named to second) last is_last),
  elim (or_cases (is_refused (moved Outward opening closing)) (is_refused (moved Inward other last)) test) [
    | inl e ↦ inl (went_from history Outward (named from from_gauged) (named from first) opening closing is_opening is_closing e)
    | inr e ↦ inr (went_from history Inward (named to to_gauged) (named to second) other last is_other is_last e)
  ],
)
transfer_from history first second from to from_gauged to_gauged opening other closing last is_opening is_other is_closing is_last test = cc

-- a plan whose Closing tests as going the wrong way goes so
plan_from : (history : History) (movement : ℕ) (first : Gauged) (second : Option Gauged) (plan : Plan) →
    closes_wrong (plan_to_close history movement first second plan) ≡ true → ClosesWrong history first second plan
plan_from history movement first second (Outside way tank party gauged) test =
    outside_from history first way tank gauged (figures_at history (named tank gauged)) (figures_at history (named tank first)) refl refl
    (sym (outside_test history movement first second way tank party gauged (figures_at history (named tank gauged))
    (figures_at history (named tank first)) refl refl) ∙ test)
plan_from history movement first None (Transfer from to from_gauged to_gauged) test =
    let none = none_closes history movement first from to from_gauged to_gauged in cc
plan_from history movement first (Some second) (Transfer from to from_gauged to_gauged) test =
    let opening = figures_at history (named from from_gauged) in
    let closing = figures_at history (named from first) in
    let other = figures_at history (named to to_gauged) in
    let last = figures_at history (named to second) in
    transfer_from history first second from to from_gauged to_gauged opening other closing last refl refl refl refl
    (sym (transfer_test history movement first second from to from_gauged to_gauged opening other closing last refl refl refl refl) ∙ test)

-- and one that goes so tests so
plan_to : (history : History) (movement : ℕ) (first : Gauged) (second : Option Gauged) (plan : Plan) →
    ClosesWrong history first second plan → closes_wrong (plan_to_close history movement first second plan) ≡ true
plan_to history movement first second (Outside way tank party gauged) wrong =
    outside_test history movement first second way tank party gauged (Some wrong.opening) (Some wrong.closing)
    (known_to history (named tank gauged) wrong.opening wrong.opened) (known_to history (named tank first) wrong.closing wrong.closed)
    ∙ wrong_to way wrong.opening wrong.closing wrong.wrong
plan_to history movement first None (Transfer from to from_gauged to_gauged) wrong = absurd wrong
plan_to history movement first (Some second) (Transfer from to from_gauged to_gauged) wrong =
    let is_opening = known_to history (named from from_gauged) wrong.0.0 wrong.0.1 in
    let is_closing = known_to history (named from first) wrong.1.0 wrong.1.1 in
    let is_other = known_to history (named to to_gauged) wrong.2.0 wrong.2.1 in
    let is_last = known_to history (named to second) wrong.3.0 wrong.3.1 in
    let out = is_refused (moved Outward wrong.0.0 wrong.1.0) in
    let into = is_refused (moved Inward wrong.2.0 wrong.3.0) in
    let test : (out || into) ≡ true = elim (wrong.4) [
      | inl w ↦ or_left out into (went_to history Outward (named from from_gauged) (named from first) wrong.0.0 wrong.1.0 is_opening is_closing w)
      | inr w ↦ or_right out into (went_to history Inward (named to to_gauged) (named to second) wrong.2.0 wrong.3.0 is_other is_last w)
    ] in
    transfer_test history movement first second from to from_gauged to_gauged (Some wrong.0.0) (Some wrong.2.0) (Some wrong.1.0) (Some wrong.3.0)
    is_opening is_other is_closing is_last ∙ test

-- a command that tests as a Closing that goes the wrong way is one
closing_from : (history : History) (command : Command) → is_wrong_way history command ≡ true → IsWrongClosing history command
unfolding to_close
closing_from history (Closing movement first second) = by (opened_at history movement) refl
  where
    by : (o : Option Plan) → opened_at history movement ≡ o →
        closes_wrong (option_and_then (plan_to_close history movement first second) o) ≡ true →
        IsWrongClosing history (Closing movement first second)
    by None is test = cc
    by (Some plan) is test = record {
      movement = movement;
      first = first;
      second = second;
      plan = plan;
      given = refl;
      opened = is;
      wrong = plan_from history movement first second plan test;
    }
closing_from history command = λ test. cc

-- and such a Closing tests so
closing_to : (history : History) (command : Command) → IsWrongClosing history command → is_wrong_way history command ≡ true
unfolding to_close
closing_to history command closing =
    ap (is_wrong_way history) closing.given
    ∙ ap (λ (o : Option Plan). closes_wrong (option_and_then (plan_to_close history closing.movement closing.first closing.second) o)) closing.opened
    ∙ plan_to history closing.movement closing.first closing.second closing.plan closing.wrong

-- rule 19: the net standard volume of a tank went the wrong way
pub way_says : (limit : ℕ) (history : History) (entry : Entry) → Says (Breaks limit history entry) 18 19 (wrong_way history entry.cmd)
unfolding wrong_way
way_says limit history entry =
    test_says (Breaks limit history entry) 18 (omega arith) WrongWay (is_wrong_way history entry.cmd) (λ value. refl) refl
    (closing_from history entry.cmd) (closing_to history entry.cmd)
