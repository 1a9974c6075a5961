-- Whether a Closing tests as going the wrong way, in the figures of its sides.
use Rattle.std.proofs.Common.{◌≡◌, ℕ, Bool, true, false, ◌||◌, Option, Some, None, option_and_then, option_map, refl}
use Rattle.farm_fixed.specs.declared.records.Quantities.{Quantities}
use Rattle.farm_movement.specs.Movements.{OpenMove}
use Rattle.farm_ticket.specs.Amounts.{moved}
use Rattle.farm_ticket.specs.declared.side.Way.{Way}
use Rattle.farm_ticket.specs.declared.side.Way.TheVariants.{Inward, Outward}
use Rattle.farm_history.specs.declared.plan.Gauged.{Gauged}
use Rattle.farm_history.specs.declared.plan.Plan.TheVariants.{Outside, Transfer}
use Rattle.farm_history.specs.Figures.{figures_at, named}
use Rattle.farm_history.specs.History.{History}
use Rattle.farm_history.specs.MovementRules.{closes_wrong}
use Rattle.farm_history.specs.Tickets.{figures_at_closing, is_refused, leg_at, movement_of, plan_to_close}

-- a side whose figures may be known goes the wrong way
abbrev pub side_wrong : Way → Option Quantities → Option Quantities → Bool
side_wrong way (Some opening) (Some closing) = is_refused (moved way opening closing)
side_wrong way opening closing = false

-- one of two sides goes the wrong way, where all figures are known
abbrev pub one_wrong : Option Quantities → Option Quantities → Option Quantities → Option Quantities → Bool
one_wrong (Some opening) (Some other) (Some closing) (Some last) =
    is_refused (moved Outward opening closing) || is_refused (moved Inward other last)
one_wrong opening other closing last = false

-- a test, or one that fails
or_false : (test : Bool) → (test || false) ≡ test
or_false true = refl
or_false false = refl

-- the test of a receipt or a delivery is that of its side
pub outside_test : (history : History) (movement : ℕ) (first : Gauged) (second : Option Gauged) (way : Way) (tank party : ℕ) (gauged : Gauged)
    (opening closing : Option Quantities) → figures_at history (named tank gauged) ≡ opening → figures_at history (named tank first) ≡ closing →
    closes_wrong (plan_to_close history movement first second (Outside way tank party gauged)) ≡ side_wrong way opening closing
unfolding movement_of leg_at figures_at_closing
outside_test history movement first second way tank party gauged None closing opened closed = rw opened refl
outside_test history movement first second way tank party gauged (Some opening) None opened closed = rw (opened, closed) refl
outside_test history movement first second way tank party gauged (Some opening) (Some closing) opened closed =
    rw (opened, closed) (or_false (is_refused (moved way opening closing)))

-- the test of a transfer is that of its sides
pub transfer_test : (history : History) (movement : ℕ) (first second : Gauged) (from to : ℕ) (from_gauged to_gauged : Gauged)
    (opening other closing last : Option Quantities) →
    figures_at history (named from from_gauged) ≡ opening → figures_at history (named to to_gauged) ≡ other →
    figures_at history (named from first) ≡ closing → figures_at history (named to second) ≡ last →
    closes_wrong (plan_to_close history movement first (Some second) (Transfer from to from_gauged to_gauged)) ≡ one_wrong opening other closing last
unfolding movement_of leg_at figures_at_closing
transfer_test history movement first second from to from_gauged to_gauged None other closing last is_opening is_other is_closing is_last =
    rw is_opening refl
transfer_test history movement first second from to from_gauged to_gauged (Some opening) None closing last is_opening is_other is_closing is_last =
    rw (is_opening, is_other) refl
transfer_test history movement first second from to from_gauged to_gauged (Some opening) (Some other) None last is_opening is_other is_closing is_last =
    rw (is_opening, is_other, is_closing) refl
transfer_test history movement first second from to from_gauged to_gauged (Some opening) (Some other) (Some closing) None is_opening is_other is_closing is_last =
    rw (is_opening, is_other, is_closing, is_last) refl
transfer_test history movement first second from to from_gauged to_gauged (Some opening) (Some other) (Some closing) (Some last) is_opening is_other is_closing is_last =
    rw (is_opening, is_other, is_closing, is_last) refl

-- a transfer isn't closed on one reading
pub none_closes : (history : History) (movement : ℕ) (first : Gauged) (from to : ℕ) (from_gauged to_gauged : Gauged) →
    closes_wrong (plan_to_close history movement first None (Transfer from to from_gauged to_gauged)) ≡ false
unfolding figures_at_closing
none_closes history movement first from to from_gauged to_gauged = by (movement_of history movement (Transfer from to from_gauged to_gauged))
  where
    by : (o : Option OpenMove) →
        closes_wrong (option_and_then (λ move. option_map (λ (figures : Quantities × Option Quantities). (move, figures.0, figures.1)) None) o) ≡ false
    by None = refl
    by (Some move) = refl
