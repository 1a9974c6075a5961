-- A movement's figures at its opening stay what they are when entries follow.
use Rattle.std.proofs.Common.{◌≡◌, ℕ, ◌≤◌, Contains, List, [], ◌∷◌, length, Option, Some, None, option_and_then, option_map, refl, ap, ap₂, sym, ◌∙◌, subst, length-append, arith}
use Rattle.farm_chain.specs.Reading.{calculated_quantities}
use Rattle.farm_fixed.specs.declared.records.Quantities.{Quantities}
use Rattle.farm_fixed.specs.declared.records.Reading.{Reading}
use Rattle.farm_fixed.specs.declared.records.Sample.{Sample}
use Rattle.farm_movement.specs.Movements.{OpenMove}
use Rattle.farm_movement.specs.declared.leg.Leg.{Leg}
use Rattle.farm_site.specs.Described.{product_numbered, tank_numbered}
use Rattle.farm_site.specs.declared.items.Product.{Product}
use Rattle.farm_site.specs.declared.items.Tank.{Tank}
use Rattle.farm_ticket.specs.declared.side.Way.{Way}
use Rattle.farm_ticket.specs.declared.side.Way.TheVariants.{Inward, Outward}
use Rattle.farm_history.specs.declared.command.Command.TheVariants.{Opening}
use Rattle.farm_history.specs.declared.entry.Entry.{Entry}
use Rattle.farm_history.specs.declared.plan.Named.{Named}
use Rattle.farm_history.specs.declared.plan.Plan.{Plan}
use Rattle.farm_history.specs.declared.plan.Plan.TheVariants.{Outside, Transfer}
use Rattle.farm_history.specs.declared.verdict.Verdict.TheVariants.{Accept}
use Rattle.farm_history.specs.Commands.{is_gauging_of, is_sample_of}
use Rattle.farm_history.specs.Figures.{calculated_at, figures_at, figures_of, named, named_at_opening, named_by, recorded_sample, sample_of}
use Rattle.farm_history.specs.Gauging.{gauging_after, reading_of, recorded_reading}
use Rattle.farm_history.specs.History.{History, entry_at, followed_by, last_place, tank_after, with_entry}
use Rattle.farm_history.specs.Movements.{opened_at}
use Rattle.farm_history.specs.Tickets.{leg_at, movement_of}
use Rattle.farm_history.specs.Verdicts.{IsLegal, verdict}
use Rattle.farm_indexes.specs.LastFigures.{IsRecorded}
use Rattle.farm_history.proofs.Accepted.{IsSound, kept}
use Rattle.farm_history.proofs.At.{between_of}
use Rattle.farm_history.proofs.FiguresStand.{there_of, within_of}
use Rattle.farm_history.proofs.OpenMovements.{opens_at}
use Rattle.farm_history.proofs.Stays.{before_stays, entry_stays}

-- so do all that a plan names
abbrev IsPlanRecorded : History → Plan → Type 0
IsPlanRecorded history (Outside way tank party gauged) = IsRecorded history gauged
IsPlanRecorded history (Transfer from to from_gauged to_gauged) = IsRecorded history from_gauged × IsRecorded history to_gauged

-- a reading stays the same
reading_stays : (history : History) (more : List Entry) (place : ℕ) → place ≤ last_place history →
    recorded_reading (followed_by history more) place ≡ recorded_reading history place
unfolding recorded_reading
reading_stays history more place within =
    let at : History → Option Entry → Option Reading =
    λ earlier found. option_and_then reading_of (option_and_then (λ entry. gauging_after earlier entry.cmd) found) in
    ap₂ at (before_stays history more place within) (entry_stays history more place within)

-- so does a sample
sample_stays : (history : History) (more : List Entry) (place : ℕ) → place ≤ last_place history →
    recorded_sample (followed_by history more) place ≡ recorded_sample history place
unfolding recorded_sample
sample_stays history more place within =
    let of_entry : Entry → Option Sample = λ entry. sample_of entry.cmd in
    ap (option_and_then of_entry) (entry_stays history more place within)

-- so do the figures on them
pub figures_stay : (history : History) (more : List Entry) (pair : Named) → IsRecorded history pair.gauged →
    figures_at (followed_by history more) pair ≡ figures_at history pair
unfolding figures_at calculated_at tank_after
figures_stay history more pair recorded =
    let of_both : Option Reading → Option Sample → Option Quantities = λ readings samples.
    option_and_then figures_of
    (option_and_then (λ (tank : Tank).
    option_and_then (λ (product : Product).
    option_and_then (λ reading.
    option_map (λ sample. calculated_quantities history.site.rounding tank.spec tank.table product.vcf reading sample) samples)
    readings)
    (product_numbered tank.product history.site.products))
    (tank_numbered pair.tank history.site.tanks)) in
    ap₂ of_both (reading_stays history more pair.gauged.reading recorded.reading) (sample_stays history more pair.gauged.sample recorded.sample)

-- so does a side at its opening
leg_stays : (history : History) (more : List Entry) (way : Way) (pair : Named) → IsRecorded history pair.gauged →
    leg_at (followed_by history more) way pair ≡ leg_at history way pair
unfolding leg_at
leg_stays history more way pair recorded =
    let made : Quantities → Leg = λ opening.
    record { tank = pair.tank; way = way; reading = pair.gauged.reading; sample = pair.gauged.sample; opening = opening } in
    ap (option_map made) (figures_stay history more pair recorded)

-- so does the movement of a plan
plan_stays : (history : History) (more : List Entry) (place : ℕ) (plan : Plan) → IsPlanRecorded history plan →
    movement_of (followed_by history more) place plan ≡ movement_of history place plan
unfolding movement_of
plan_stays history more place (Outside way tank party gauged) recorded =
    let made : Leg → OpenMove = λ leg. record { place = place; party = party; first = leg; second = None } in
    ap (option_map made) (leg_stays history more way (named tank gauged) recorded)
plan_stays history more place (Transfer from to from_gauged to_gauged) recorded =
    let made : Option Leg → Option Leg → Option OpenMove = λ first second.
    option_and_then (λ leg. option_map (λ other. record { place = place; party = 0; first = leg; second = Some other }) second) first in
    ap₂ made (leg_stays history more Outward (named from from_gauged) recorded.0) (leg_stays history more Inward (named to to_gauged) recorded.1)

-- what is named soundly is recorded
pub sound_recorded : (history : History) (pair : Named) → IsSound history pair → IsRecorded history pair.gauged
sound_recorded history pair sound =
    let read = there_of (is_gauging_of pair.tank) (entry_at history pair.gauged.reading) sound.reading in
    let sampled = there_of (is_sample_of pair.tank) (entry_at history pair.gauged.sample) sound.sample in
    record {
      reading = within_of history pair.gauged.reading read.entry read.there;
      sample = within_of history pair.gauged.sample sampled.entry sampled.there;
    }

-- what an accepted Opening names is recorded
accepted_recorded : (limit : ℕ) (history : History) (entry : Entry) (plan : Plan) → verdict limit history entry ≡ Accept →
    entry.cmd ≡ Opening plan → IsPlanRecorded history plan
unfolding named_by
accepted_recorded limit history entry plan accepted opened =
    let known = kept limit history entry accepted in
    let In : Named → List Named → Type 0 = λ pair pairs. Contains pairs pair in
    by plan (λ pair given. known.sound pair (subst (In pair) (sym (ap (named_by history) opened)) given))
  where
    by : (plan : Plan) → ((pair : Named) → Contains (named_at_opening plan) pair → IsSound history pair) → IsPlanRecorded history plan
    by (Outside way tank party gauged) sound = sound_recorded history (named tank gauged) (sound (named tank gauged) (0, omega arith, refl))
    by (Transfer from to from_gauged to_gauged) sound = (
      sound_recorded history (named from from_gauged) (sound (named from from_gauged) (0, omega arith, refl)),
      sound_recorded history (named to to_gauged) (sound (named to to_gauged) (1, omega arith, refl)),
    )

-- what is recorded in a history is recorded in a longer one
longer_recorded : (history longer : History) (plan : Plan) → last_place history ≤ last_place longer → IsPlanRecorded history plan →
    IsPlanRecorded longer plan
longer_recorded history longer (Outside way tank party gauged) longer_is recorded =
    record { reading = omega (arith, longer_is, recorded.reading); sample = omega (arith, longer_is, recorded.sample) }
longer_recorded history longer (Transfer from to from_gauged to_gauged) longer_is recorded = (
  record { reading = omega (arith, longer_is, recorded.0.reading); sample = omega (arith, longer_is, recorded.0.sample) },
  record { reading = omega (arith, longer_is, recorded.1.reading); sample = omega (arith, longer_is, recorded.1.sample) },
)

-- what an Opening of a legal history names is recorded
opened_recorded : (limit : ℕ) (history : History) (place : ℕ) (plan : Plan) → IsLegal limit history → opened_at history place ≡ Some plan →
    IsPlanRecorded history plan
opened_recorded limit history place plan legal opened =
    let opens = opens_at history place plan opened in
    let between = between_of history place opens.opening opens.there in
    let past : History = record { site = history.site; entries = between.front } in
    let next = legal between.front between.back opens.opening between.split in
    let whole = ap length between.split ∙ length-append between.front (opens.opening ∷ between.back) in
    longer_recorded past history plan (omega (arith, whole)) (accepted_recorded limit past opens.opening plan next.accepted opens.opened)

-- the movement of an accepted Opening is what it was before the entry came
pub new_movement : (limit : ℕ) (history : History) (entry : Entry) (place : ℕ) (plan : Plan) → verdict limit history entry ≡ Accept →
    entry.cmd ≡ Opening plan → movement_of (with_entry history entry) place plan ≡ movement_of history place plan
new_movement limit history entry place plan accepted opened =
    plan_stays history (entry ∷ []) place plan (accepted_recorded limit history entry plan accepted opened)

-- the movement of an Opening of a legal history stays the same
pub movement_stays : (limit : ℕ) (history : History) (entry : Entry) (place : ℕ) (plan : Plan) → IsLegal limit history →
    opened_at history place ≡ Some plan → movement_of (with_entry history entry) place plan ≡ movement_of history place plan
movement_stays limit history entry place plan legal opened =
    plan_stays history (entry ∷ []) place plan (opened_recorded limit history place plan legal opened)
