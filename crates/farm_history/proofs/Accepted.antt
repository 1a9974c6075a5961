-- What an accepted entry keeps, rule by rule.
use Rattle.std.proofs.Common.{◌≡◌, ℕ, ◌||◌, not, Bool, true, false, Contains, IsFalse, List, Option, Some, None, option_and_then, refl}
use Rattle.std.specs.List.{list_any}
use Rattle.std.proofs.lemmas.Bool.{not-false, or_parts}
use Rattle.std.proofs.lemmas.List.Elements.{All-contains}
use Rattle.farm_base.proofs.Steps.{or_else-none}
use Rattle.farm_base.specs.Steps.{or_else}
use Rattle.farm_history.specs.declared.command.Command.{Command}
use Rattle.farm_history.specs.declared.entry.Entry.{Entry}
use Rattle.farm_history.specs.declared.plan.Named.{Named}
use Rattle.farm_history.specs.declared.rule.Rule.{Rule}
use Rattle.farm_history.specs.declared.verdict.Verdict.TheVariants.{Accept}
use Rattle.farm_history.specs.Figures.{calculated_at, named_by}
use Rattle.farm_history.specs.Gauging.{gauging_after}
use Rattle.farm_history.specs.History.{History}
use Rattle.farm_history.specs.MovementRules.{already_reversed, broken_where, critical_zone, has_reading, has_sample, is_critical_zone, is_negative, is_no_entry, is_refused_on, is_refused_with, names_too_few_or_many, negative, no_entry, no_movement, other_product, same_tank, settled, stale_reading, tank_busy, unknown_party, unknown_reading, unknown_sample, unknown_ticket, wrong_way}
use Rattle.farm_history.specs.Places.{first_place}
use Rattle.farm_history.specs.Rules.{broken_by_command, broken_by_figures, broken_by_movement, broken_by_names, broken_by_ticket, broken_rule, history_full, is_repeat, key_reused, out_of_range, refused_gauging, unknown_tank}
use Rattle.farm_history.specs.Verdicts.{refused_or_accepted, repeated_or, verdict}
use Rattle.farm_history.specs.declared.rule.Rule.TheVariants.{CriticalZone, Negative, NoEntry, UnknownReading, UnknownSample}
use Rattle.farm_history.proofs.OpenMovements.{none_passes}

-- an accepted entry breaks no rule
pub unbroken : (limit : ℕ) (history : History) (entry : Entry) → verdict limit history entry ≡ Accept → broken_rule limit history entry ≡ None
unfolding verdict
unbroken limit history entry accepted =
    by (first_place (is_repeat entry) history.entries) (broken_rule limit history entry) accepted
  where
    by : (o : Option ℕ) (r : Option Rule) → repeated_or o (refused_or_accepted r) ≡ Accept → r ≡ None
    by None None e = refl
    by None (Some rule) e = cc
    by (Some place) r e = cc

-- a command breaks none of the rules from 3 on
pub record BreaksNone (history : History) (command : Command) : Type 0 where
  pub tank : unknown_tank history command ≡ None
  pub range : out_of_range command ≡ None
  pub gauging : option_and_then refused_gauging (gauging_after history command) ≡ None
  pub movement : broken_by_movement history command ≡ None

-- an accepted one does
pub breaks_none : (limit : ℕ) (history : History) (entry : Entry) → verdict limit history entry ≡ Accept → BreaksNone history entry.cmd
unfolding broken_rule broken_by_command
breaks_none limit history entry accepted =
    let all = unbroken limit history entry accepted in
    let gauging = option_and_then refused_gauging (gauging_after history entry.cmd) in
    let moving = broken_by_movement history entry.cmd in
    let r1 = or_else-none (key_reused history entry) (or_else (history_full limit history entry.cmd) (broken_by_command history entry.cmd)) all in
    let r2 = or_else-none (history_full limit history entry.cmd) (broken_by_command history entry.cmd) r1.1 in
    let r3 = or_else-none (unknown_tank history entry.cmd)
    (or_else (unknown_party history entry.cmd) (or_else (out_of_range entry.cmd) (or_else gauging moving))) r2.1 in
    let r4 = or_else-none (unknown_party history entry.cmd) (or_else (out_of_range entry.cmd) (or_else gauging moving)) r3.1 in
    let r5 = or_else-none (out_of_range entry.cmd) (or_else gauging moving) r4.1 in
    let r6 = or_else-none gauging moving r5.1 in
    record { tank = r3.0; range = r5.0; gauging = r6.0; movement = r6.1 }

-- a command breaks none of the rules on movements and tickets
record MovesWell (history : History) (command : Command) : Type 0 where
  movement : no_movement history command ≡ None
  names : broken_by_names history command ≡ None
  ticket : unknown_ticket history command ≡ None

-- such a command
moves_well : (history : History) (command : Command) → broken_by_movement history command ≡ None → MovesWell history command
unfolding broken_by_movement broken_by_ticket
moves_well history command all =
    let reversed = or_else (already_reversed history command) (settled history command) in
    let ticket = or_else (unknown_ticket history command) reversed in
    let names = or_else (broken_by_names history command) ticket in
    let movement = or_else (no_movement history command) names in
    let r9 = or_else-none (same_tank command) (or_else (other_product history command) (or_else (tank_busy history command) movement)) all in
    let r10 = or_else-none (other_product history command) (or_else (tank_busy history command) movement) r9.1 in
    let r11 = or_else-none (tank_busy history command) movement r10.1 in
    let r12 = or_else-none (no_movement history command) names r11.1 in
    let r13 = or_else-none (broken_by_names history command) ticket r12.1 in
    let r20 = or_else-none (unknown_ticket history command) reversed r13.1 in
    record { movement = r12.0; names = r13.0; ticket = r20.0 }

-- a command breaks none of the rules on what it names
record NamesWell (history : History) (command : Command) : Type 0 where
  reading : unknown_reading history command ≡ None
  sample : unknown_sample history command ≡ None
  entry : no_entry history command ≡ None
  zone : critical_zone history command ≡ None
  below : negative history command ≡ None
  way : wrong_way history command ≡ None

-- such a command
names_well : (history : History) (command : Command) → broken_by_names history command ≡ None → NamesWell history command
unfolding broken_by_names broken_by_figures
names_well history command all =
    let way = wrong_way history command in
    let below = or_else (negative history command) way in
    let zone = or_else (critical_zone history command) below in
    let figures = or_else (no_entry history command) zone in
    let stale = or_else (stale_reading history command) figures in
    let sample = or_else (unknown_sample history command) stale in
    let r13 = or_else-none (unknown_reading history command) sample all in
    let r14 = or_else-none (unknown_sample history command) stale r13.1 in
    let r15 = or_else-none (stale_reading history command) figures r14.1 in
    let r16 = or_else-none (no_entry history command) zone r15.1 in
    let r17 = or_else-none (critical_zone history command) below r16.1 in
    let r18 = or_else-none (negative history command) way r17.1 in
    record { reading = r13.0; sample = r14.0; entry = r16.0; zone = r17.0; below = r18.0; way = r18.1 }

-- where a rule isn't broken, its test fails
pub test_fails : (test : Bool) (rule : Rule) → broken_where test rule ≡ None → test ≡ false
test_fails true rule e = cc
test_fails false rule e = refl

-- what a command names for a tank has a reading and a sample, and its calculation isn't refused by rules 16 to 18
pub record IsSound (history : History) (pair : Named) : Type 0 where
  pub reading : has_reading history pair ≡ true
  pub sample : has_sample history pair ≡ true
  pub entry : is_refused_with is_no_entry (calculated_at history pair) ≡ false
  pub zone : is_refused_with is_critical_zone (calculated_at history pair) ≡ false
  pub below : is_refused_with is_negative (calculated_at history pair) ≡ false

-- what an accepted entry keeps
pub record IsKept (history : History) (command : Command) : Type 0 where
  pub tank : unknown_tank history command ≡ None
  pub range : out_of_range command ≡ None
  pub gauging : option_and_then refused_gauging (gauging_after history command) ≡ None
  pub movement : no_movement history command ≡ None
  pub ticket : unknown_ticket history command ≡ None
  pub each : names_too_few_or_many history command ≡ false
  pub way : wrong_way history command ≡ None
  pub sound : (pair : Named) → Contains (named_by history command) pair → IsSound history pair

-- a test that fails of all that a command names fails of each
fails_of_each : (holds : Named → Bool) (pairs : List Named) (pair : Named) → list_any holds pairs ≡ false → Contains pairs pair →
    holds pair ≡ false
fails_of_each holds pairs pair none named = All-contains (λ item. IsFalse (holds item)) pairs pair (none_passes holds pairs none) named

-- what is named by a command that breaks no rule on what it names
sound_of : (history : History) (command : Command) → NamesWell history command → (pair : Named) →
    Contains (named_by history command) pair → IsSound history pair
unfolding unknown_reading unknown_sample no_entry critical_zone negative
sound_of history command well pair there =
    let readings = list_any (λ p. not (has_reading history p)) (named_by history command) in
    let some = test_fails (names_too_few_or_many history command || readings) UnknownReading well.reading in
    let r13 = (or_parts (names_too_few_or_many history command) readings some).1 in
    let r14 = test_fails (list_any (λ p. not (has_sample history p)) (named_by history command)) UnknownSample well.sample in
    let r16 = test_fails (is_refused_on is_no_entry history command) NoEntry well.entry in
    let r17 = test_fails (is_refused_on is_critical_zone history command) CriticalZone well.zone in
    let r18 = test_fails (is_refused_on is_negative history command) Negative well.below in
    record {
      reading = not-false (has_reading history pair)
          (fails_of_each (λ p. not (has_reading history p)) (named_by history command) pair r13 there);
      sample = not-false (has_sample history pair)
          (fails_of_each (λ p. not (has_sample history p)) (named_by history command) pair r14 there);
      entry = fails_of_each (λ p. is_refused_with is_no_entry (calculated_at history p)) (named_by history command) pair r16 there;
      zone = fails_of_each (λ p. is_refused_with is_critical_zone (calculated_at history p)) (named_by history command) pair r17 there;
      below = fails_of_each (λ p. is_refused_with is_negative (calculated_at history p)) (named_by history command) pair r18 there;
    }

-- an accepted entry keeps these rules
pub kept : (limit : ℕ) (history : History) (entry : Entry) → verdict limit history entry ≡ Accept → IsKept history entry.cmd
unfolding unknown_reading
kept limit history entry accepted =
    let first = breaks_none limit history entry accepted in
    let moves = moves_well history entry.cmd first.movement in
    let names = names_well history entry.cmd moves.names in
    let readings = list_any (λ p. not (has_reading history p)) (named_by history entry.cmd) in
    let some = test_fails (names_too_few_or_many history entry.cmd || readings) UnknownReading names.reading in
    record {
      tank = first.tank;
      range = first.range;
      gauging = first.gauging;
      movement = moves.movement;
      ticket = moves.ticket;
      each = (or_parts (names_too_few_or_many history entry.cmd) readings some).0;
      way = names.way;
      sound = sound_of history entry.cmd names;
    }
