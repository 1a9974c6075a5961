-- Each rule's definition answers exactly where the entry breaks the rule in its own words.
use Rattle.std.proofs.Common.{◌≡◌, ◌≢◌, inl, inr, ℕ, ◌+◌, ◌<◌, ◌≤◌, Bool, true, false, ◌&&◌, not, nat_le, if◌then◌else◌, Option, Some, None, option_map, refl, ap, arith}
use Rattle.std.specs.List.{list_any}
use Rattle.std.proofs.lemmas.Bool.{and_from, and_parts, both_ways, le-leb, leb-true, not-true, not_from_false, or_cases, or_left, or_right}
use Rattle.farm_site.specs.declared.items.Tank.{Tank}
use Rattle.farm_history.specs.declared.command.Command.{Command}
use Rattle.farm_history.specs.declared.command.Command.TheVariants.{Stop}
use Rattle.farm_history.specs.declared.entry.Entry.{Entry}
use Rattle.farm_history.specs.declared.limits.TheConstants.{STOPS_BEYOND_LIMIT}
use Rattle.farm_history.specs.declared.rule.Rule.{Rule}
use Rattle.farm_history.specs.declared.rule.Rule.TheVariants.{KeyReused, HistoryFull, UnknownTank, OutOfRange}
use Rattle.farm_history.specs.Commands.{is_stop, tanks_given}
use Rattle.farm_history.specs.Fields.{fields_of, first_bad_field, is_out_of_range}
use Rattle.farm_history.specs.History.{History, last_place, tank_after}
use Rattle.farm_history.specs.Places.{first_place}
use Rattle.farm_history.specs.RuleTable.{rule_number}
use Rattle.farm_history.specs.Rules.{history_full, is_full, is_missing, key_reused, out_of_range, has_same_key, unknown_tank}
use Rattle.farm_history.specs.Breaking.{Breaks, IsFull, NamesNoTank}
use Rattle.farm_history.proofs.Given.{any_passed, passed}
use Rattle.farm_history.proofs.OneRule.{test_says, value_says}
use Rattle.farm_history.proofs.Places.{found_place, place_of}
use Rattle.farm_history.proofs.Says.{Says}

-- rule 1 is kept where the key is new
key_kept : (limit : ℕ) (history : History) (entry : Entry) (rule : Rule) → first_place (has_same_key entry) history.entries ≡ None →
    0 < rule_number rule → rule_number rule ≤ 1 → ¬ (Breaks limit history entry rule)
key_kept limit history entry (KeyReused place) new above within broken =
    let found = place_of (has_same_key entry) history.entries place broken in cc
key_kept limit history entry rule new above within broken = absurd (omega arith)

-- rule 1: the account and the key stand in the history, at this place first
pub key_says : (limit : ℕ) (history : History) (entry : Entry) → Says (Breaks limit history entry) 0 1 (key_reused history entry)
unfolding key_reused
key_says limit history entry = by (first_place (has_same_key entry) history.entries) refl
  where
    by : (o : Option ℕ) → first_place (has_same_key entry) history.entries ≡ o → Says (Breaks limit history entry) 0 1 (option_map KeyReused o)
    by None e = record { kept = λ rule above within. key_kept limit history entry rule e above within }
    by (Some place) e = record {
      broken = found_place (has_same_key entry) history.entries place e;
      above = omega arith;
      within = omega arith;
      before = λ earlier above within. absurd (omega arith);
    }

-- a command that is no Stop doesn't test as one
no_stop : (command : Command) → command ≢ Stop → is_stop command ≡ false
no_stop Stop other = absurd (other refl)
no_stop command other = refl

-- a history that tests as full is full
full_from : (limit : ℕ) (history : History) (entry : Entry) →
    is_full limit (last_place history) (is_stop entry.cmd) ≡ true → IsFull limit history entry
full_from limit history entry full =
    let beyond = nat_le (limit + STOPS_BEYOND_LIMIT) (last_place history) in
    let reached = nat_le limit (last_place history) in
    elim (or_cases beyond (reached && not (is_stop entry.cmd)) full) [
      | inl e ↦ inl (leb-true (limit + STOPS_BEYOND_LIMIT) (last_place history) e)
      | inr e ↦
          let parts = and_parts reached (not (is_stop entry.cmd)) e in
          inr (
            leb-true limit (last_place history) parts.0,
            λ stop. both_ways (is_stop entry.cmd) (not-true (is_stop entry.cmd) parts.1) (ap is_stop stop),
          )
    ]

-- and a full one tests so
full_to : (limit : ℕ) (history : History) (entry : Entry) →
    IsFull limit history entry → is_full limit (last_place history) (is_stop entry.cmd) ≡ true
full_to limit history entry full =
    let beyond = nat_le (limit + STOPS_BEYOND_LIMIT) (last_place history) in
    let reached = nat_le limit (last_place history) in
    elim full [
      | inl l ↦ or_left beyond (reached && not (is_stop entry.cmd)) (le-leb (limit + STOPS_BEYOND_LIMIT) (last_place history) l)
      | inr w ↦ or_right beyond (reached && not (is_stop entry.cmd))
          (and_from reached (not (is_stop entry.cmd)) (le-leb limit (last_place history) w.0)
          (not_from_false (is_stop entry.cmd) (no_stop entry.cmd w.1)))
    ]

-- rule 2 is kept where the history doesn't test as full
room_kept : (limit : ℕ) (history : History) (entry : Entry) (rule : Rule) →
    is_full limit (last_place history) (is_stop entry.cmd) ≡ false →
    1 < rule_number rule → rule_number rule ≤ 2 → ¬ (Breaks limit history entry rule)
room_kept limit history entry HistoryFull room above within broken =
    both_ways (is_full limit (last_place history) (is_stop entry.cmd)) room (full_to limit history entry broken)
room_kept limit history entry rule room above within broken = absurd (omega arith)

-- rule 2: the history is full
pub full_says : (limit : ℕ) (history : History) (entry : Entry) →
    Says (Breaks limit history entry) 1 2 (history_full limit history entry.cmd)
unfolding history_full
full_says limit history entry = by (is_full limit (last_place history) (is_stop entry.cmd)) refl
  where
    by : (b : Bool) → is_full limit (last_place history) (is_stop entry.cmd) ≡ b →
        Says (Breaks limit history entry) 1 2 (if b then Some HistoryFull else None)
    by false e = record { kept = λ rule above within. room_kept limit history entry rule e above within }
    by true e = record {
      broken = full_from limit history entry e;
      above = omega arith;
      within = omega arith;
      before = λ earlier above within. absurd (omega arith);
    }

-- a tank isn't of the site
abbrev is_lacking : History → ℕ → Bool
is_lacking history number = is_missing (tank_after history number)

-- a tank that tests as missing is
missing_from : (tank : Option Tank) → is_missing tank ≡ true → tank ≡ None
missing_from None test = refl
missing_from (Some tank) test = cc

-- rule 3: the command gives a tank that isn't of the site
pub tank_says : (limit : ℕ) (history : History) (entry : Entry) →
    Says (Breaks limit history entry) 2 3 (unknown_tank history entry.cmd)
unfolding unknown_tank
tank_says limit history entry =
    test_says (Breaks limit history entry) 2 (omega arith) UnknownTank (list_any (is_lacking history) (tanks_given entry.cmd)) (λ value. refl) refl there back
  where
    there : list_any (is_lacking history) (tanks_given entry.cmd) ≡ true → NamesNoTank history entry
    there any =
        let w = passed (is_lacking history) (tanks_given entry.cmd) any in
        record { number = w.item; given = w.given; missing = missing_from (tank_after history w.item) w.passes }

    back : NamesNoTank history entry → list_any (is_lacking history) (tanks_given entry.cmd) ≡ true
    back broken = any_passed (is_lacking history) (tanks_given entry.cmd) broken.number broken.given (ap is_missing broken.missing)

-- rule 5: a numbered field is out of range, and this one first
pub range_says : (limit : ℕ) (history : History) (entry : Entry) →
    Says (Breaks limit history entry) 4 5 (out_of_range entry.cmd)
unfolding out_of_range first_bad_field
range_says limit history entry =
    value_says (Breaks limit history entry) 4 (omega arith) OutOfRange (first_place is_out_of_range (fields_of entry.cmd)) (λ field. refl) (λ field. refl)
    (found_place is_out_of_range (fields_of entry.cmd)) (place_of is_out_of_range (fields_of entry.cmd))
