-- The verdict is the one in the words of the rule.
use Rattle.std.proofs.Common.{◌≡◌, ℕ, ◌<◌, ◌≤◌, Option, Some, None, option_and_then, refl, arith}
use Rattle.farm_base.specs.Steps.{or_else}
use Rattle.farm_history.specs.declared.entry.Entry.{Entry}
use Rattle.farm_history.specs.declared.rule.Rule.{Rule}
use Rattle.farm_history.specs.declared.rule.Rule.TheVariants.{KeyReused}
use Rattle.farm_history.specs.Breaking.{Breaks}
use Rattle.farm_history.specs.Gauging.{gauging_after}
use Rattle.farm_history.specs.History.{History}
use Rattle.farm_history.specs.MovementRules.{critical_zone, negative, no_entry, no_movement, other_product, same_tank, stale_reading, tank_busy, unknown_party, unknown_reading, unknown_sample, wrong_way}
use Rattle.farm_history.specs.Places.{first_place}
use Rattle.farm_history.specs.RuleTable.{rule_number}
use Rattle.farm_history.specs.Rules.{broken_by_command, broken_by_figures, broken_by_movement, broken_by_names, broken_by_ticket, broken_rule, history_full, is_repeat, key_reused, out_of_range, refused_gauging, unknown_tank}
use Rattle.farm_history.specs.Verdicts.{IsNew, IsVerdict, refused_or_accepted, repeated_or, verdict}
use Rattle.farm_history.proofs.GaugingRules.{gauging_says}
use Rattle.farm_history.proofs.MovementRules.{busy_says, open_says, party_says, product_says, same_says}
use Rattle.farm_history.proofs.NamedRules.{entry_says, negative_says, reading_says, sample_says, zone_says}
use Rattle.farm_history.proofs.Places.{found_place, none_any}
use Rattle.farm_history.proofs.Rules.{full_says, key_says, range_says, tank_says}
use Rattle.farm_history.proofs.Says.{Says, says_on}
use Rattle.farm_history.proofs.StaleReadings.{stale_says}
use Rattle.farm_history.proofs.TicketRules.{tickets_say}
use Rattle.farm_history.proofs.WrongWays.{way_says}

-- rules 16 to 19, on the calculations
figures_say : (limit : ℕ) (history : History) (entry : Entry) → Says (Breaks limit history entry) 15 19 (broken_by_figures history entry.cmd)
unfolding broken_by_figures
figures_say limit history entry =
    let breaks : Rule → Type 0 = Breaks limit history entry in
    let wrong = wrong_way history entry.cmd in
    let below = or_else (negative history entry.cmd) wrong in
    says_on breaks 15 16 19 (no_entry history entry.cmd) (or_else (critical_zone history entry.cmd) below) (omega arith) (omega arith)
    (entry_says limit history entry)
    (says_on breaks 16 17 19 (critical_zone history entry.cmd) below (omega arith) (omega arith)
    (zone_says limit history entry)
    (says_on breaks 17 18 19 (negative history entry.cmd) wrong (omega arith) (omega arith)
    (negative_says limit history entry) (way_says limit history entry)))

-- rules 13 to 19, on what a command names
names_say : (limit : ℕ) (history : History) (entry : Entry) → Says (Breaks limit history entry) 12 19 (broken_by_names history entry.cmd)
unfolding broken_by_names
names_say limit history entry =
    let breaks : Rule → Type 0 = Breaks limit history entry in
    let figures = broken_by_figures history entry.cmd in
    let stale = or_else (stale_reading history entry.cmd) figures in
    says_on breaks 12 13 19 (unknown_reading history entry.cmd) (or_else (unknown_sample history entry.cmd) stale) (omega arith) (omega arith)
    (reading_says limit history entry)
    (says_on breaks 13 14 19 (unknown_sample history entry.cmd) stale (omega arith) (omega arith)
    (sample_says limit history entry)
    (says_on breaks 14 15 19 (stale_reading history entry.cmd) figures (omega arith) (omega arith)
    (stale_says limit history entry) (figures_say limit history entry)))

-- rules 9 to 21, on movements and tickets
movement_says : (limit : ℕ) (history : History) (entry : Entry) → Says (Breaks limit history entry) 8 21 (broken_by_movement history entry.cmd)
unfolding broken_by_movement
movement_says limit history entry =
    let breaks : Rule → Type 0 = Breaks limit history entry in
    let ticket = broken_by_ticket history entry.cmd in
    let names = or_else (broken_by_names history entry.cmd) ticket in
    let open_one = or_else (no_movement history entry.cmd) names in
    let busy = or_else (tank_busy history entry.cmd) open_one in
    says_on breaks 8 9 21 (same_tank entry.cmd) (or_else (other_product history entry.cmd) busy) (omega arith) (omega arith)
    (same_says limit history entry)
    (says_on breaks 9 10 21 (other_product history entry.cmd) busy (omega arith) (omega arith)
    (product_says limit history entry)
    (says_on breaks 10 11 21 (tank_busy history entry.cmd) open_one (omega arith) (omega arith)
    (busy_says limit history entry)
    (says_on breaks 11 12 21 (no_movement history entry.cmd) names (omega arith) (omega arith)
    (open_says limit history entry)
    (says_on breaks 12 19 21 (broken_by_names history entry.cmd) ticket (omega arith) (omega arith)
    (names_say limit history entry) (tickets_say limit history entry)))))

-- the rules of the command by itself
command_says : (limit : ℕ) (history : History) (entry : Entry) →
    Says (Breaks limit history entry) 2 21 (broken_by_command history entry.cmd)
unfolding broken_by_command
command_says limit history entry =
    let breaks : Rule → Type 0 = Breaks limit history entry in
    let movement = broken_by_movement history entry.cmd in
    let gauging = or_else (option_and_then refused_gauging (gauging_after history entry.cmd)) movement in
    let range = or_else (out_of_range entry.cmd) gauging in
    says_on breaks 2 3 21 (unknown_tank history entry.cmd) (or_else (unknown_party history entry.cmd) range) (omega arith) (omega arith)
    (tank_says limit history entry)
    (says_on breaks 3 4 21 (unknown_party history entry.cmd) range (omega arith) (omega arith)
    (party_says limit history entry)
    (says_on breaks 4 5 21 (out_of_range entry.cmd) gauging (omega arith) (omega arith)
    (range_says limit history entry)
    (says_on breaks 5 8 21 (option_and_then refused_gauging (gauging_after history entry.cmd)) movement (omega arith) (omega arith)
    (gauging_says limit history entry) (movement_says limit history entry))))

-- all rules
rules_say : (limit : ℕ) (history : History) (entry : Entry) → Says (Breaks limit history entry) 0 21 (broken_rule limit history entry)
unfolding broken_rule
rules_say limit history entry =
    let breaks : Rule → Type 0 = Breaks limit history entry in
    let full = history_full limit history entry.cmd in
    let command = broken_by_command history entry.cmd in
    says_on breaks 0 1 21 (key_reused history entry) (or_else full command) (omega arith) (omega arith)
    (key_says limit history entry)
    (says_on breaks 1 2 21 full command (omega arith) (omega arith) (full_says limit history entry) (command_says limit history entry))

-- the numbers of the table are 1 to 21
numbered : (rule : Rule) → (0 < rule_number rule) × (rule_number rule ≤ 21)
numbered (KeyReused place) = (omega arith, omega arith)
numbered rule = (omega arith, omega arith)

-- a command that is new is refused by the first rule that it breaks, or accepted where it breaks none
new_means : (limit : ℕ) (history : History) (entry : Entry) (broken : Option Rule) → IsNew history entry →
    Says (Breaks limit history entry) 0 21 broken → IsVerdict limit history entry (refused_or_accepted broken)
new_means limit history entry None new says = (new, λ rule. says.kept rule (numbered rule).0 (numbered rule).1)
new_means limit history entry (Some rule) new says =
    (new, record { broken = says.broken; before = λ earlier. says.before earlier (numbered earlier).0 })

-- the verdict is the one in the words of the rule
pub verdicts_mean : (limit : ℕ) (history : History) (entry : Entry) → IsVerdict limit history entry (verdict limit history entry)
unfolding verdict
verdicts_mean limit history entry = by (first_place (is_repeat entry) history.entries) refl
  where
    by : (o : Option ℕ) → first_place (is_repeat entry) history.entries ≡ o →
        IsVerdict limit history entry (repeated_or o (refused_or_accepted (broken_rule limit history entry)))
    by None e =
        new_means limit history entry (broken_rule limit history entry) (none_any (is_repeat entry) history.entries e) (rules_say limit history entry)
    by (Some place) e = found_place (is_repeat entry) history.entries place e
