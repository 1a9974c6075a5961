-- The rules that a further command may break after a history, each as what it says by itself, and the first of them in the order of
-- the table. Those on movements and tickets stand in MovementRules.
use Rattle.std.specs.Prelude.{ℕ, ◌+◌, ◌-◌, ◌==◌, ◌&&◌, ◌||◌, not, nat_le, Bool, true, false, if◌then◌else◌, List, Option, Some, None, option_and_then, option_map, Result, Ok, Err, ℤ, pos}
use Rattle.std.specs.Int.RustNames.{int_lt}
use Rattle.std.specs.List.{list_any}
use Rattle.farm_base.specs.Steps.{or_else}
use Rattle.farm_fixed.specs.declared.records.Reading.{Reading}
use Rattle.farm_site.specs.declared.items.Tank.{Tank}
use Rattle.strap_table.specs.Capacity.{top_of}
use Rattle.farm_history.specs.declared.command.Command.{Command}
use Rattle.farm_history.specs.declared.entry.Entry.{Entry}
use Rattle.farm_history.specs.Limits.{stops_beyond_limit}
use Rattle.farm_history.specs.declared.rule.Rule.{Rule}
use Rattle.farm_history.specs.declared.rule.Rule.TheVariants.{KeyReused, HistoryFull, UnknownTank, OutOfRange, Tape, AboveTable, WaterAboveLevel}
use Rattle.farm_history.specs.Commands.{is_stop, is_same_command, tanks_given}
use Rattle.farm_history.specs.Fields.{first_bad_field}
use Rattle.farm_history.specs.Gauging.{Gauging, gauging_after}
use Rattle.farm_history.specs.History.{History, last_place, tank_after}
use Rattle.farm_history.specs.MovementRules.{already_reversed, broken_where, critical_zone, negative, no_entry, no_movement, other_product, same_tank, settled, stale_reading, tank_busy, unknown_party, unknown_reading, unknown_sample, unknown_ticket, wrong_way}
use Rattle.farm_history.specs.Places.{first_place}

-- another entry has the account and the key of an entry
abbrev pub has_same_key : Entry → Entry → Bool
has_same_key entry other = other.account == entry.account && other.key == entry.key

-- another entry has the account, the key and the command of an entry
abbrev pub is_repeat : Entry → Entry → Bool
is_repeat entry other = has_same_key entry other && is_same_command other.cmd entry.cmd

-- the account and the key stand in the history, at this place first
unfoldable pub key_reused : History → Entry → Option Rule
key_reused history entry = option_map KeyReused (first_place (has_same_key entry) history.entries)

-- a history of this many entries doesn't take the command: it has its limit and the command is no Stop, or it has its limit and as
-- many more as may be Stops
abbrev pub is_full : ℕ → ℕ → Bool → Bool
is_full limit entries stop = nat_le (limit + stops_beyond_limit) entries || (nat_le limit entries && not stop)

-- the history is full
unfoldable pub history_full : ℕ → History → Command → Option Rule
history_full limit history command = if is_full limit (last_place history) (is_stop command) then Some HistoryFull else None

-- the site has no tank of a number
abbrev pub is_missing : Option Tank → Bool
is_missing None = true
is_missing (Some tank) = false

-- a tank that the command gives isn't of the site
unfoldable pub unknown_tank : History → Command → Option Rule
unknown_tank history command = broken_where (list_any (λ number. is_missing (tank_after history number)) (tanks_given command)) UnknownTank

-- a numbered field is out of range
unfoldable pub out_of_range : Command → Option Rule
out_of_range command = option_map OutOfRange (first_bad_field command)

-- a reading is above the tank's table, or its water above its level
abbrev pub refused_reading : List ℤ → Reading → Option Rule
refused_reading table reading =
    if int_lt (pos (top_of table)) reading.level then Some AboveTable
    else (if int_lt reading.level reading.water then Some WaterAboveLevel else None)

-- a gauging's tapes give no reading, or its reading is refused
abbrev pub refused_in : List ℤ → Result Reading ℕ → Option Rule
refused_in table (Ok reading) = refused_reading table reading
refused_in table (Err fault) = Some (Tape fault)

-- a gauging is refused
unfoldable pub refused_gauging : Gauging → Option Rule
refused_gauging gauging = refused_in gauging.tank.table gauging.reading

-- the first rule that the calculations break which a command asks for
unfoldable pub broken_by_figures : History → Command → Option Rule
broken_by_figures history command =
    or_else (no_entry history command)
    (or_else (critical_zone history command) (or_else (negative history command) (wrong_way history command)))

-- the first rule that is broken by what a command names
unfoldable pub broken_by_names : History → Command → Option Rule
broken_by_names history command =
    or_else (unknown_reading history command)
    (or_else (unknown_sample history command) (or_else (stale_reading history command) (broken_by_figures history command)))

-- the first rule that is broken by the ticket which a Reverse names
unfoldable pub broken_by_ticket : History → Command → Option Rule
broken_by_ticket history command =
    or_else (unknown_ticket history command) (or_else (already_reversed history command) (settled history command))

-- the first rule on movements and tickets that a command breaks
unfoldable pub broken_by_movement : History → Command → Option Rule
broken_by_movement history command =
    or_else (same_tank command)
    (or_else (other_product history command)
    (or_else (tank_busy history command)
    (or_else (no_movement history command)
    (or_else (broken_by_names history command) (broken_by_ticket history command)))))

-- the first rule that a command breaks whose key is new and for which there is room
unfoldable pub broken_by_command : History → Command → Option Rule
broken_by_command history command =
    or_else (unknown_tank history command)
    (or_else (unknown_party history command)
    (or_else (out_of_range command)
    (or_else (option_and_then refused_gauging (gauging_after history command)) (broken_by_movement history command))))

-- the first rule that an entry breaks, in the order of the table
unfoldable pub broken_rule : ℕ → History → Entry → Option Rule
broken_rule limit history entry =
    or_else (key_reused history entry) (or_else (history_full limit history entry.cmd) (broken_by_command history entry.cmd))
