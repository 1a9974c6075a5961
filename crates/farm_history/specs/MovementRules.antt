-- The rules on movements and tickets, each as what it says by itself, in the order of their numbers.
use Rattle.std.specs.Prelude.{ℕ, ◌==◌, ◌||◌, not, nat_le, nat_lt, Bool, true, false, if◌then◌else◌, map, Option, Some, None, option_and_then, option_map, Result, Ok, Err}
use Rattle.std.specs.List.{list_any}
use Rattle.farm_fixed.specs.declared.records.ChainRule.{ChainRule}
use Rattle.farm_fixed.specs.declared.records.ChainRule.TheVariants as refusals
use Rattle.farm_fixed.specs.declared.records.Quantities.{Quantities}
use Rattle.farm_site.specs.Parties.{party_number}
use Rattle.farm_site.specs.declared.items.Tank.{Tank}
use Rattle.farm_site.specs.Numbers.{is_among}
use Rattle.farm_history.specs.declared.command.Command.{Command}
use Rattle.farm_history.specs.declared.command.Command.TheVariants.{Opening, Closing, Cancel, Reverse, Settle}
use Rattle.farm_history.specs.declared.entry.Entry.{Entry}
use Rattle.farm_history.specs.declared.plan.Gauged.{Gauged}
use Rattle.farm_history.specs.declared.plan.Named.{Named}
use Rattle.farm_history.specs.declared.plan.Plan.{Plan}
use Rattle.farm_history.specs.declared.plan.Plan.TheVariants.{Outside, Transfer}
use Rattle.farm_history.specs.declared.rule.Rule.{Rule}
use Rattle.farm_history.specs.declared.rule.Rule.TheVariants.{UnknownParty, SameTank, OtherProduct, TankBusy, NoMovement, UnknownReading, UnknownSample, StaleReading, NoEntry, CriticalZone, Negative, WrongWay, UnknownTicket, AlreadyReversed, Settled}
use Rattle.farm_history.specs.Commands.{is_gauging_of, is_sample_of, plan_of, tanks_needed}
use Rattle.farm_history.specs.Figures.{calculated_at, named_by}
use Rattle.farm_history.specs.Given.{first_given}
use Rattle.farm_history.specs.History.{History, entry_at, tank_after}
use Rattle.farm_history.specs.Movements.{holding_movement, last_settlement, open_movement, opened_at, reversal_of, used_reading}
use Rattle.farm_ticket.specs.Tickets.{Ticket}
use Rattle.farm_history.specs.Tickets.{ToClose, any_goes_wrong, closing_ticket, tanks_of_ticket, to_close}

-- a rule that is broken where a test passes
abbrev pub broken_where : Bool → Rule → Option Rule
broken_where test rule = if test then Some rule else None

-- the party that a command gives
abbrev pub party_of : Plan → Option ℕ
party_of (Outside way tank party gauged) = Some party
party_of (Transfer from to from_gauged to_gauged) = None

-- rule 4: the party of a receipt or a delivery isn't of the site
unfoldable pub unknown_party : History → Command → Option Rule
unknown_party history command =
    option_and_then (λ party. broken_where (not (is_among party (map party_number history.site.parties))) UnknownParty)
    (option_and_then party_of (plan_of command))

-- a transfer gives one tank twice
abbrev pub gives_one_tank : Plan → Bool
gives_one_tank (Outside way tank party gauged) = false
gives_one_tank (Transfer from to from_gauged to_gauged) = from == to

-- rule 9: a transfer gives one tank twice
unfoldable pub same_tank : Command → Option Rule
same_tank command = option_and_then (λ plan. broken_where (gives_one_tank plan) SameTank) (plan_of command)

-- two tanks of the site hold different products
abbrev pub hold_different : Option Tank → Option Tank → Bool
hold_different (Some tank) (Some other) = not (tank.product == other.product)
hold_different tank other = false

-- the tanks of a transfer hold different products
abbrev pub gives_other_product : History → Plan → Bool
gives_other_product history (Outside way tank party gauged) = false
gives_other_product history (Transfer from to from_gauged to_gauged) = hold_different (tank_after history from) (tank_after history to)

-- rule 10: the tanks of a transfer hold different products
unfoldable pub other_product : History → Command → Option Rule
other_product history command = option_and_then (λ plan. broken_where (gives_other_product history plan) OtherProduct) (plan_of command)

-- rule 11: a tank of an Opening or a Settle is named by an open movement, the first tank first
unfoldable pub tank_busy : History → Command → Option Rule
tank_busy history command = option_map TankBusy (first_given (holding_movement history) (tanks_needed command))

-- the movement that a Closing or a Cancel names
abbrev pub movement_named : Command → Option ℕ
movement_named (Closing movement first second) = Some movement
movement_named (Cancel movement) = Some movement
movement_named command = None

-- the rule that is broken where no movement is open
abbrev pub unless_open : Option Plan → Option Rule
unless_open None = Some NoMovement
unless_open (Some plan) = None

-- rule 12: the movement of a Closing or a Cancel isn't the place of an open movement
unfoldable pub no_movement : History → Command → Option Rule
no_movement history command = option_and_then (λ movement. unless_open (open_movement history movement)) (movement_named command)

-- a Closing names two readings for a transfer, and one for another movement
abbrev pub names_each : Plan → Option Gauged → Bool
names_each (Outside way tank party gauged) None = true
names_each (Outside way tank party gauged) (Some second) = false
names_each (Transfer from to from_gauged to_gauged) None = false
names_each (Transfer from to from_gauged to_gauged) (Some second) = true

-- there is a plan, and a Closing of it names too few readings or too many
abbrev pub misses_one : Option Plan → Option Gauged → Bool
misses_one None second = false
misses_one (Some plan) second = not (names_each plan second)

-- a command is a Closing that names too few readings or too many for its movement
abbrev pub names_too_few_or_many : History → Command → Bool
names_too_few_or_many history (Closing movement first second) = misses_one (opened_at history movement) second
names_too_few_or_many history command = false

-- an entry is there, and a test of its command passes
abbrev pub is_there : (Command → Bool) → Option Entry → Bool
is_there test None = false
is_there test (Some entry) = test entry.cmd

-- the reading that is named for a tank is a gauge's reading or a dip of it
abbrev pub has_reading : History → Named → Bool
has_reading history pair = is_there (is_gauging_of pair.tank) (entry_at history pair.gauged.reading)

-- the sample that is named for a tank is one of it
abbrev pub has_sample : History → Named → Bool
has_sample history pair = is_there (is_sample_of pair.tank) (entry_at history pair.gauged.sample)

-- rule 13: a named reading isn't one of that tank, or a Closing names too few or too many
unfoldable pub unknown_reading : History → Command → Option Rule
unknown_reading history command =
    broken_where (names_too_few_or_many history command || list_any (λ pair. not (has_reading history pair)) (named_by history command)) UnknownReading

-- rule 14: a named sample isn't one of that tank
unfoldable pub unknown_sample : History → Command → Option Rule
unknown_sample history command = broken_where (list_any (λ pair. not (has_sample history pair)) (named_by history command)) UnknownSample

-- the reading that was used last for a tank, where a reading is earlier
abbrev pub used_later : ℕ → Option ℕ → Option ℕ
used_later reading None = None
used_later reading (Some used) = if nat_lt reading used then Some used else None

-- The place for which a reading that a command names is stale: of a Closing that of the Opening, which the reading isn't later than; of
-- an Opening or a Settle that of the reading which the last Closing or Settle of the tank used, and which it is earlier than.
abbrev pub stale_for : History → Command → Named → Option ℕ
stale_for history (Opening plan) pair = used_later pair.gauged.reading (used_reading history pair.tank)
stale_for history (Settle tank gauged) pair = used_later pair.gauged.reading (used_reading history pair.tank)
stale_for history (Closing movement first second) pair = if nat_le pair.gauged.reading movement then Some movement else None
stale_for history command pair = None

-- rule 15: a named reading is stale, the first tank's first
unfoldable pub stale_reading : History → Command → Option Rule
stale_reading history command = option_map StaleReading (first_given (stale_for history command) (named_by history command))

-- a calculation is refused, and a test of its refusal passes
abbrev pub is_refused_with : (ChainRule → Bool) → Option (Result Quantities ChainRule) → Bool
is_refused_with test None = false
is_refused_with test (Some (Ok figures)) = false
is_refused_with test (Some (Err refusal)) = test refusal

-- a calculation on what a command names for a tank is refused so
abbrev pub is_refused_on : (ChainRule → Bool) → History → Command → Bool
is_refused_on test history command = list_any (λ pair. is_refused_with test (calculated_at history pair)) (named_by history command)

-- Whether a calculation is refused since no factor is listed.
abbrev pub is_no_entry : ChainRule → Bool
is_no_entry refusals.NoEntry = true
is_no_entry refusal = false

-- Whether it is refused since the level is in the roof's critical zone.
abbrev pub is_critical_zone : ChainRule → Bool
is_critical_zone refusals.CriticalZone = true
is_critical_zone refusal = false

-- Whether it is refused since a volume is below zero.
abbrev pub is_negative : ChainRule → Bool
is_negative refusals.Negative = true
is_negative refusal = false

-- rule 16: the factor file has no entry for a reading and a sample that are named
unfoldable pub no_entry : History → Command → Option Rule
no_entry history command = broken_where (is_refused_on is_no_entry history command) NoEntry

-- rule 17: a level that is named is in the critical zone of the roof
unfoldable pub critical_zone : History → Command → Option Rule
critical_zone history command = broken_where (is_refused_on is_critical_zone history command) CriticalZone

-- rule 18: a gross observed volume is below zero
unfoldable pub negative : History → Command → Option Rule
negative history command = broken_where (is_refused_on is_negative history command) Negative

-- there is something to close, and a side of it goes the wrong way
abbrev pub closes_wrong : Option ToClose → Bool
closes_wrong None = false
closes_wrong (Some close) = any_goes_wrong close

-- a command is a Closing, and a side goes the wrong way
abbrev pub is_wrong_way : History → Command → Bool
is_wrong_way history (Closing movement first second) = closes_wrong (to_close history movement first second)
is_wrong_way history command = false

-- rule 19: a side of a movement that is closed goes the wrong way
unfoldable pub wrong_way : History → Command → Option Rule
wrong_way history command = broken_where (is_wrong_way history command) WrongWay

-- the ticket that a Reverse names
abbrev pub ticket_named : Command → Option ℕ
ticket_named (Reverse ticket) = Some ticket
ticket_named command = None

-- a command is a Closing
abbrev pub is_closing : Command → Bool
is_closing (Closing movement first second) = true
is_closing command = false

-- rule 20: the ticket of a Reverse isn't a Closing
unfoldable pub unknown_ticket : History → Command → Option Rule
unknown_ticket history command =
    option_and_then (λ ticket. broken_where (not (is_there is_closing (entry_at history ticket))) UnknownTicket) (ticket_named command)

-- rule 21, its first part: a Reverse names the ticket already, at this place
unfoldable pub already_reversed : History → Command → Option Rule
already_reversed history command = option_and_then (λ ticket. option_map AlreadyReversed (reversal_of history ticket)) (ticket_named command)

-- the place of the last Settle of a tank, where it is later than a ticket
abbrev pub settled_later : ℕ → Option ℕ → Option ℕ
settled_later ticket None = None
settled_later ticket (Some place) = if nat_lt ticket place then Some place else None

-- the place of the last Settle of a tank of a ticket, where it is later than the ticket, the first tank first
abbrev pub settled_after : History → ℕ → Ticket → Option ℕ
settled_after history place ticket = first_given (λ tank. settled_later place (last_settlement history tank)) (tanks_of_ticket ticket)

-- Rule 21, its second part, which is asked where no Reverse names the ticket: the last Settle of a tank of the ticket is later than it.
unfoldable pub settled : History → Command → Option Rule
settled history command =
    option_and_then (λ place. option_map Settled (option_and_then (settled_after history place) (closing_ticket history place))) (ticket_named command)
