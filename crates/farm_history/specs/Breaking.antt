-- What breaks each rule, in the words of the rule.
use Rattle.std.specs.Prelude.{◌≡◌, ◌≢◌, ◌⊎◌, ℕ, ◌+◌, ◌<◌, ◌≤◌, All, Contains, IsFalse, IsTrue, map, Option, Some, None, Err, Ok, pos, ◌<ℤ◌}
use Rattle.farm_fixed.specs.declared.records.ChainRule.{ChainRule}
use Rattle.farm_fixed.specs.declared.records.ChainRule.TheVariants as refusals
use Rattle.farm_fixed.specs.declared.records.Quantities.{Quantities}
use Rattle.farm_fixed.specs.declared.records.Reading.{Reading}
use Rattle.farm_ticket.specs.Amounts.{IsWrongWay}
use Rattle.farm_ticket.specs.Tickets.{Ticket}
use Rattle.farm_ticket.specs.declared.side.Way.{Way}
use Rattle.farm_ticket.specs.declared.side.Way.TheVariants.{Inward, Outward}
use Rattle.farm_site.specs.Parties.{party_number}
use Rattle.farm_site.specs.declared.items.Tank.{Tank}
use Rattle.strap_table.specs.Capacity.{top_of}
use Rattle.farm_history.specs.declared.command.Command.{Command}
use Rattle.farm_history.specs.declared.command.Command.TheVariants.{Opening, Closing, Reverse, Settle, Stop}
use Rattle.farm_history.specs.declared.entry.Entry.{Entry}
use Rattle.farm_history.specs.Limits.{stops_beyond_limit}
use Rattle.farm_history.specs.declared.plan.Gauged.{Gauged}
use Rattle.farm_history.specs.declared.plan.Named.{Named}
use Rattle.farm_history.specs.declared.plan.Plan.{Plan}
use Rattle.farm_history.specs.declared.plan.Plan.TheVariants.{Outside, Transfer}
use Rattle.farm_history.specs.declared.rule.Rule.{Rule}
use Rattle.farm_history.specs.declared.rule.Rule.TheVariants.{KeyReused, HistoryFull, UnknownTank, UnknownParty, OutOfRange, Tape, AboveTable, WaterAboveLevel, SameTank, OtherProduct, TankBusy, NoMovement, UnknownReading, UnknownSample, StaleReading, NoEntry, CriticalZone, Negative, WrongWay, UnknownTicket, AlreadyReversed, Settled}
use Rattle.farm_history.specs.Commands.{is_gauging_of, is_sample_of, reverses, settles, tanks_given, tanks_needed}
use Rattle.farm_history.specs.Fields.{IsFirstBadField}
use Rattle.farm_history.specs.Figures.{calculated_at, named, named_by}
use Rattle.farm_history.specs.Gauging.{Gauging, gauging_after}
use Rattle.farm_history.specs.Given.{IsFirstSuch}
use Rattle.farm_history.specs.History.{History, entry_at, last_place, tank_after}
use Rattle.farm_history.specs.MovementRules.{movement_named}
use Rattle.farm_history.specs.Movements.{IsHeldBy, IsOpen, IsUsedLast, opened_at}
use Rattle.farm_history.specs.Places.{IsFirstPlace, IsLastPlace}
use Rattle.farm_history.specs.Rules.{has_same_key}
use Rattle.farm_history.specs.Tickets.{closing_ticket, tanks_of_ticket}

-- the history doesn't take the command: it has its limit and the command is no Stop, or it has its limit and as many more as may be
-- Stops
abbrev pub IsFull : ℕ → History → Entry → Type 0
IsFull limit history entry =
    (limit + stops_beyond_limit ≤ last_place history) ⊎ ((limit ≤ last_place history) × (entry.cmd ≢ Stop))

-- the command gives a tank that the site doesn't have
pub record NamesNoTank (history : History) (entry : Entry) : Type 0 where
  pub number : ℕ
  pub given : Contains (tanks_given entry.cmd) number
  pub missing : tank_after history number ≡ None

-- the command is a gauging of a tank of the site whose tapes give no reading
pub record HasFaultyTapes (history : History) (entry : Entry) (fault : ℕ) : Type 0 where
  pub gauging : Gauging
  pub of_command : gauging_after history entry.cmd ≡ Some gauging
  pub faulty : gauging.reading ≡ Err fault

-- the command is a gauging of a tank of the site that gives a reading of which something holds
pub record HasReading (history : History) (entry : Entry) (holds : Gauging → Reading → Type 0) : Type 0 where
  pub gauging : Gauging
  pub of_command : gauging_after history entry.cmd ≡ Some gauging
  pub reading : Reading
  pub given : gauging.reading ≡ Ok reading
  pub there : holds gauging reading

-- the command opens a receipt or a delivery with a party that the site doesn't have
pub record NamesNoParty (history : History) (command : Command) : Type 0 where
  pub way : Way
  pub tank : ℕ
  pub party : ℕ
  pub gauged : Gauged
  pub given : command ≡ Opening (Outside way tank party gauged)
  pub missing : ¬ (Contains (map party_number history.site.parties) party)

-- the command opens a transfer of which something holds, by its two tanks
pub record OpensTransfer (command : Command) (holds : ℕ → ℕ → Type 0) : Type 0 where
  pub from : ℕ
  pub to : ℕ
  pub from_gauged : Gauged
  pub to_gauged : Gauged
  pub given : command ≡ Opening (Transfer from to from_gauged to_gauged)
  pub there : holds from to

-- two tanks of the site hold different products
pub record HoldDifferent (history : History) (from to : ℕ) : Type 0 where
  pub tank : Tank
  pub other : Tank
  pub first : tank_after history from ≡ Some tank
  pub second : tank_after history to ≡ Some other
  pub different : tank.product ≢ other.product

-- the command opens a movement or settles a tank, and of its tanks that are held the first is held by the movement at this place
abbrev pub NamesBusyTank : History → Command → ℕ → Type 0
NamesBusyTank history command place = IsFirstSuch (IsHeldBy history) (tanks_needed command) place

-- the command closes or cancels a movement, and none is open there
pub record NamesNoMovement (history : History) (command : Command) : Type 0 where
  pub movement : ℕ
  pub named : movement_named command ≡ Some movement
  pub missing : (plan : Plan) → ¬ (IsOpen history movement plan)

-- an entry stands at a place whose command passes a test
pub record StandsAt (history : History) (place : ℕ) (test : Command → Type 0) : Type 0 where
  pub entry : Entry
  pub there : entry_at history place ≡ Some entry
  pub passes : test entry.cmd

-- a Closing of a movement with two tanks names one reading, or one of a movement with one tank names two
abbrev pub NamesOther : Plan → Option Gauged → Type 0
NamesOther (Outside way tank party gauged) second = second ≢ None
NamesOther (Transfer from to from_gauged to_gauged) second = second ≡ None

-- the command is a Closing that names too few readings or too many
pub record NamesTooFewOrMany (history : History) (command : Command) : Type 0 where
  pub movement : ℕ
  pub first : Gauged
  pub second : Option Gauged
  pub plan : Plan
  pub given : command ≡ Closing movement first second
  pub opened : opened_at history movement ≡ Some plan
  pub other : NamesOther plan second

-- the command names something for a tank of which this holds
pub record NamesSuch (history : History) (command : Command) (holds : Named → Type 0) : Type 0 where
  pub pair : Named
  pub named : Contains (named_by history command) pair
  pub there : holds pair

-- no gauge's reading and no dip of the tank stands at the place of the reading
abbrev pub HasNoReading : History → Named → Type 0
HasNoReading history pair = ¬ (StandsAt history pair.gauged.reading (λ command. IsTrue (is_gauging_of pair.tank command)))

-- no sample of the tank stands at the place of the sample
abbrev pub HasNoSample : History → Named → Type 0
HasNoSample history pair = ¬ (StandsAt history pair.gauged.sample (λ command. IsTrue (is_sample_of pair.tank command)))

-- The reading that a command names for a tank is stale, and this is the place that says so: the reading of an Opening or a Settle is
-- earlier than the one that the last Closing or Settle of the tank used, or a Closing's isn't later than the movement's Opening.
abbrev pub IsStale : History → Command → Named → ℕ → Type 0
IsStale history (Opening plan) pair place = IsUsedLast history pair.tank place × (pair.gauged.reading < place)
IsStale history (Settle tank gauged) pair place = IsUsedLast history pair.tank place × (pair.gauged.reading < place)
IsStale history (Closing movement first second) pair place = (place ≡ movement) × (pair.gauged.reading ≤ movement)
IsStale history command pair place = ⊥

-- the calculation on what the command names for a tank is refused so
abbrev pub IsRefusedOn : ChainRule → History → Command → Type 0
IsRefusedOn refusal history command = NamesSuch history command (λ pair. calculated_at history pair ≡ Some (Err refusal))

-- the figures of a tank at an Opening and at a Closing are known, and its net standard volume went the wrong way
pub record WentWrong (history : History) (way : Way) (at_opening at_closing : Named) : Type 0 where
  pub opening : Quantities
  pub closing : Quantities
  pub opened : calculated_at history at_opening ≡ Some (Ok opening)
  pub closed : calculated_at history at_closing ≡ Some (Ok closing)
  pub wrong : IsWrongWay way opening closing

-- all figures of a tank are known
abbrev pub IsComputed : History → Named → Type 0
IsComputed history pair = (figures : Quantities) × (calculated_at history pair ≡ Some (Ok figures))

-- A Closing of a movement with this plan goes the wrong way: of a receipt the first tank's volume fell, of a delivery or a transfer it
-- rose, or of a transfer the second tank's fell. All figures are known.
abbrev pub ClosesWrong : History → Gauged → Option Gauged → Plan → Type 0
ClosesWrong history first second (Outside way tank party gauged) = WentWrong history way (named tank gauged) (named tank first)
ClosesWrong history first None (Transfer from to from_gauged to_gauged) = ⊥
ClosesWrong history first (Some second) (Transfer from to from_gauged to_gauged) =
    IsComputed history (named from from_gauged) × IsComputed history (named from first)
    × IsComputed history (named to to_gauged) × IsComputed history (named to second)
    × (WentWrong history Outward (named from from_gauged) (named from first) ⊎ WentWrong history Inward (named to to_gauged) (named to second))

-- the command is a Closing that goes the wrong way
pub record IsWrongClosing (history : History) (command : Command) : Type 0 where
  pub movement : ℕ
  pub first : Gauged
  pub second : Option Gauged
  pub plan : Plan
  pub given : command ≡ Closing movement first second
  pub opened : opened_at history movement ≡ Some plan
  pub wrong : ClosesWrong history first second plan

-- the command reverses a ticket of which something holds
pub record ReversesSuch (command : Command) (holds : ℕ → Type 0) : Type 0 where
  pub ticket : ℕ
  pub given : command ≡ Reverse ticket
  pub there : holds ticket

-- a command is a Closing
abbrev pub IsClosing : Command → Type 0
IsClosing (Closing movement first second) = Unit {0}
IsClosing command = ⊥

-- no Closing stands at a place
abbrev pub HasNoClosing : History → ℕ → Type 0
HasNoClosing history place = ¬ (StandsAt history place IsClosing)

-- this is the place of the last Settle of a tank, and it is later than a ticket
abbrev pub IsSettledAfter : History → ℕ → ℕ → ℕ → Type 0
IsSettledAfter history ticket tank place = IsLastPlace (λ other. settles tank other.cmd) history.entries place × (ticket < place)

-- No Reverse names the ticket of the Closing at a place. Of its tanks whose last Settle is later than the ticket the first was settled at
-- this place.
pub record IsSettled (history : History) (place : ℕ) (ticket : ℕ) : Type 0 where
  pub not_reversed : All (λ other. IsFalse (reverses ticket other.cmd)) history.entries
  pub closed : Ticket
  pub there : closing_ticket history ticket ≡ Some closed
  pub settled : IsFirstSuch (IsSettledAfter history ticket) (tanks_of_ticket closed) place

-- an entry breaks a rule after a history that may have this many entries
abbrev pub Breaks : ℕ → History → Entry → Rule → Type 0
Breaks limit history entry (KeyReused place) = IsFirstPlace (has_same_key entry) history.entries place
Breaks limit history entry HistoryFull = IsFull limit history entry
Breaks limit history entry UnknownTank = NamesNoTank history entry
Breaks limit history entry UnknownParty = NamesNoParty history entry.cmd
Breaks limit history entry (OutOfRange field) = IsFirstBadField entry.cmd field
Breaks limit history entry (Tape fault) = HasFaultyTapes history entry fault
Breaks limit history entry AboveTable = HasReading history entry (λ gauging reading. pos (top_of gauging.tank.table) <ℤ reading.level)
Breaks limit history entry WaterAboveLevel = HasReading history entry (λ gauging reading. reading.level <ℤ reading.water)
Breaks limit history entry SameTank = OpensTransfer entry.cmd (λ from to. from ≡ to)
Breaks limit history entry OtherProduct = OpensTransfer entry.cmd (HoldDifferent history)
Breaks limit history entry (TankBusy place) = NamesBusyTank history entry.cmd place
Breaks limit history entry NoMovement = NamesNoMovement history entry.cmd
Breaks limit history entry UnknownReading = NamesTooFewOrMany history entry.cmd ⊎ NamesSuch history entry.cmd (HasNoReading history)
Breaks limit history entry UnknownSample = NamesSuch history entry.cmd (HasNoSample history)
Breaks limit history entry (StaleReading place) = IsFirstSuch (IsStale history entry.cmd) (named_by history entry.cmd) place
Breaks limit history entry NoEntry = IsRefusedOn refusals.NoEntry history entry.cmd
Breaks limit history entry CriticalZone = IsRefusedOn refusals.CriticalZone history entry.cmd
Breaks limit history entry Negative = IsRefusedOn refusals.Negative history entry.cmd
Breaks limit history entry WrongWay = IsWrongClosing history entry.cmd
Breaks limit history entry UnknownTicket = ReversesSuch entry.cmd (HasNoClosing history)
Breaks limit history entry (AlreadyReversed place) = ReversesSuch entry.cmd (λ ticket. IsFirstPlace (λ other. reverses ticket other.cmd) history.entries place)
Breaks limit history entry (Settled place) = ReversesSuch entry.cmd (IsSettled history place)
