-- The numbers of the rules in their table, and what each rule keeps.
use Rattle.std.specs.Prelude.{ℕ}
use Rattle.farm_history.specs.declared.rule.Rule.{Rule}
use Rattle.farm_history.specs.declared.rule.Rule.TheVariants.{KeyReused, HistoryFull, UnknownTank, UnknownParty, OutOfRange, Tape, AboveTable, WaterAboveLevel, SameTank, OtherProduct, TankBusy, NoMovement, UnknownReading, UnknownSample, StaleReading, NoEntry, CriticalZone, Negative, WrongWay, UnknownTicket, AlreadyReversed, Settled}

-- the number of a rule
abbrev pub rule_number : Rule → ℕ
rule_number (KeyReused place) = 1
rule_number HistoryFull = 2
rule_number UnknownTank = 3
rule_number UnknownParty = 4
rule_number (OutOfRange field) = 5
rule_number (Tape fault) = 6
rule_number AboveTable = 7
rule_number WaterAboveLevel = 8
rule_number SameTank = 9
rule_number OtherProduct = 10
rule_number (TankBusy place) = 11
rule_number NoMovement = 12
rule_number UnknownReading = 13
rule_number UnknownSample = 14
rule_number (StaleReading place) = 15
rule_number NoEntry = 16
rule_number CriticalZone = 17
rule_number Negative = 18
rule_number WrongWay = 19
rule_number UnknownTicket = 20
rule_number (AlreadyReversed place) = 21
rule_number (Settled place) = 21

-- the place or the number that a rule keeps, 0 where it keeps none
abbrev pub rule_value : Rule → ℕ
rule_value (KeyReused place) = place
rule_value HistoryFull = 0
rule_value UnknownTank = 0
rule_value UnknownParty = 0
rule_value (OutOfRange field) = field
rule_value (Tape fault) = fault
rule_value AboveTable = 0
rule_value WaterAboveLevel = 0
rule_value SameTank = 0
rule_value OtherProduct = 0
rule_value (TankBusy place) = place
rule_value NoMovement = 0
rule_value UnknownReading = 0
rule_value UnknownSample = 0
rule_value (StaleReading place) = place
rule_value NoEntry = 0
rule_value CriticalZone = 0
rule_value Negative = 0
rule_value WrongWay = 0
rule_value UnknownTicket = 0
rule_value (AlreadyReversed place) = place
rule_value (Settled place) = place
