-- The bytes of an entry. Numbers of several bytes are high byte first, signed ones in two's complement.
use Rattle.std.specs.Prelude.{◌≡◌, ℕ, ◌+◌, ◌<◌, ◌≤◌, ◌^◌, All, FitsSigned, Bool, true, false, List, [], ◌∷◌, ◌++◌, length, take, Option, Some, None, ℤ}
use Rattle.std.specs.Int.{cast_unsigned, w16, w32, w64, to_be_bytes}
use Rattle.std.specs.List.{flat_map}
use Rattle.farm_history.specs.declared.few.Few.{Few}
use Rattle.farm_history.specs.declared.command.Command.{Command}
use Rattle.farm_history.specs.declared.command.Command.TheVariants.{Gauge, Dip, Sample, Opening, Closing, Cancel, Reverse, Settle, Stop}
use Rattle.farm_history.specs.declared.entry.Entry.{Entry}
use Rattle.farm_history.specs.Limits.{most_in_list}
use Rattle.farm_history.specs.declared.plan.Gauged.{Gauged}
use Rattle.farm_history.specs.declared.plan.Plan.{Plan}
use Rattle.farm_history.specs.declared.plan.Plan.TheVariants.{Outside, Transfer}
use Rattle.farm_ticket.specs.declared.side.Way.{Way}
use Rattle.farm_ticket.specs.declared.side.Way.TheVariants.{Inward, Outward}
use Rattle.farm_history.specs.Commands.{numbers_of}
use Rattle.farm_history.specs.History.{IsWellFormed}

-- a signed number of 64 bits, eight bytes
abbrev pub signed_bytes : ℤ → List ℕ
signed_bytes number = to_be_bytes w64 (cast_unsigned w64 number)

-- a short list: its count, one byte, and its numbers
abbrev pub list_bytes : Few → List ℕ
list_bytes few = few.count ∷ flat_map signed_bytes (numbers_of few)

-- the kind of a dip: 0 for innages, 1 for outages
abbrev pub kind_byte : Bool → ℕ
kind_byte false = 0
kind_byte true = 1

-- the way of a movement of one tank: 1 for a receipt, 2 for a delivery
abbrev pub way_byte : Way → ℕ
way_byte Inward = 1
way_byte Outward = 2

-- a reading and a sample that are named, four bytes each
abbrev pub gauged_bytes : Gauged → List ℕ
gauged_bytes gauged = to_be_bytes w32 gauged.reading ++ to_be_bytes w32 gauged.sample

-- a plan: the way and its fields, where 3 is the way of a transfer
abbrev pub plan_bytes : Plan → List ℕ
plan_bytes (Outside way tank party gauged) = way_byte way ∷ to_be_bytes w16 tank ++ to_be_bytes w16 party ++ gauged_bytes gauged
plan_bytes (Transfer from to from_gauged to_gauged) =
    3 ∷ to_be_bytes w16 from ++ to_be_bytes w16 to ++ gauged_bytes from_gauged ++ gauged_bytes to_gauged

-- what is named for a second tank: 0 for nothing, or 1 and what is named
abbrev pub second_bytes : Option Gauged → List ℕ
second_bytes None = 0 ∷ []
second_bytes (Some gauged) = 1 ∷ gauged_bytes gauged

-- a command: its tag, one byte, and its fields
unfoldable pub command_bytes : Command → List ℕ
command_bytes (Gauge tank level water temperature ambient) =
    1 ∷ to_be_bytes w16 tank ++ signed_bytes level ++ signed_bytes water ++ signed_bytes temperature ++ signed_bytes ambient
command_bytes (Dip tank outage tapes water temperatures ambient) =
    2 ∷ to_be_bytes w16 tank ++ kind_byte outage ∷ list_bytes tapes ++ list_bytes water ++ list_bytes temperatures ++ signed_bytes ambient
command_bytes (Sample tank density sw) = 3 ∷ to_be_bytes w16 tank ++ signed_bytes density ++ signed_bytes sw
command_bytes (Opening plan) = 4 ∷ plan_bytes plan
command_bytes (Closing movement first second) = 5 ∷ to_be_bytes w32 movement ++ gauged_bytes first ++ second_bytes second
command_bytes (Cancel movement) = 6 ∷ to_be_bytes w32 movement
command_bytes (Settle tank gauged) = 7 ∷ to_be_bytes w16 tank ++ gauged_bytes gauged
command_bytes (Reverse ticket) = 8 ∷ to_be_bytes w32 ticket
command_bytes Stop = 9 ∷ []

-- the bytes of an entry: caller, account, key, moment and command
unfoldable pub entry_encoding : Entry → List ℕ
entry_encoding entry =
    to_be_bytes w32 entry.caller ++ to_be_bytes w32 entry.account ++ to_be_bytes w64 entry.key ++ signed_bytes entry.at ++ command_bytes entry.cmd

-- a list is one of its type: as many numbers of 64 bits as the longest has
abbrev pub IsTypedList : Few → Type 0
IsTypedList few = (length few.values ≡ most_in_list) × All (FitsSigned w64) few.values

-- each number of what is named is one of its type
abbrev pub IsTypedGauged : Gauged → Type 0
IsTypedGauged gauged = (gauged.reading < 2 ^ 32) × (gauged.sample < 2 ^ 32)

-- and of a plan
abbrev pub IsTypedPlan : Plan → Type 0
IsTypedPlan (Outside way tank party gauged) = (tank < 2 ^ 16) × (party < 2 ^ 16) × IsTypedGauged gauged
IsTypedPlan (Transfer from to from_gauged to_gauged) = (from < 2 ^ 16) × (to < 2 ^ 16) × IsTypedGauged from_gauged × IsTypedGauged to_gauged

-- and of what is named for a second tank
abbrev pub IsTypedSecond : Option Gauged → Type 0
IsTypedSecond None = Unit {0}
IsTypedSecond (Some gauged) = IsTypedGauged gauged

-- each number of a command is one of its type
abbrev pub IsTypedCommand : Command → Type 0
IsTypedCommand (Gauge tank level water temperature ambient) =
    (tank < 2 ^ 16) × All (FitsSigned w64) (level ∷ water ∷ temperature ∷ ambient ∷ [])
IsTypedCommand (Dip tank outage tapes water temperatures ambient) =
    (tank < 2 ^ 16) × IsTypedList tapes × IsTypedList water × IsTypedList temperatures × FitsSigned w64 ambient
IsTypedCommand (Sample tank density sw) = (tank < 2 ^ 16) × All (FitsSigned w64) (density ∷ sw ∷ [])
IsTypedCommand (Opening plan) = IsTypedPlan plan
IsTypedCommand (Closing movement first second) = (movement < 2 ^ 32) × IsTypedGauged first × IsTypedSecond second
IsTypedCommand (Cancel movement) = movement < 2 ^ 32
IsTypedCommand (Settle tank gauged) = (tank < 2 ^ 16) × IsTypedGauged gauged
IsTypedCommand (Reverse ticket) = ticket < 2 ^ 32
IsTypedCommand Stop = Unit {0}

-- each number of an entry is one of its type, as those of every entry in the program are
pub record IsTyped (entry : Entry) : Type 0 where
  pub caller : entry.caller < 2 ^ 32
  pub account : entry.account < 2 ^ 32
  pub key : entry.key < 2 ^ 64
  pub moment : FitsSigned w64 entry.at
  pub command : IsTypedCommand entry.cmd

-- bytes are those of an entry
pub record IsEncoding (bytes : List ℕ) : Type 0 where
  pub entry : Entry
  pub typed : IsTyped entry
  pub well_formed : IsWellFormed entry
  pub encoded : bytes ≡ entry_encoding entry

-- bytes can be continued to those of an entry
pub record BeginsEncoding (bytes : List ℕ) : Type 0 where
  pub rest : List ℕ
  pub whole : IsEncoding (bytes ++ rest)

-- an offset is that of the first byte after which no continuation is an entry's bytes, or the length where bytes are missing
pub record IsBadEntryAt (bytes : List ℕ) (offset : ℕ) : Type 0 where
  pub within : offset ≤ length bytes
  pub good_before : BeginsEncoding (take offset bytes)
  pub bad_there : offset < length bytes → BeginsEncoding (take (offset + 1) bytes) → ⊥
  pub too_short : offset ≡ length bytes → IsEncoding bytes → ⊥
