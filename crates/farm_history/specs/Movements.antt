-- Movements in a history: which are open, which of them holds a tank, which reading was used last for a tank, where a tank was settled
-- last, and where a ticket was reversed. Each is read off the list of entries.
use Rattle.std.specs.Prelude.{◌≡◌, ℕ, ◌+◌, ◌<◌, ◌==◌, ◌&&◌, not, Bool, All, IsFalse, IsTrue, if◌then◌else◌, List, [], ◌∷◌, ◌++◌, drop, length, Option, Some, None, option_and_then, option_map}
use Rattle.std.specs.List.{list_any}
use Rattle.farm_history.specs.declared.command.Command.{Command}
use Rattle.farm_history.specs.declared.command.Command.TheVariants.{Opening, Closing, Settle}
use Rattle.farm_history.specs.declared.entry.Entry.{Entry}
use Rattle.farm_history.specs.declared.plan.Gauged.{Gauged}
use Rattle.farm_history.specs.declared.plan.Plan.{Plan}
use Rattle.farm_history.specs.declared.plan.Plan.TheVariants.{Outside, Transfer}
use Rattle.farm_history.specs.Commands.{ends, names_tank, opens_on, plan_of, reverses, settles}
use Rattle.farm_history.specs.Given.{IsLastGiven, last_given}
use Rattle.farm_history.specs.History.{History, entry_at}
use Rattle.farm_history.specs.Places.{first_place, last_such}

-- the plan of the Opening at a place; none where no Opening stands there
unfoldable pub opened_at : History → ℕ → Option Plan
opened_at history place = option_and_then (λ entry. plan_of entry.cmd) (entry_at history place)

-- an entry closes or cancels a movement
abbrev pub is_end_of : ℕ → Entry → Bool
is_end_of movement entry = ends movement entry.cmd

-- the plan of the movement that is open at a place: an Opening stands there, and no later Closing or Cancel names it
unfoldable pub open_movement : History → ℕ → Option Plan
open_movement history place = if list_any (is_end_of place) (drop place history.entries) then None else opened_at history place

-- a movement with this plan is open at a place, in the words of the rule
pub record IsOpen (history : History) (place : ℕ) (plan : Plan) : Type 0 where
  pub front : List Entry
  pub opening : Entry
  pub back : List Entry
  pub split : history.entries ≡ front ++ opening ∷ back
  pub counted : place ≡ length front + 1
  pub opened : opening.cmd ≡ Opening plan
  pub unended : All (λ later. IsFalse (is_end_of place later)) back

-- from a place on, that of the first movement that is open and names a tank
abbrev pub holding_from : ℕ → ℕ → List Entry → Option ℕ
holding_from place tank [] = None
holding_from place tank (entry ∷ later) =
    if opens_on tank entry.cmd && not (list_any (is_end_of place) later) then Some place else holding_from (place + 1) tank later

-- the place of the first movement that is open and names a tank; none where no open movement does
unfoldable pub holding_movement : History → ℕ → Option ℕ
holding_movement history tank = holding_from 1 tank history.entries

-- a movement is open at a place and names a tank
pub record Holds (history : History) (tank place : ℕ) : Type 0 where
  pub plan : Plan
  pub is_open : IsOpen history place plan
  pub named : IsTrue (names_tank tank plan)

-- a tank is held by the movement at a place, and by none at an earlier one
pub record IsHeldBy (history : History) (tank place : ℕ) : Type 0 where
  pub holds : Holds history tank place
  pub first : (earlier : ℕ) → earlier < place → ¬ (Holds history tank earlier)

-- the reading that a Closing names for a tank of its movement's plan
abbrev pub reading_for : ℕ → Gauged → Option Gauged → Plan → Option ℕ
reading_for tank first second (Outside way number party gauged) = if number == tank then Some first.reading else None
reading_for tank first second (Transfer from to from_gauged to_gauged) =
    if from == tank then Some first.reading else (if to == tank then option_map (λ gauged. gauged.reading) second else None)

-- the reading that a command used for a tank: that which a Closing or a Settle names for it
abbrev pub used_by : History → ℕ → Command → Option ℕ
used_by history tank (Closing movement first second) = option_and_then (reading_for tank first second) (opened_at history movement)
used_by history tank (Settle number gauged) = if number == tank then Some gauged.reading else None
used_by history tank command = None

-- the place of the reading that the last Closing or Settle of a tank used for it; none where there was no such entry
unfoldable pub used_reading : History → ℕ → Option ℕ
used_reading history tank = last_given (λ entry. used_by history tank entry.cmd) history.entries

-- a reading is the one that the last Closing or Settle of a tank used for it
abbrev pub IsUsedLast : History → ℕ → ℕ → Type 0
IsUsedLast history tank reading = IsLastGiven (λ entry. used_by history tank entry.cmd) history.entries reading

-- the place of the last Settle of a tank; none where there was no Settle of it
unfoldable pub last_settlement : History → ℕ → Option ℕ
last_settlement history tank = last_such (λ entry. settles tank entry.cmd) history.entries

-- the place of the Reverse that names a ticket
unfoldable pub reversal_of : History → ℕ → Option ℕ
reversal_of history ticket = first_place (λ entry. reverses ticket entry.cmd) history.entries
