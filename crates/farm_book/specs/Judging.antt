-- What the rules answer.
use Rattle.std.specs.Prelude.{◌&&◌, Bool, false, Option, Some, None, Result, Ok, Err}
use Rattle.farm_fixed.specs.declared.records.Quantities.{Quantities}
use Rattle.farm_indexes.specs.declared.figured.Figured.{Figured}
use Rattle.farm_indexes.specs.Issuing.{is_of_sides}
use Rattle.farm_movement.specs.Movements.{OpenMove}
use Rattle.farm_history.specs.declared.verdict.Verdict.{Verdict}
use Rattle.farm_history.specs.declared.verdict.Verdict.TheVariants.{Accept}
use Rattle.farm_history.specs.Tickets.{any_goes_wrong}

-- the fault of a step, if it failed
abbrev pub fault_of : {A E : Type 0} → Result A E → Option E
fault_of (Ok value) = None
fault_of (Err fault) = Some fault

-- the verdict that the rules answer: figures are those of an accepted entry
abbrev pub verdict_of : Result Figured Verdict → Verdict
verdict_of (Ok figured) = Accept
verdict_of (Err verdict) = verdict

-- there is a movement with figures of each of its tanks, and a side of it goes the wrong way on these
abbrev pub closes_wrong_on : Option OpenMove → Option Quantities → Option Quantities → Bool
closes_wrong_on None first second = false
closes_wrong_on (Some movement) None second = false
closes_wrong_on (Some movement) (Some first) second =
    is_of_sides movement.second second && any_goes_wrong (movement, first, second)
