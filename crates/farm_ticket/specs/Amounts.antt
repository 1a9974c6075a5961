-- What moved on a side of a movement: volumes in whole litres, mass in whole kilograms.
use Rattle.std.specs.Prelude.{◌≡◌, if◌then◌else◌, Result, Ok, Err, ℤ, pos, ◌+ℤ◌, ◌-ℤ◌, ◌<ℤ◌}
use Rattle.std.specs.Int.RustNames.{int_lt}
use Rattle.farm_fixed.specs.declared.records.Quantities.{Quantities}
use Rattle.farm_ticket.specs.declared.amounts.WrongWay.{WrongWay}
use Rattle.farm_ticket.specs.declared.side.Moved.{Moved}
use Rattle.farm_ticket.specs.declared.side.Way.{Way}
use Rattle.farm_ticket.specs.declared.side.Way.TheVariants.{Inward, Outward}

-- the change of a figure: closing less opening on an inward side, opening less closing on an outward one
abbrev pub change : Way → ℤ → ℤ → ℤ
change Inward opening closing = closing -ℤ opening
change Outward opening closing = opening -ℤ closing

-- the changes of the four figures that a ticket reports
unfoldable pub differences : Way → Quantities → Quantities → Moved
differences way opening closing = record {
  gsv = change way opening.gsv closing.gsv;
  nsv = change way opening.nsv closing.nsv;
  swv = change way opening.swv closing.swv;
  mass = change way opening.mass closing.mass;
}

-- what moved on a side, unless the net standard volume of it is below zero
unfoldable pub moved : Way → Quantities → Quantities → Result Moved WrongWay
moved way opening closing =
    if int_lt (differences way opening closing).nsv (pos 0) then Err (record {}) else Ok (differences way opening closing)

-- On an inward side what stood at opening and what moved make up what stands at closing; on an outward side what stands at
-- closing and what moved make up what stood at opening.
abbrev pub AddsUp : Way → ℤ → ℤ → ℤ → Type 0
AddsUp Inward opening closing moved = opening +ℤ moved ≡ closing
AddsUp Outward opening closing moved = closing +ℤ moved ≡ opening

-- each of the four figures adds up
pub record IsMoved (way : Way) (opening closing : Quantities) (moved : Moved) : Type 0 where
  pub gsv : AddsUp way opening.gsv closing.gsv moved.gsv
  pub nsv : AddsUp way opening.nsv closing.nsv moved.nsv
  pub swv : AddsUp way opening.swv closing.swv moved.swv
  pub mass : AddsUp way opening.mass closing.mass moved.mass

-- the net standard volume of a tank has fallen on an inward side, or has risen on an outward one
abbrev pub IsWrongWay : Way → Quantities → Quantities → Type 0
IsWrongWay Inward opening closing = closing.nsv <ℤ opening.nsv
IsWrongWay Outward opening closing = opening.nsv <ℤ closing.nsv
