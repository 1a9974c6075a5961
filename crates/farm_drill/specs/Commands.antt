-- The commands of a drill, which follow from its seed and the number of its movements alone. The place of the i-th command is i.
use Rattle.std.specs.Prelude.{ℕ, zero, suc, ◌+◌, ◌*◌, ◌/◌, ◌%◌, ◌^◌, if◌then◌else◌, List, [], ◌∷◌, ◌++◌, None, ℤ, pos, slice_index_or, slice_set}
use Rattle.std.specs.Int.RustNames.{int_lt}
use Rattle.farm_ticket.specs.declared.side.Way.{Way}
use Rattle.farm_ticket.specs.declared.side.Way.TheVariants.{Inward, Outward}
use Rattle.farm_history.specs.declared.command.Command.{Command}
use Rattle.farm_history.specs.declared.command.Command.TheVariants.{Gauge, Sample, Opening, Closing}
use Rattle.farm_history.specs.declared.plan.Gauged.{Gauged}
use Rattle.farm_history.specs.declared.plan.Plan.TheVariants.{Outside}
use Rattle.farm_drill.specs.declared.course.Course.{Course}
use Rattle.farm_drill.specs.declared.course.Mark.{Mark}
use Rattle.farm_drill.specs.Numbers.{commands_before, commands_each, drill_party, first_tank, increment, least_level, level_shift, levels, multiplier, tank_shift, tanks_drilled}

-- a sample of a tank, of 850.0 kg/m3 and without sediment and water
abbrev pub sample_of : ℕ → Command
sample_of tank = Sample tank (pos 8500) (pos 0)

-- a gauge's reading of a tank: a level in mm, no water, the liquid and the air at 15.00 C
abbrev pub reading_of : ℕ → ℤ → Command
reading_of tank level = Gauge tank level (pos 0) (pos 1500) (pos 1500)

-- a tank is sampled, and gauged at 5,000 mm
abbrev pub begins_at : ℕ → List Command
begins_at tank = sample_of tank ∷ reading_of tank (pos 5000) ∷ []

-- the commands before the first movement
unfoldable pub first_commands : List Command
first_commands = begins_at 101 ++ begins_at 102 ++ begins_at 103 ++ begins_at 104

-- Where each tank was gauged and sampled last, and at which level, before the first movement: the sample of the first tank is the first
-- command, its reading the second.
unfoldable pub first_marks : List Mark
first_marks =
    record { reading = 2; sample = 1; level = pos 5000 }
    ∷ record { reading = 4; sample = 3; level = pos 5000 }
    ∷ record { reading = 6; sample = 5; level = pos 5000 }
    ∷ record { reading = 8; sample = 7; level = pos 5000 }
    ∷ []

-- A drill before its first movement: its number is the seed, the first commands are asked.
unfoldable pub first_course : ℕ → Course
first_course seed = record { number = seed; asked = commands_before; marks = first_marks }

-- the number after a number, of 64 bits
abbrev pub next_number : ℕ → ℕ
next_number number = (multiplier * number + increment) % 2 ^ 64

-- which tank a movement is of by its number, 0 for the first
abbrev pub tank_index : ℕ → ℕ
tank_index number = number / 2 ^ tank_shift % tanks_drilled

-- the level that a movement ends at by its number, in mm
abbrev pub level_at : ℕ → ℤ
level_at number = pos (least_level + number / 2 ^ level_shift % levels)

-- where a tank was gauged and sampled last, and at which level
abbrev pub mark_of : Course → ℕ → Mark
mark_of course index = slice_index_or course.marks index (record { reading = 0; sample = 0; level = pos 0 })

-- a delivery to a lower level, else a receipt
abbrev pub way_to : ℤ → ℤ → Way
way_to from to = if int_lt to from then Outward else Inward

-- what is named for a tank: its last reading and its sample
abbrev pub named_of : Mark → Gauged
named_of mark = record { reading = mark.reading; sample = mark.sample }

-- a movement is opened on a tank's last reading
abbrev pub opening_of : ℕ → Mark → ℤ → Command
opening_of tank mark level = Opening (Outside (way_to mark.level level) tank drill_party (named_of mark))

-- the movement that was opened at a place is closed on the reading of the next place
abbrev pub closing_of : ℕ → Mark → Command
closing_of opening mark = Closing opening (record { reading = opening + 1; sample = mark.sample }) None

-- the commands of a movement by its tank, the tank's mark before and the new level; its Opening has this place
abbrev pub moved : ℕ → ℕ → Mark → ℤ → List Command
moved opening tank mark level = opening_of tank mark level ∷ reading_of tank level ∷ closing_of opening mark ∷ []

-- the commands of the movement of a number
abbrev pub commands_of : Course → ℕ → List Command
commands_of course number =
    moved (course.asked + 1) (first_tank + tank_index number) (mark_of course (tank_index number)) (level_at number)

-- a tank's mark after a movement whose Opening has this place: the reading is the command after it
abbrev pub mark_after : ℕ → Mark → ℤ → Mark
mark_after opening mark level = record { reading = opening + 1; sample = mark.sample; level = level }

-- a drill after the movement of a number
abbrev pub after_movement : Course → ℕ → Course
after_movement course number = record {
  number = number;
  asked = course.asked + commands_each;
  marks = slice_set course.marks (tank_index number)
      (mark_after (course.asked + 1) (mark_of course (tank_index number)) (level_at number));
}

-- the commands of a drill's next movement
unfoldable pub next_commands : Course → List Command
next_commands course = commands_of course (next_number course.number)

-- a drill after its next movement
unfoldable pub next_course : Course → Course
next_course course = after_movement course (next_number course.number)

-- the commands of the next movements, this many
unfoldable pub movements_from : ℕ → Course → List Command
movements_from zero course = []
movements_from (suc more) course = next_commands course ++ movements_from more (next_course course)

-- the commands of a drill of a seed and this many movements
unfoldable pub drill_commands : ℕ → ℕ → List Command
drill_commands seed count = first_commands ++ movements_from count (first_course seed)
