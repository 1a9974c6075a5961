-- What the commands of a drill are, in the words of the rule: a movement is opened on its tank's last reading and sample.
use Rattle.std.specs.Prelude.{◌≡◌, ℕ, zero, suc, ◌+◌, Bool, true, false, All, List, ◌∷◌, ◌++◌, length}
use Rattle.farm_history.specs.Commands.{is_gauging_of, is_sample_of}
use Rattle.farm_history.specs.declared.command.Command.{Command}
use Rattle.farm_drill.specs.declared.course.Mark.{Mark}
use Rattle.farm_drill.specs.Commands.{drill_commands, first_commands, level_at, moved, next_number, reading_of, sample_of, tank_index}
use Rattle.farm_drill.specs.Numbers.{first_tank}

-- A command stands at a place of a list, it is such a command, and no later one is.
pub record IsLastSuch (is_such : Command → Bool) (place : ℕ) (command : Command) (commands : List Command) : Type 0 where
  pub before : List Command
  pub later : List Command
  pub split : commands ≡ before ++ command ∷ later
  pub place_is : place ≡ length before + 1
  pub such : is_such command ≡ true
  pub last : All (λ other. is_such other ≡ false) later

-- A mark has the place of a tank's last reading, with its level, and the place of its last sample.
pub record IsMarked (tank : ℕ) (mark : Mark) (commands : List Command) : Type 0 where
  pub reading : IsLastSuch (is_gauging_of tank) mark.reading (reading_of tank mark.level) commands
  pub sample : IsLastSuch (is_sample_of tank) mark.sample (sample_of tank) commands

-- the number of the last of these movements, and the seed before the first one
abbrev pub number_of : ℕ → ℕ → ℕ
number_of seed zero = seed
number_of seed (suc count) = next_number (number_of seed count)

-- These commands are, after those so far, the movement of a number. Its tank and level are the number's, its Opening stands at the next place,
-- and the mark is that of the tank by the commands so far.
pub record IsMovement (number : ℕ) (so_far movement : List Command) : Type 0 where
  pub mark : Mark
  pub marked : IsMarked (first_tank + tank_index number) mark so_far
  pub movement_is : movement ≡ moved (length so_far + 1) (first_tank + tank_index number) mark (level_at number)

-- the commands of one movement more are those so far, and then the movement of the next number
pub record OneMovementMore (seed count : ℕ) : Type 0 where
  pub movement : List Command
  pub commands : drill_commands seed (suc count) ≡ drill_commands seed count ++ movement
  pub is_movement : IsMovement (number_of seed (suc count)) (drill_commands seed count) movement

-- a drill without a movement has the first commands alone
abbrev pub Begins : Type 0
Begins = (seed : ℕ) → drill_commands seed zero ≡ first_commands

-- each drill continues so
abbrev pub GoesOn : Type 0
GoesOn = (seed count : ℕ) → OneMovementMore seed count
