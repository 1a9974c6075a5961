-- The numbers of a drill.
use Rattle.std.specs.Prelude.{ℕ}

-- the most movements of a drill
abbrev pub most_drilled : ℕ
most_drilled = 60000

-- the caller that asks every command
abbrev pub drill_caller : ℕ
drill_caller = 0

-- the account that every command is for
abbrev pub drill_account : ℕ
drill_account = 1

-- the party of every movement
abbrev pub drill_party : ℕ
drill_party = 7

-- the number of the first tank
abbrev pub first_tank : ℕ
first_tank = 101

-- how many tanks a drill moves oil of; their numbers are consecutive
abbrev pub tanks_drilled : ℕ
tanks_drilled = 4

-- how many commands come before the first movement: a sample and a reading of each tank
abbrev pub commands_before : ℕ
commands_before = 8

-- how many commands a movement has
abbrev pub commands_each : ℕ
commands_each = 3

-- what the next number is multiplied by
abbrev pub multiplier : ℕ
multiplier = 6364136223846793005

-- what is added to it then
abbrev pub increment : ℕ
increment = 1442695040888963407

-- how many bits of a number are passed over for the tank
abbrev pub tank_shift : ℕ
tank_shift = 33

-- how many bits of a number are passed over for the level
abbrev pub level_shift : ℕ
level_shift = 40

-- the least level of a movement, in mm
abbrev pub least_level : ℕ
least_level = 1000

-- how many levels there are from that one on
abbrev pub levels : ℕ
levels = 9000
