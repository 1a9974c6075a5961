-- The numbers of what is wrong with tapes, by which rule 6 answers.
use Rattle.std.specs.Prelude.{ℕ}

-- `Rule::Tape`: the tapes are neither two nor three
abbrev pub fault_of_tape_count : ℕ
fault_of_tape_count = 1

-- `Rule::Tape`: two tapes that differ, or three of which two differ by more than 3 mm
abbrev pub fault_of_tape_spread : ℕ
fault_of_tape_spread = 2

-- `Rule::Tape`: an outage above the tank's reference height
abbrev pub fault_of_below_datum : ℕ
fault_of_below_datum = 3

-- `Rule::Tape`: the water tapes are neither none, two nor three
abbrev pub fault_of_water_tape_count : ℕ
fault_of_water_tape_count = 4

-- `Rule::Tape`: two water tapes that differ, or three of which two differ by more than 3 mm
abbrev pub fault_of_water_tape_spread : ℕ
fault_of_water_tape_spread = 5
