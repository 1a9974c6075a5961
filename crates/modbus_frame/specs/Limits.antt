-- The numbers of the limits.
use Rattle.std.specs.Prelude.{ℕ}

-- the function that reads holding registers
abbrev pub read_holding_registers : ℕ
read_holding_registers = 3

-- the function that reads input registers
abbrev pub read_input_registers : ℕ
read_input_registers = 4

-- the fewest registers of a request
abbrev pub least_quantity : ℕ
least_quantity = 1

-- the most registers of a request
abbrev pub most_quantity : ℕ
most_quantity = 125

-- how many bytes follow the length in a response with an exception code: the unit, the function and the code
abbrev pub exception_length : ℕ
exception_length = 3

-- what a response with an exception code adds to the function
abbrev pub exception_bit : ℕ
exception_bit = 128
