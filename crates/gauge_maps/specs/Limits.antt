-- The numbers of the limits.
use Rattle.std.specs.Prelude.{ℕ}

-- the most bytes of a host
abbrev pub most_host_bytes : ℕ
most_host_bytes = 64

-- the greatest port
abbrev pub most_port : ℕ
most_port = 65535

-- the greatest unit identifier
abbrev pub most_unit : ℕ
most_unit = 255

-- the most gauges of a line
abbrev pub most_gauges : ℕ
most_gauges = 16

-- how many registers a device numbers for one function, the first being 0
abbrev pub register_count : ℕ
register_count = 65536

-- the most registers that a field has
abbrev pub most_words : ℕ
most_words = 2

-- the most that a field's number is multiplied or divided by
abbrev pub most_multiplier : ℕ
most_multiplier = 1000000

-- the highest bit of a register, the lowest being 0
abbrev pub most_bit : ℕ
most_bit = 15

-- the greatest deadband, in mm or 0.01 C
abbrev pub most_deadband : ℕ
most_deadband = 1000
