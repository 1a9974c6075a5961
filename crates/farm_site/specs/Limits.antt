-- The numbers of the limits.
use Rattle.std.specs.Prelude.{ℕ, ℤ, pos}

-- a format's number is from 1 up to this
abbrev pub most_format : ℕ
most_format = 2

-- an item's number is from 1 up to this
abbrev pub most_number : ℕ
most_number = 65535

-- a name has at most this many bytes
abbrev pub most_name_bytes : ℕ
most_name_bytes = 32

-- a site has at most this many products
abbrev pub most_products : ℕ
most_products = 16

-- a site has at most this many parties
abbrev pub most_parties : ℕ
most_parties = 256

-- a site has at most this many tanks
abbrev pub most_tanks : ℕ
most_tanks = 64

-- a site has at most this many gauge lines
abbrev pub most_lines : ℕ
most_lines = 16

-- an opening stock is at most this many litres or kilograms either way
abbrev pub most_stock : ℤ
most_stock = pos 1000000000
