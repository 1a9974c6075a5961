-- Printing a quantity: the least number of digits before the point, all decimals of the type, never minus zero.
use Rattle.std.specs.Prelude.{ℕ, ◌-◌, ◌/◌, ◌%◌, ◌^◌, if◌then◌else◌, List, [], ◌∷◌, ◌++◌, length, replicate, ◌==◌, decimal, ℤ, pos, negsuc}
use Rattle.std.specs.Int.RustNames.{unsigned_abs}

-- the digits of n, filled with zeros in front to this many
abbrev pub padded : ℕ → ℕ → List ℕ
padded places n = replicate (places - length (decimal n)) 48 ++ decimal n

-- a magnitude of units with this many decimals
abbrev pub magnitude_text : ℕ → ℕ → List ℕ
magnitude_text places units =
    decimal (units / 10 ^ places) ++ (if places == 0 then [] else 46 ∷ padded places (units % 10 ^ places))

-- the minus of a value below zero
abbrev pub minus_of : ℤ → List ℕ
minus_of (pos n) = []
minus_of (negsuc n) = 45 ∷ []

-- the text of a quantity
unfoldable pub quantity_text : ℕ → ℤ → List ℕ
quantity_text places value = minus_of value ++ magnitude_text places (unsigned_abs value)
