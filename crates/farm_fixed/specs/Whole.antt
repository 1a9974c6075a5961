-- Texts of whole numbers of 64 bits: an optional minus and 1 to 18 digits.
use Rattle.std.specs.Prelude.{ℕ, ◌==◌, ◌&&◌, Bool, nat_le, if◌then◌else◌, List, length, Option, Some, None, slice_index, ℤ}
use Rattle.std.specs.Str.{all_ascii_digits}
use Rattle.std.specs.Str.Parse.{digits_value}
use Rattle.farm_fixed.specs.Parsing.{unsigned_text}
use Rattle.farm_fixed.specs.Text.{signed}

-- from 1 to 18 digits
abbrev pub are_digits : List ℕ → Bool
are_digits text = nat_le 1 (length text) && nat_le (length text) 18 && all_ascii_digits text

-- the number that a text writes
unfoldable pub whole_number : List ℕ → Option ℤ
whole_number text =
    if are_digits (unsigned_text text) then Some (signed (slice_index text 0 == 45) (digits_value 10 (unsigned_text text))) else None
