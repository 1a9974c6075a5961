-- What the registers of a gauge say: levels in mm, temperatures in 0.01 C.
use Rattle.std.specs.Prelude.{ℕ, ◌^◌, ◌+◌, ◌*◌, ◌≤◌, ◌==◌, Bool, true, if◌then◌else◌, List, Option, Some, None, ℤ, pos, ◌*ℤ◌, slice_index_or}
use Rattle.std.specs.Int.{bit_at, cast_signed, w16, w32}
use Rattle.farm_rounding.specs.declared.mode.Mode.TheVariants.{HalfAway}
use Rattle.farm_rounding.specs.Multiple.{nearest_multiple}
use Rattle.gauge_maps.specs.Limits.{most_multiplier}
use Rattle.gauge_maps.specs.declared.map.Field.{Field}
use Rattle.gauge_maps.specs.declared.map.GaugeMap.{GaugeMap}
use Rattle.gauge_maps.specs.declared.map.Valid.{Valid}
use Rattle.modbus_poll.specs.declared.raw.Raw.{Raw}

-- the register at an offset, 0 past the last
abbrev pub register_at : List ℕ → ℕ → ℕ
register_at words offset = slice_index_or words offset 0

-- two words as one number
abbrev pub two_words : ℕ → ℕ → ℕ
two_words high low = 2 ^ 16 * high + low

-- a field's words as one number: its only word, or two, the high one first unless they are swapped
abbrev pub raw_of : Field → List ℕ → ℕ
raw_of field words =
    if field.words == 2 then
    if field.swapped then two_words (register_at words (field.offset + 1)) (register_at words field.offset)
    else two_words (register_at words field.offset) (register_at words (field.offset + 1))
    else register_at words field.offset

-- these words as a two's complement number over 16 or 32 bits
abbrev pub signed_number : Field → ℕ → ℤ
signed_number field raw = if field.words == 2 then cast_signed w32 raw else cast_signed w16 raw

-- the number that a field's words are, in two's complement where it is signed
unfoldable pub number_of : Field → List ℕ → ℤ
number_of field words = if field.signed then signed_number field (raw_of field words) else pos (raw_of field words)

-- a field's factors are those that a site may have
pub record IsScaled (field : Field) : Type 0 where
  pub mul : field.mul ≤ most_multiplier
  pub div_least : 1 ≤ field.div
  pub div_most : field.div ≤ most_multiplier

-- the number times mul over div, rounded to the nearest whole number, half away from zero
unfoldable pub quantity_of : Field → List ℕ → ℤ
quantity_of field words = nearest_multiple HalfAway (number_of field words *ℤ pos field.mul) field.div 1

-- what a field says that may be missing, or this number without one
abbrev pub quantity_or : ℤ → Option Field → List ℕ → ℤ
quantity_or absent None words = absent
quantity_or absent (Some field) words = quantity_of field words

-- the bit that says that a reading is valid is 1, counted from the lowest, where there is one
abbrev pub is_valid : Option Valid → List ℕ → Bool
is_valid None words = true
is_valid (Some valid) words = bit_at (register_at words valid.offset) valid.bit == 1

-- what a gauge's registers say: 0 without a water field, the fixed ambient without an ambient field
unfoldable pub raw_reading : GaugeMap → List ℕ → Raw
raw_reading gauge words = record {
  tank = gauge.tank;
  level = quantity_of gauge.level words;
  water = quantity_or (pos 0) gauge.water words;
  temperature = quantity_of gauge.temperature words;
  ambient = quantity_or gauge.ambient_fixed gauge.ambient words;
}
