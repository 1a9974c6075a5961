-- The fields of a gauge: which registers of its answer make a number, and which bit says that they are valid.
use Rattle.std.specs.Prelude.{ℕ, ◌+◌, ◌-◌, Bool, true, false, nat_le, nat_lt, if◌then◌else◌, List, codes, Option, Some, None, Result, Ok, option_and_then}
use Rattle.std.specs.Str.{bytes_eq}
use Rattle.farm_base.specs.Steps.{◌>>=◌}
use Rattle.toml.specs.Data.{as_bool}
use Rattle.modbus_frame.specs.Limits.{most_quantity}
use Rattle.gauge_maps.specs.Limits.{most_bit, most_multiplier, most_words}
use Rattle.gauge_maps.specs.declared.map.Field.{Field}
use Rattle.gauge_maps.specs.declared.map.Valid.{Valid}
use Rattle.site_keys.specs.Codes.{code_of_range}
use Rattle.site_keys.specs.declared.fault.SiteFault.{SiteFault}
use Rattle.site_keys.specs.Faults.{bad, needed, ranged}
use Rattle.site_keys.specs.Keys.{Keys, has, inner_at, natural_at, natural_or, text_at, value_at}

-- whether the low word of two stands first
abbrev pub is_low_first : ℕ → List ℕ → Result Bool SiteFault
is_low_first item text =
    if bytes_eq text (codes "high") then Ok false else (if bytes_eq text (codes "low") then Ok true else bad code_of_range item 0)

-- the order of words, the high one first where it isn't given
unfoldable pub is_low_first_at : Keys → Result Bool SiteFault
is_low_first_at keys =
    if has keys (codes "order") then (do
      text ← text_at keys (codes "order")
      is_low_first keys.item text) else Ok false

-- whether a number is signed; it isn't where that isn't said
unfoldable pub is_signed_at : Keys → Result Bool SiteFault
is_signed_at keys =
    if has keys (codes "signed") then needed keys.item (option_and_then as_bool (value_at keys (codes "signed"))) else Ok false

-- a field among this number of registers
unfoldable pub field_of : ℕ → Keys → Result Field SiteFault
field_of quantity keys = do
  offset ← natural_at keys (codes "offset") 0 (most_quantity - 1)
  words ← natural_or 1 keys (codes "words") 1 most_words
  within ← ranged keys.item (nat_le (offset + words) quantity) offset
  swapped ← is_low_first_at keys
  signed ← is_signed_at keys
  mul ← natural_or 1 keys (codes "mul") 1 most_multiplier
  div ← natural_or 1 keys (codes "div") 1 most_multiplier
  Ok (record { offset = within; words = words; swapped = swapped; signed = signed; mul = mul; div = div })

-- a field at a key
unfoldable pub field_at : ℕ → Keys → List ℕ → Result Field SiteFault
field_at quantity keys key = do
  field ← inner_at keys key
  field_of quantity field

-- a field that may be missing
unfoldable pub field_or_none : ℕ → Keys → List ℕ → Result (Option Field) SiteFault
field_or_none quantity keys key =
    if has keys key then (do
      field ← field_at quantity keys key
      Ok (Some field)) else Ok None

-- a bit among this number of registers
unfoldable pub valid_of : ℕ → Keys → Result Valid SiteFault
valid_of quantity keys = do
  offset ← natural_at keys (codes "offset") 0 (most_quantity - 1)
  within ← ranged keys.item (nat_lt offset quantity) offset
  bit ← natural_at keys (codes "bit") 0 most_bit
  Ok (record { offset = within; bit = bit })

-- the validity bit, if there is one
unfoldable pub valid_or_none : ℕ → Keys → Result (Option Valid) SiteFault
valid_or_none quantity keys =
    if has keys (codes "valid") then (do
      bit ← inner_at keys (codes "valid")
      valid ← valid_of quantity bit
      Ok (Some valid)) else Ok None
