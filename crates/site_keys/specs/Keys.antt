-- The values of a table of TOML, each by its key. A fault names the item that the table is.
use Rattle.std.specs.Prelude.{ℕ, Bool, List, [], ◌∷◌, is_some, Option, Result, Ok, Err, ℤ, pos, if◌then◌else◌, option_and_then}
use Rattle.std.specs.Int.RustNames.{unsigned_abs}
use Rattle.toml.specs.Data.{Data, Items, get, as_array, as_integer, as_str}
use Rattle.farm_base.specs.Steps.{◌>>=◌}
use Rattle.farm_fixed.specs.declared.fault.ReadFault.{ReadFault}
use Rattle.farm_fixed.specs.declared.fault.ReadFault.TheVariants as reading
use Rattle.farm_fixed.specs.Range.{is_within}
use Rattle.farm_fixed.specs.Parsing.{quantity_of}
use Rattle.site_keys.specs.declared.fault.SiteFault.{SiteFault}
use Rattle.site_keys.specs.Codes.{code_of_field, code_of_range}
use Rattle.site_keys.specs.Faults.{bad, needed, ranged}

-- a table, and which item of its list it is: counted from 1, 0 for the top
pub record Keys : Type 0 where
  pub item : ℕ
  pub table : Data

-- the keys of a table that is this item
abbrev pub keys_of : ℕ → Data → Keys
keys_of item value = record { item = item; table = value }

-- the keys of a table within, which is of the same item
abbrev pub inner : Keys → Data → Keys
inner keys value = keys_of keys.item value

-- the value at a key
abbrev pub value_at : Keys → List ℕ → Option Data
value_at keys key = get key keys.table

-- the table has the key
abbrev pub has : Keys → List ℕ → Bool
has keys key = is_some (value_at keys key)

-- a whole number
unfoldable pub integer_at : Keys → List ℕ → Result ℤ SiteFault
integer_at keys key = needed keys.item (option_and_then as_integer (value_at keys key))

-- a whole number in a range
unfoldable pub whole_at : Keys → List ℕ → ℤ → ℤ → Result ℤ SiteFault
whole_at keys key least most = do
  value ← integer_at keys key
  ranged keys.item (is_within least most value) value

-- a whole number in a range from 0 or more
unfoldable pub natural_at : Keys → List ℕ → ℕ → ℕ → Result ℕ SiteFault
natural_at keys key least most = do
  value ← whole_at keys key (pos least) (pos most)
  Ok (unsigned_abs value)

-- a whole number in a range from 0 or more; where it is missing, the default
unfoldable pub natural_or : ℕ → Keys → List ℕ → ℕ → ℕ → Result ℕ SiteFault
natural_or default keys key least most = if has keys key then natural_at keys key least most else Ok default

-- a text
unfoldable pub text_at : Keys → List ℕ → Result (List ℕ) SiteFault
text_at keys key = needed keys.item (option_and_then as_str (value_at keys key))

-- a decimal text: outside its range, or none in its form
abbrev pub decimal_read : ℕ → Result ℤ ReadFault → Result ℤ SiteFault
decimal_read item (Ok value) = Ok value
decimal_read item (Err reading.OutOfRange) = bad code_of_range item 0
decimal_read item (Err reading.Empty) = bad code_of_field item 0
decimal_read item (Err (reading.BadByte offset)) = bad code_of_field item 0
decimal_read item (Err reading.TooFine) = bad code_of_field item 0

-- a quantity of this number of decimals and this range
unfoldable pub quantity_at : ℕ → ℤ → ℤ → Keys → List ℕ → Result ℤ SiteFault
quantity_at places least most keys key = do
  text ← text_at keys key
  decimal_read keys.item (quantity_of places least most text)

-- the values of an array
abbrev pub values_of : Items → List Data
values_of Items.no_items = []
values_of (Items.item value values) = value ∷ values_of values

-- an array, by its values
unfoldable pub array_at : Keys → List ℕ → Result (List Data) SiteFault
array_at keys key = do
  values ← needed keys.item (option_and_then as_array (value_at keys key))
  Ok (values_of values)

-- an array, by its values; where it is missing, no values
unfoldable pub array_or_none : Keys → List ℕ → Result (List Data) SiteFault
array_or_none keys key = if has keys key then array_at keys key else Ok []

-- the keys of a table within, at a key
unfoldable pub inner_at : Keys → List ℕ → Result Keys SiteFault
inner_at keys key = do
  table ← needed keys.item (value_at keys key)
  Ok (inner keys table)
