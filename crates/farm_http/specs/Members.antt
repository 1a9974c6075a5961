-- The members of a JSON object, by name. Of a name that stands twice in a text the last value counts.
use Rattle.std.specs.Prelude.{ℕ, ◌-◌, nat_lt, if◌then◌else◌, List, [], ◌∷◌, ◌++◌, length, replicate, Option, Some, None, option_and_then, option_map, ℤ, pos}
use Rattle.std.specs.Int.RustNames.{unsigned_abs}
use Rattle.std.specs.Str.{is_utf8}
use Rattle.serde_json.specs.Data.{Data, Items, no_items, item}
use Rattle.serde_json.specs.Find.{as_array, as_i64, as_number, as_str, get}
use Rattle.serde_json.specs.Read.{read}
use Rattle.farm_fixed.specs.Range.{is_within}
use Rattle.farm_history.specs.declared.few.Few.{Few}
use Rattle.farm_history.specs.Limits.{most_in_list}

-- the value that bytes are: UTF-8, and a JSON text that nests at most 127 deep
unfoldable pub value_of : List ℕ → Option Data
value_of bytes = if is_utf8 bytes then read bytes else None

-- the whole number of 64 bits that a value is; one with a point or an exponent, or -0, isn't one
abbrev pub whole_of : Data → Option ℤ
whole_of value = option_and_then as_i64 (as_number value)

-- the whole number that a member is
unfoldable pub whole_at : List ℕ → Data → Option ℤ
whole_at name value = option_and_then whole_of (get name value)

-- a number within a range
abbrev pub ranged : ℕ → ℕ → ℤ → Option ℕ
ranged least most number = if is_within (pos least) (pos most) number then Some (unsigned_abs number) else None

-- the number that a member is, within a range
unfoldable pub natural_at : List ℕ → ℕ → ℕ → Data → Option ℕ
natural_at name least most value = option_and_then (ranged least most) (whole_at name value)

-- the text that a member is
unfoldable pub text_at : List ℕ → Data → Option (List ℕ)
text_at name value = option_and_then as_str (get name value)

-- the whole numbers that the items of a list are, each of them one
abbrev pub wholes_of : Items → Option (List ℤ)
wholes_of no_items = Some []
wholes_of (item value items) = option_and_then (λ number. option_map (λ numbers. number ∷ numbers) (wholes_of items)) (whole_of value)

-- a short list of at most eight numbers
abbrev pub few_of : List ℤ → Option Few
few_of numbers =
    if nat_lt most_in_list (length numbers) then None
    else Some (record { count = length numbers; values = numbers ++ replicate (most_in_list - length numbers) (pos 0) })

-- the short list that items are
unfoldable pub few_of_items : Items → Option Few
few_of_items items = option_and_then few_of (wholes_of items)

-- the short list that a member is
unfoldable pub few_at : List ℕ → Data → Option Few
few_at name value = option_and_then few_of_items (option_and_then as_array (get name value))
