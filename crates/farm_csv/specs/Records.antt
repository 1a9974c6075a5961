-- The records of a CSV text, each a list of its fields, and each field a list of bytes.
use Rattle.std.specs.Prelude.{ℕ, Bool, true, ◌&&◌, ◌==◌, List, [], ◌∷◌, length}
use Rattle.csv.specs.Reading.{default_config, records, strip_bom}

-- the records of a text without its byte order mark, by the reader's defaults
abbrev pub records_of : List ℕ → List (List (List ℕ))
records_of text = records default_config (strip_bom text)

-- each record has this many fields
abbrev pub have_this_length : ℕ → List (List (List ℕ)) → Bool
have_this_length size [] = true
have_this_length size (fields ∷ records) = length fields == size && have_this_length size records

-- each record has as many fields as the first
unfoldable pub have_equal_lengths : List (List (List ℕ)) → Bool
have_equal_lengths [] = true
have_equal_lengths (fields ∷ records) = have_this_length (length fields) records
