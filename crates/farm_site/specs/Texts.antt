-- Texts of a site: their length and their bytes.
use Rattle.std.specs.Prelude.{ℕ, ◌&&◌, Bool, List, length}
use Rattle.std.specs.List.{list_all}
use Rattle.farm_fixed.specs.Range.{is_between}

-- a text has at least 1 byte, and each byte lies in a range
abbrev pub is_text : ℕ → ℕ → ℕ → List ℕ → Bool
is_text longest least most text = is_between 1 longest (length text) && list_all (is_between least most) text
