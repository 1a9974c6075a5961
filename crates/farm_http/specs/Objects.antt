-- Members of an object that are numbers.
use Rattle.std.specs.Prelude.{ℕ, List, ℤ}
use Rattle.serde_json.specs.Data.{Members, member, number, unsigned}
use Rattle.serde_json.specs.Find.{of_integer}

-- a member that is a number
abbrev pub numbered : List ℕ → ℕ → Members → Members
numbered name value members = member name (number (unsigned value)) members

-- a member that is a number of either sign
abbrev pub signed : List ℕ → ℤ → Members → Members
signed name value members = member name (number (of_integer value)) members
