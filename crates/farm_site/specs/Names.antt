-- Names of the site, of products and of parties.
use Rattle.std.specs.Prelude.{ℕ, Bool, List}
use Rattle.farm_site.specs.Limits.{most_name_bytes}
use Rattle.farm_site.specs.Texts.{is_text}

-- a name has 1 to 32 bytes, each printable
abbrev pub is_name : List ℕ → Bool
is_name name = is_text most_name_bytes 32 126 name
