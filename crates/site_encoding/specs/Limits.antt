-- The numbers of the limits.
use Rattle.std.specs.Prelude.{ℕ}

-- each site has fewer bytes than this
abbrev pub most_site_bytes : ℕ
most_site_bytes = 16777216
