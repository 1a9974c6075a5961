-- The numbers of the limits.
use Rattle.std.specs.Prelude.{ℕ}

-- the byte that ends a line
abbrev pub line_feed : ℕ
line_feed = 10

-- the most bytes of a line, without its line feed
abbrev pub most_request_line_bytes : ℕ
most_request_line_bytes = 65536

-- the most bytes of all lines, with their line feeds
abbrev pub most_bytes : ℕ
most_bytes = 1073741824
