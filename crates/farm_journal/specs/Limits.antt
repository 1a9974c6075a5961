-- Numbers of the format of a journal.
use Rattle.std.specs.Prelude.{ℕ}

-- a header or a body has at most this many bytes
abbrev pub max_body : ℕ
max_body = 16777216

-- a journal holds at most this many bodies
abbrev pub max_bodies : ℕ
max_bodies = 4000000000

-- an opening has this many bytes before its header, and no journal has fewer
abbrev pub before_header : ℕ
before_header = 13

-- the gate of the header and the name of the format have this many bytes
abbrev pub signature_bytes : ℕ
signature_bytes = 9

-- the length of a header or a body has this many bytes
abbrev pub length_bytes : ℕ
length_bytes = 4

-- this many bytes stand around a body: a gate, a length, and the gate after the body
abbrev pub around_body : ℕ
around_body = 6
