-- The numbers of the limits, and the statuses of broken bytes (RFC 9110, section 15.5, and RFC 6585, section 5).
use Rattle.std.specs.Prelude.{ℕ}

-- the most field lines of a head
abbrev pub most_fields : ℕ
most_fields = 64

-- the most bytes of a head
abbrev pub most_head_bytes : ℕ
most_head_bytes = 16384

-- the most bytes of a body
abbrev pub most_body_bytes : ℕ
most_body_bytes = 65536

-- the most digits of a Content-Length
abbrev pub most_length_digits : ℕ
most_length_digits = 10

-- Bad Request
abbrev pub bad_request : ℕ
bad_request = 400

-- Length Required
abbrev pub length_required : ℕ
length_required = 411

-- Content Too Large, once called Payload Too Large
abbrev pub content_too_large : ℕ
content_too_large = 413

-- Request Header Fields Too Large
abbrev pub header_fields_too_large : ℕ
header_fields_too_large = 431
