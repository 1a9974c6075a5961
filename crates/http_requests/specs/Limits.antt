-- The numbers of the limits, and the statuses of what isn't asked (RFC 9110, section 15.5). 400 is that of `http_heads`.
use Rattle.std.specs.Prelude.{ℕ}

-- the most digits of a parameter
abbrev pub most_parameter_digits : ℕ
most_parameter_digits = 10

-- Not Found
abbrev pub not_found : ℕ
not_found = 404

-- Method Not Allowed
abbrev pub method_not_allowed : ℕ
method_not_allowed = 405

-- the most bytes of a request: 16,384 of its head and 65,536 of its body
abbrev pub most_request_bytes : ℕ
most_request_bytes = 81920
