-- The rows of the list by which bytes in hand are judged. A head is one by httparse's grammar (RFC 9112, sections 2 to 5).
use Rattle.std.specs.Prelude.{◌≡◌, ◌⊎◌, ℕ, ◌+◌, ◌<◌, ◌≤◌, List, [], length, take, codes}
use Rattle.httparse.specs.Grammar.{HasNoRequest, NeverHasRequest, RequestHead, print_request}
use Rattle.http_heads.specs.Limits.{most_body_bytes, most_head_bytes}
use Rattle.http_heads.specs.Fields.{AsksToClose, HasBadLength, HasTooManyFields, HasTransferEncoding, content_length_of, content_lengths}

-- as many bytes as a head may have, and no head is whole within them
pub record HasNoWholeHead (bytes : List ℕ) : Type 0 where
  pub enough : most_head_bytes ≤ length bytes
  pub none : HasNoRequest (take most_head_bytes bytes)

-- row 1: too many field lines, or no head that is whole within its limit
abbrev pub IsTooLarge : List ℕ → Type 0
IsTooLarge bytes = HasTooManyFields bytes ⊎ HasNoWholeHead bytes

-- row 2: no continuation makes a head, or the Content-Length is bad
abbrev pub IsBad : List ℕ → Type 0
IsBad bytes = NeverHasRequest bytes ⊎ HasBadLength bytes

-- row 4: no Content-Length states the body's length: there is a Transfer-Encoding, or a POST has no Content-Length
abbrev pub LacksLength : RequestHead → List ℕ → Type 0
LacksLength head bytes = HasTransferEncoding bytes ⊎ ((head.method ≡ codes "POST") × (content_lengths bytes ≡ []))

-- row 5: the Content-Length is over the limit of a body
abbrev pub IsTooLong : List ℕ → Type 0
IsTooLong bytes = most_body_bytes < content_length_of bytes

-- row 6: the body isn't whole
abbrev pub LacksBody : RequestHead → List ℕ → Type 0
LacksBody head bytes = length bytes < length (print_request head) + content_length_of bytes

-- the connection ends with this request: it is of HTTP/1.0, asks for it, or is a HEAD
abbrev pub IsLast : RequestHead → List ℕ → Type 0
IsLast head bytes = (head.minor ≡ 0) ⊎ (AsksToClose bytes ⊎ (head.method ≡ codes "HEAD"))
