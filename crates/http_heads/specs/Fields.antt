-- The fields of a request (RFC 9112, section 5: a field line is a name, a colon and a value with blanks around it). Names are
-- compared in any case of letters.
use Rattle.std.specs.Prelude.{◌⊎◌, ℕ, ◌<◌, ◌≤◌, ◌==◌, Bool, IsTrue, List, [], ◌∷◌, length, map, codes}
use Rattle.std.specs.List.{Any, after_first, before_first, filter, list_any}
use Rattle.std.specs.Str.{str_eq_ignore_ascii_case}
use Rattle.std.specs.Str.Parse.{digits_value}
use Rattle.farm_base.specs.Bytes.{is_all_digits}
use Rattle.httparse.specs.Ascii.{colon}
use Rattle.httparse.specs.Grammar.{trim_ows}
use Rattle.http_heads.specs.Limits.{most_fields, most_length_digits}
use Rattle.http_heads.specs.Lines.{field_lines}

-- the name of a field line: what stands before its first colon
abbrev pub field_name : List ℕ → List ℕ
field_name line = before_first (λ byte. byte == colon) line

-- the value of a field line: what stands after its first colon, without the blanks at both ends
abbrev pub value_of : List ℕ → List ℕ
value_of line = trim_ows (after_first (λ byte. byte == colon) line)

-- a field line has this name, in any case of letters
abbrev pub is_named : List ℕ → List ℕ → Bool
is_named name line = str_eq_ignore_ascii_case (field_name line) name

-- the values of those of these field lines that have this name, in their order
unfoldable pub values_in : List ℕ → List (List ℕ) → List (List ℕ)
values_in name lines = map value_of (filter (is_named name) lines)

-- more field lines than a head may have
abbrev pub HasTooManyFields : List ℕ → Type 0
HasTooManyFields bytes = most_fields < length (field_lines bytes)

-- the values of the Content-Length fields
abbrev pub content_lengths : List ℕ → List (List ℕ)
content_lengths bytes = values_in (codes "content-length") (field_lines bytes)

-- a Content-Length is written as 1 to 10 decimal digits
pub record IsContentLength (value : List ℕ) : Type 0 where
  pub some : 1 ≤ length value
  pub few : length value ≤ most_length_digits
  pub digits : IsTrue (is_all_digits value)

-- two Content-Length fields, or one that isn't 1 to 10 digits
abbrev pub HasBadLength : List ℕ → Type 0
HasBadLength bytes = (1 < length (content_lengths bytes)) ⊎ Any (λ value. ¬ (IsContentLength value)) (content_lengths bytes)

-- the number that the first of these values states, and 0 without one
abbrev pub stated_in : List (List ℕ) → ℕ
stated_in [] = 0
stated_in (value ∷ more) = digits_value 10 value

-- the length of the body: the Content-Length, and 0 without one (RFC 9112, section 6.3)
abbrev pub content_length_of : List ℕ → ℕ
content_length_of bytes = stated_in (content_lengths bytes)

-- a Transfer-Encoding field
abbrev pub HasTransferEncoding : List ℕ → Type 0
HasTransferEncoding bytes = IsTrue (list_any (is_named (codes "transfer-encoding")) (field_lines bytes))

-- the whole value is `close`, in any case of letters
abbrev pub is_close : List ℕ → Bool
is_close value = str_eq_ignore_ascii_case value (codes "close")

-- a Connection field that is `close`
abbrev pub AsksToClose : List ℕ → Type 0
AsksToClose bytes = IsTrue (list_any is_close (values_in (codes "connection") (field_lines bytes)))
