-- What the code gathers of the field lines and of the head. These are the private functions' own.
use Rattle.std.specs.Prelude.{◌≡◌, ◌⊎◌, ℕ, ◌<◌, ◌≤◌, List, [], ◌∷◌, drop, length, codes}
use Rattle.std.specs.List.{Any, list_any}
use Rattle.std.specs.Str.Parse.{digits_value}
use Rattle.httparse.specs.Grammar.{HasNoRequest, MayBecomeRequest, NeverHasRequest, ReadsRequest, RequestHead, print_request}
use Rattle.http_heads.specs.declared.fields.Fields.{Fields}
use Rattle.http_heads.specs.declared.fields.Length.{Length}
use Rattle.http_heads.specs.declared.fields.Length.TheVariants.{Absent, Bad, Bytes}
use Rattle.http_heads.specs.declared.heads.Head.{Head}
use Rattle.http_heads.specs.declared.heads.Parsed.{Parsed}
use Rattle.http_heads.specs.declared.heads.Parsed.TheVariants.{Hopeless, Open, Whole}
use Rattle.http_heads.specs.Fields.{IsContentLength, is_close, is_named, values_in}

-- what these values of Content-Length fields state: nothing; a number of bytes; or they are two, or one isn't 1 to 10 digits
abbrev pub IsLength : List (List ℕ) → Length → Type 0
IsLength values Absent = values ≡ []
IsLength values (Bytes number) =
    (value : List ℕ) × (values ≡ value ∷ []) × IsContentLength value × (number ≡ digits_value 10 value)
IsLength values Bad = (1 < length values) ⊎ Any (λ value. ¬ (IsContentLength value)) values

-- what these field lines say
pub record Describes (lines : List (List ℕ)) (fields : Fields) : Type 0 where
  pub count : fields.count ≡ length lines
  pub stated : IsLength (values_in (codes "content-length") lines) fields.length
  pub is_encoded : fields.is_encoded ≡ list_any (is_named (codes "transfer-encoding")) lines
  pub closes : fields.closes ≡ list_any is_close (values_in (codes "connection") lines)

-- the parts of a whole head at the front
pub record IsHeadOf (bytes : List ℕ) (found : Head) (head : RequestHead) : Type 0 where
  pub reads : ReadsRequest bytes head (drop found.len bytes)
  pub len : found.len ≡ length (print_request head)
  pub fits : found.len ≤ length bytes
  pub method : found.method.now ≡ head.method
  pub target : found.target.now ≡ head.target
  pub minor : found.minor ≡ head.minor

-- a head is whole; it may become whole, or the bytes end within the target; or it never becomes whole
abbrev pub IsParsed : List ℕ → Parsed → Type 0
IsParsed bytes (Whole found) = (head : RequestHead) × IsHeadOf bytes found head
IsParsed bytes Open = HasNoRequest bytes × MayBecomeRequest bytes
IsParsed bytes Hopeless = NeverHasRequest bytes
