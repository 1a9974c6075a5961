-- What follows from the definitions: what field lines are, that the list has one answer, and that an answer stays.
use Rattle.std.specs.Prelude.{◌≡◌, ◌≢◌, ◌⊎◌, ℕ, List, [], ◌∷◌, ◌++◌, map}
use Rattle.std.specs.List.{All}
use Rattle.httparse.specs.Grammar.{EndsInTarget, ReadsRequest, RequestHead}
use Rattle.httparse.specs.Spans.{name_and_value}
use Rattle.http_heads.specs.declared.fronts.Front.{Front}
use Rattle.http_heads.specs.declared.fronts.Front.TheVariants.{Broken, Need, Whole}
use Rattle.http_heads.specs.declared.fronts.RequestFront.{RequestFront}
use Rattle.http_heads.specs.Limits.{bad_request}
use Rattle.http_heads.specs.Lines.{field_lines}
use Rattle.http_heads.specs.Fields.{field_name, value_of}
use Rattle.http_heads.specs.Rows.{IsTooLarge}
use Rattle.http_heads.specs.Fronts.{IsFront}

-- Field lines stand after the first line that isn't empty, and up to the next empty one or the end.
pub record FollowRequestLine (lines fields : List (List ℕ)) : Type 0 where
  pub blank : List (List ℕ)
  pub request : List ℕ
  pub rest : List (List ℕ)
  pub split : lines ≡ blank ++ request ∷ fields ++ rest
  pub empty_before : All (λ line. line ≡ []) blank
  pub request_line : request ≢ []
  pub none_empty : All (λ line. line ≢ []) fields
  pub up_to : (rest ≡ []) ⊎ ((more : List (List ℕ)) × (rest ≡ [] ∷ more))

-- the field lines among lines; without a request line there aren't any
abbrev pub AreFieldLines : List (List ℕ) → List (List ℕ) → Type 0
AreFieldLines lines fields = FollowRequestLine lines fields ⊎ (All (λ line. line ≡ []) lines × (fields ≡ []))

-- the field lines of a whole head are its fields: name for name, and value for value without the blanks at both ends
abbrev pub LinesAreFields : List ℕ → Type 0
LinesAreFields bytes =
    (head : RequestHead) (rest : List ℕ) → ReadsRequest bytes head rest
    → map (λ line. (field_name line, value_of line)) (field_lines bytes) ≡ map name_and_value head.fields

-- two requests have the same parts and lengths
pub record IsSameRequest (one other : RequestFront) : Type 0 where
  pub method : one.method.now ≡ other.method.now
  pub target : one.target.now ≡ other.target.now
  pub last : one.last ≡ other.last
  pub head : one.head ≡ other.head
  pub body : one.body ≡ other.body

-- two answers are the same
abbrev pub IsSameFront : Front → Front → Type 0
IsSameFront Need Need = Unit {0}
IsSameFront (Broken status) (Broken other) = status ≡ other
IsSameFront (Whole request) (Whole other) = IsSameRequest request other
IsSameFront one other = ⊥

-- of two answers the one is that more bytes are needed, and the other is 400
abbrev pub AreNeedAndBad : Front → Front → Type 0
AreNeedAndBad Need (Broken status) = status ≡ bad_request
AreNeedAndBad (Broken status) Need = status ≡ bad_request
AreNeedAndBad one other = ⊥

-- no other answer is one of the list; within the target a hopeless front may be Need or 400
abbrev pub IsOnlyFront : List ℕ → Front → Type 0
IsOnlyFront bytes answer =
    (other : Front) → IsFront bytes other → IsSameFront answer other ⊎ (EndsInTarget bytes × AreNeedAndBad answer other)

-- Whatever follows, a whole request and a status stay; but a 400 stays only as long as row 1 doesn't hold.
abbrev pub StaysDecided : List ℕ → Front → Type 0
StaysDecided bytes Need = Unit {0}
StaysDecided bytes (Broken status) =
    (more : List ℕ) → (status ≡ bad_request → ¬ (IsTooLarge (bytes ++ more))) → IsFront (bytes ++ more) (Broken status)
StaysDecided bytes (Whole request) = (more : List ℕ) → IsFront (bytes ++ more) (Whole request)
