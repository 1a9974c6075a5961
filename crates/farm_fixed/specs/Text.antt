-- Texts of numbers: an optional minus, one or more digits, and optionally a point with one or more digits.
use Rattle.std.specs.Prelude.{◌≡◌, ℕ, ◌+◌, ◌-◌, ◌<◌, ◌≤◌, Bool, true, false, if◌then◌else◌, List, [], ◌∷◌, ◌++◌, length, take, replicate, Option, Some, None, ◌==◌, ℤ, pos, neg_ℤ}
use Rattle.std.specs.Char.{IsAsciiDigit, is_ascii_digit}
use Rattle.std.specs.List.{AllByRecursion}
use Rattle.std.specs.Str.Parse.{digits_value}

-- the parts of a number's text: digits as bytes, no fraction where there is no point
pub record Number : Type 0 where
  pub negative : Bool
  pub whole : List ℕ
  pub fraction : List ℕ

-- the text of a sign
abbrev pub sign_text : Bool → List ℕ
sign_text true = 45 ∷ []
sign_text false = []

-- the text of decimals, with its point
abbrev pub fraction_text : List ℕ → List ℕ
fraction_text [] = []
fraction_text (digit ∷ digits) = 46 ∷ digit ∷ digits

-- text is the text of these parts, and these are a number's
pub record IsTextOf (text : List ℕ) (number : Number) : Type 0 where
  pub parts : text ≡ sign_text number.negative ++ number.whole ++ fraction_text number.fraction
  pub nonempty : 0 < length number.whole
  pub whole : AllByRecursion IsAsciiDigit number.whole
  pub fraction : AllByRecursion IsAsciiDigit number.fraction

-- some number has this text
abbrev pub IsNumber : List ℕ → Type 0
IsNumber text = (number : Number) × IsTextOf text number

-- the text can be continued to that of a number
abbrev pub BeginsNumber : List ℕ → Type 0
BeginsNumber text = (rest : List ℕ) × IsNumber (text ++ rest)

-- offset is that of the first byte after which no continuation is a number, or the length of a text that ends too early
pub record IsBadAt (text : List ℕ) (offset : ℕ) : Type 0 where
  pub within : offset ≤ length text
  pub good_before : BeginsNumber (take offset text)
  pub bad_there : offset < length text → BeginsNumber (take (offset + 1) text) → ⊥
  pub too_short : offset ≡ length text → IsNumber text → ⊥

-- where in a number the next byte stands
pub data Position : Type 0 where
  AtStart : Position
  AfterMinus : Position
  InWhole : Position
  AfterPoint : Position
  InFraction : Position

-- the position after a byte, None where no number has that byte there
abbrev pub after : Position → ℕ → Option Position
after AtStart byte = if byte == 45 then Some AfterMinus else (if is_ascii_digit byte then Some InWhole else None)
after AfterMinus byte = if is_ascii_digit byte then Some InWhole else None
after InWhole byte = if byte == 46 then Some AfterPoint else (if is_ascii_digit byte then Some InWhole else None)
after AfterPoint byte = if is_ascii_digit byte then Some InFraction else None
after InFraction byte = if is_ascii_digit byte then Some InFraction else None

-- a number may end there
abbrev pub may_end : Position → Bool
may_end InWhole = true
may_end InFraction = true
may_end position = false

-- the offset of the first bad byte, once the position after the byte at this offset is known
abbrev pub bad_then : Option Position → ℕ → (Position → Option ℕ) → Option ℕ
bad_then None offset rest = Some offset
bad_then (Some position) offset rest = rest position

-- the offset of the first bad byte from a position on, where offset bytes stand before
abbrev pub bad_from : Position → ℕ → List ℕ → Option ℕ
bad_from position offset [] = if may_end position then None else Some offset
bad_from position offset (byte ∷ bytes) = bad_then (after position byte) offset (λ next. bad_from next (offset + 1) bytes)

-- the offset of the first bad byte, None for the text of a number
abbrev pub bad_offset : List ℕ → Option ℕ
bad_offset text = bad_from AtStart 0 text

-- a magnitude under a minus or none
abbrev pub signed : Bool → ℕ → ℤ
signed true n = neg_ℤ (pos n)
signed false n = pos n

-- the number of units that the parts stand for, at this many decimals, of which the fraction has no more
abbrev pub value_of : ℕ → Number → ℤ
value_of places number =
    signed number.negative (digits_value 10 (number.whole ++ number.fraction ++ replicate (places - length number.fraction) 48))
