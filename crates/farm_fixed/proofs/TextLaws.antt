-- Where the first bad byte of a text is, in the words of the grammar.
use Rattle.std.proofs.Common.{◌≡◌, ℕ, ◌<◌, Bool, true, false, if◌then◌else◌, List, [], ◌∷◌, ◌++◌, length, Some, None, ◌==◌, refl, ap, arith}
use Rattle.std.proofs.lemmas.Bool.Decides.{nat_tests}
use Rattle.std.specs.Char.{IsAsciiDigit, is_ascii_digit}
use Rattle.std.specs.List.{AllByRecursion}
use Rattle.farm_fixed.specs.Text.{Position, AtStart, AfterMinus, InWhole, AfterPoint, InFraction, sign_text, fraction_text, IsNumber, after, may_end}

-- digits, as bytes
abbrev pub Digits : List ℕ → Type 0
Digits ds = AllByRecursion IsAsciiDigit ds

-- t is digits, and maybe a point and digits
pub record IsUnsigned (t whole fraction : List ℕ) : Type 0 where
  pub parts : t ≡ whole ++ fraction_text fraction
  pub digits : Digits whole
  pub decimals : Digits fraction

-- what may follow at a position
abbrev pub Rest : Position → List ℕ → Type 0
Rest AtStart t = IsNumber t
Rest AfterMinus t = (whole : List ℕ) × (fraction : List ℕ) × IsUnsigned t whole fraction × (0 < length whole)
Rest InWhole t = (whole : List ℕ) × (fraction : List ℕ) × IsUnsigned t whole fraction
Rest AfterPoint t = (0 < length t) × Digits t
Rest InFraction t = Digits t

-- a digit is no minus
pub not_minus : (d : ℕ) → IsAsciiDigit d → (d == 45) ≡ false
not_minus d h = grind (arith, nat_tests)

-- a digit is no point
pub not_point : (d : ℕ) → IsAsciiDigit d → (d == 46) ≡ false
not_point d h = grind (arith, nat_tests)

-- a digit passes its test
pub digit_test : (d : ℕ) → IsAsciiDigit d → is_ascii_digit d ≡ true
digit_test d h = grind (arith, nat_tests)

-- a byte that passes it is a digit
pub from_test : (d : ℕ) → is_ascii_digit d ≡ true → IsAsciiDigit d
from_test d h = grind (arith, nat_tests)

-- bytes that pass the test of equality are equal
pub same_byte : (b c : ℕ) → (b == c) ≡ true → b ≡ c
same_byte b c h = grind (arith, nat_tests)

-- something always may follow
pub completes : (p : Position) → (t : List ℕ) × Rest p t
completes AtStart = (48 ∷ [], (record { negative = false; whole = 48 ∷ []; fraction = [] }, record { parts = refl; nonempty = omega arith; whole = ((omega arith, omega arith), tt); fraction = tt }))
completes AfterMinus = (48 ∷ [], (48 ∷ [], [], record { parts = refl; digits = ((omega arith, omega arith), tt); decimals = tt }, omega arith))
completes InWhole = ([], ([], [], record { parts = refl; digits = tt; decimals = tt }))
completes AfterPoint = (48 ∷ [], (omega arith, ((omega arith, omega arith), tt)))
completes InFraction = ([], tt)

-- a number with one digit more in front
pub one_digit_more : (b : ℕ) (t whole fraction : List ℕ) → IsAsciiDigit b → IsUnsigned t whole fraction → IsUnsigned (b ∷ t) (b ∷ whole) fraction
one_digit_more b t whole fraction digit rest = record { parts = ap (λ ds. b ∷ ds) rest.parts; digits = (digit, rest.digits); decimals = rest.decimals }

-- a byte at the start, and what may follow
joins_start : (b : ℕ) (t : List ℕ) (minus digit : Bool) → (b == 45) ≡ minus → is_ascii_digit b ≡ digit → (q : Position) →
    (if minus then Some AfterMinus else (if digit then Some InWhole else None)) ≡ Some q → Rest q t → IsNumber (b ∷ t)
joins_start b t true digit m d AfterMinus e rest = (
  record { negative = true; whole = rest.0; fraction = rest.1 },
  record { parts = let is : b ≡ 45 = same_byte b 45 m in rw is (ap (λ ds. 45 ∷ ds) rest.2.parts); nonempty = rest.3; whole = rest.2.digits; fraction = rest.2.decimals },
)
joins_start b t true digit m d AtStart e rest = cc
joins_start b t true digit m d InWhole e rest = cc
joins_start b t true digit m d AfterPoint e rest = cc
joins_start b t true digit m d InFraction e rest = cc
joins_start b t false true m d InWhole e rest = (
  record { negative = false; whole = b ∷ rest.0; fraction = rest.1 },
  record { parts = ap (λ ds. b ∷ ds) rest.2.parts; nonempty = omega arith; whole = (from_test b d, rest.2.digits); fraction = rest.2.decimals },
)
joins_start b t false true m d AtStart e rest = cc
joins_start b t false true m d AfterMinus e rest = cc
joins_start b t false true m d AfterPoint e rest = cc
joins_start b t false true m d InFraction e rest = cc
joins_start b t false false m d q e rest = cc

-- a byte after the minus, and what may follow
joins_minus : (b : ℕ) (t : List ℕ) (digit : Bool) → is_ascii_digit b ≡ digit → (q : Position) →
    (if digit then Some InWhole else None) ≡ Some q → Rest q t → Rest AfterMinus (b ∷ t)
joins_minus b t true d InWhole e rest = (b ∷ rest.0, rest.1, one_digit_more b t rest.0 rest.1 (from_test b d) rest.2, omega arith)
joins_minus b t true d AtStart e rest = cc
joins_minus b t true d AfterMinus e rest = cc
joins_minus b t true d AfterPoint e rest = cc
joins_minus b t true d InFraction e rest = cc
joins_minus b t false d q e rest = cc

-- digits after a point
after_point : (b : ℕ) (t : List ℕ) → b ≡ 46 → 0 < length t → Digits t → Rest InWhole (b ∷ t)
after_point b [] point some digits = absurd (omega arith)
after_point b (d ∷ ds) point some digits = ([], d ∷ ds, record { parts = ap (λ k. k ∷ d ∷ ds) point; digits = tt; decimals = digits })

-- a byte among the whole digits, and what may follow
joins_whole : (b : ℕ) (t : List ℕ) (point digit : Bool) → (b == 46) ≡ point → is_ascii_digit b ≡ digit → (q : Position) →
    (if point then Some AfterPoint else (if digit then Some InWhole else None)) ≡ Some q → Rest q t → Rest InWhole (b ∷ t)
joins_whole b t true digit m d AfterPoint e rest = after_point b t (same_byte b 46 m) rest.0 rest.1
joins_whole b t true digit m d AtStart e rest = cc
joins_whole b t true digit m d AfterMinus e rest = cc
joins_whole b t true digit m d InWhole e rest = cc
joins_whole b t true digit m d InFraction e rest = cc
joins_whole b t false true m d InWhole e rest = (b ∷ rest.0, rest.1, one_digit_more b t rest.0 rest.1 (from_test b d) rest.2)
joins_whole b t false true m d AtStart e rest = cc
joins_whole b t false true m d AfterMinus e rest = cc
joins_whole b t false true m d AfterPoint e rest = cc
joins_whole b t false true m d InFraction e rest = cc
joins_whole b t false false m d q e rest = cc

-- a byte among the decimals, and what may follow
joins_fraction : (b : ℕ) (t : List ℕ) (digit : Bool) → is_ascii_digit b ≡ digit → (q : Position) →
    (if digit then Some InFraction else None) ≡ Some q → Rest q t → Digits (b ∷ t)
joins_fraction b t true d InFraction e rest = (from_test b d, rest)
joins_fraction b t true d AtStart e rest = cc
joins_fraction b t true d AfterMinus e rest = cc
joins_fraction b t true d InWhole e rest = cc
joins_fraction b t true d AfterPoint e rest = cc
joins_fraction b t false d q e rest = cc

-- what may follow at the next position may follow after the byte
pub joins : (p : Position) (b : ℕ) (t : List ℕ) (q : Position) → after p b ≡ Some q → Rest q t → Rest p (b ∷ t)
joins AtStart b t q e rest = joins_start b t (b == 45) (is_ascii_digit b) refl refl q e rest
joins AfterMinus b t q e rest = joins_minus b t (is_ascii_digit b) refl q e rest
joins InWhole b t q e rest = joins_whole b t (b == 46) (is_ascii_digit b) refl refl q e rest
joins AfterPoint b t q e rest = (omega arith, joins_fraction b t (is_ascii_digit b) refl q e rest)
joins InFraction b t q e rest = joins_fraction b t (is_ascii_digit b) refl q e rest

-- the byte of a text that may follow leads to a position where the rest may follow
abbrev pub Splits : Position → ℕ → List ℕ → Type 0
Splits p b t = (q : Position) × (after p b ≡ Some q) × Rest q t

-- a digit may stand at the start
pub start_digit : (b : ℕ) → IsAsciiDigit b → after AtStart b ≡ Some InWhole
start_digit b h = simp (not_minus b h, digit_test b h)

-- a digit may stand after the minus
pub minus_digit : (b : ℕ) → IsAsciiDigit b → after AfterMinus b ≡ Some InWhole
minus_digit b h = simp (digit_test b h)

-- a digit may stand after a digit
pub whole_digit : (b : ℕ) → IsAsciiDigit b → after InWhole b ≡ Some InWhole
whole_digit b h = simp (not_point b h, digit_test b h)

-- a digit may stand after the point
pub point_digit : (b : ℕ) → IsAsciiDigit b → after AfterPoint b ≡ Some InFraction
point_digit b h = simp (digit_test b h)

-- a digit may stand among the decimals
pub fraction_digit : (b : ℕ) → IsAsciiDigit b → after InFraction b ≡ Some InFraction
fraction_digit b h = simp (digit_test b h)

-- equal texts have equal rests
pub tail_of : (b d : ℕ) (t rest : List ℕ) → b ∷ t ≡ d ∷ rest → t ≡ rest
tail_of b d t rest e = cc

-- and equal first bytes
head_of : (b d : ℕ) (t rest : List ℕ) → b ∷ t ≡ d ∷ rest → b ≡ d
head_of b d t rest e = cc

-- the first byte of a number
splits_start : (b : ℕ) (t : List ℕ) (negative : Bool) (whole fraction : List ℕ) → b ∷ t ≡ sign_text negative ++ whole ++ fraction_text fraction →
    0 < length whole → Digits whole → Digits fraction → Splits AtStart b t
splits_start b t true whole fraction e some digits decimals =
    let is : b ≡ 45 = head_of b 45 t (whole ++ fraction_text fraction) e in
    (AfterMinus, rw is refl, (whole, fraction, record { parts = tail_of b 45 t (whole ++ fraction_text fraction) e; digits = digits; decimals = decimals }, some))
splits_start b t false [] fraction e some digits decimals = absurd (omega arith)
splits_start b t false (d ∷ ds) fraction e some digits decimals =
    let is : b ≡ d = head_of b d t (ds ++ fraction_text fraction) e in
    (InWhole, rw is (start_digit d digits.0), (ds, fraction, record { parts = tail_of b d t (ds ++ fraction_text fraction) e; digits = digits.1; decimals = decimals }))

-- the first byte after its minus
splits_minus : (b : ℕ) (t whole fraction : List ℕ) → IsUnsigned (b ∷ t) whole fraction → 0 < length whole → Splits AfterMinus b t
splits_minus b t [] fraction u some = absurd (omega arith)
splits_minus b t (d ∷ ds) fraction u some =
    let is : b ≡ d = head_of b d t (ds ++ fraction_text fraction) u.parts in
    (InWhole, rw is (minus_digit d u.digits.0), (ds, fraction, record { parts = tail_of b d t (ds ++ fraction_text fraction) u.parts; digits = u.digits.1; decimals = u.decimals }))

-- the first byte of its whole digits or after them
splits_whole : (b : ℕ) (t whole fraction : List ℕ) → IsUnsigned (b ∷ t) whole fraction → Splits InWhole b t
splits_whole b t [] [] u = let e : b ∷ t ≡ [] = u.parts in cc
splits_whole b t [] (d ∷ ds) u =
    let is : b ≡ 46 = head_of b 46 t (d ∷ ds) u.parts in
    let rest : t ≡ d ∷ ds = tail_of b 46 t (d ∷ ds) u.parts in
    (AfterPoint, rw is refl, rw rest (omega arith, u.decimals))
splits_whole b t (d ∷ ds) fraction u =
    let is : b ≡ d = head_of b d t (ds ++ fraction_text fraction) u.parts in
    (InWhole, rw is (whole_digit d u.digits.0), (ds, fraction, record { parts = tail_of b d t (ds ++ fraction_text fraction) u.parts; digits = u.digits.1; decimals = u.decimals }))

-- the first byte of a text that may follow at a position
pub splits : (p : Position) (b : ℕ) (t : List ℕ) → Rest p (b ∷ t) → Splits p b t
splits AtStart b t (number, w) = splits_start b t number.negative number.whole number.fraction w.parts w.nonempty w.whole w.fraction
splits AfterMinus b t (whole, fraction, u, some) = splits_minus b t whole fraction u some
splits InWhole b t (whole, fraction, u) = splits_whole b t whole fraction u
splits AfterPoint b t (some, digits) = (InFraction, point_digit b digits.0, digits.1)
splits InFraction b t digits = (InFraction, fraction_digit b digits.0, digits.1)

-- a number may end where may_end says, and nowhere else
pub ends : (p : Position) → may_end p ≡ true → Rest p []
ends AtStart e = cc
ends AfterMinus e = cc
ends InWhole e = ([], [], record { parts = refl; digits = tt; decimals = tt })
ends AfterPoint e = cc
ends InFraction e = tt

-- an empty text is no number
nothing_before : (negative : Bool) (whole fraction : List ℕ) → [] ≡ sign_text negative ++ whole ++ fraction_text fraction → 0 < length whole → ⊥
nothing_before true whole fraction e some = cc
nothing_before false [] fraction e some = omega arith
nothing_before false (d ∷ ds) fraction e some = cc

-- no number ends where none may end
pub ends_not : (p : Position) → may_end p ≡ false → Rest p [] → ⊥
ends_not AtStart e (number, w) = nothing_before number.negative number.whole number.fraction w.parts w.nonempty
ends_not AfterMinus e (whole, fraction, u, some) = nothing_before false whole fraction u.parts some
ends_not InWhole e rest = cc
ends_not AfterPoint e (some, digits) = omega arith
ends_not InFraction e rest = cc
