-- The first byte that makes a number too great.
use Rattle.std.proofs.Common.{◌≡◌, ℕ, zero, suc, ◌+◌, ◌*◌, ◌^◌, ◌<◌, ◌≤◌, List, [], ◌∷◌, ◌++◌, length, replicate, get_or, Option, Some, None, refl, sym, ap, ap₂, ◌∙◌, arith, inl, inr}
use Rattle.std.specs.Int.{w64, from_be_bytes, to_be_bytes}
use Rattle.std.proofs.Math.Nat.{mul-le-mul_right, pow-suc}
use Rattle.std.proofs.lemmas.Bool.{cases_lt, lt-ltb, le-ltb, eq-eqb}
use Rattle.std.proofs.lemmas.Bool.Decides.{nat_tests}
use Rattle.std.proofs.lemmas.Nat.{from_be_bytes-to_be_bytes_8}
use Rattle.farm_history.specs.Decoding.{first_above}

-- where no byte follows none is too great
pub first_above-nil : (mosts : List ℕ) → first_above mosts [] ≡ None
first_above-nil [] = refl
first_above-nil (most ∷ mosts) = refl

-- a byte below, one that is the same, one above
at_lower : (most byte : ℕ) (mosts bytes : List ℕ) → byte < most → first_above (most ∷ mosts) (byte ∷ bytes) ≡ None
at_lower most byte mosts bytes lower = rw (lt-ltb byte most lower) refl

-- a byte that is the same as its greatest: the next one decides
at_same : (most byte : ℕ) (mosts bytes : List ℕ) → byte ≡ most → first_above (most ∷ mosts) (byte ∷ bytes) ≡ first_above mosts bytes
at_same most byte mosts bytes same = rw (le-ltb byte most (omega arith), eq-eqb byte most same) refl

-- a byte above its greatest: it is the first above
at_higher : (most byte : ℕ) (mosts bytes : List ℕ) → most < byte → first_above (most ∷ mosts) (byte ∷ bytes) ≡ Some (length (byte ∷ bytes))
at_higher most byte mosts bytes higher = grind (arith, nat_tests)

-- what holds of a byte below, of the same and of one above
by_byte : (P : Type 0) (most byte : ℕ) → (byte < most → P) → (byte ≡ most → P) → (most < byte → P) → P
by_byte P most byte lower same higher =
    elim (cases_lt byte most) [
      | inl lt ↦ lower lt
      | inr le ↦ elim (cases_lt most byte) [ inl gt ↦ higher gt | inr ge ↦ same (omega arith) ]
    ]

-- something isn't nothing
pub some_none : (option : Option ℕ) (left : ℕ) → option ≡ None → option ≡ Some left → ⊥
some_none option left none some = absurd (cc (none, some))

-- zeros are never too great
zeros_none : (mosts : List ℕ) (k : ℕ) → first_above mosts (replicate k 0) ≡ None
zeros_none [] k = refl
zeros_none (most ∷ mosts) zero = refl
zeros_none (zero ∷ mosts) (suc k) = at_same 0 0 mosts (replicate k 0) refl ∙ zeros_none mosts k
zeros_none (suc most ∷ mosts) (suc k) = at_lower (suc most) 0 mosts (replicate k 0) (omega arith)

-- bytes of which none is too great can be continued by zeros
pub none_with_zeros : (mosts bytes : List ℕ) (k : ℕ) → first_above mosts bytes ≡ None → first_above mosts (bytes ++ replicate k 0) ≡ None
none_with_zeros [] bytes k none = refl
none_with_zeros (most ∷ mosts) [] k none = zeros_none (most ∷ mosts) k
none_with_zeros (most ∷ mosts) (byte ∷ bytes) k none =
    by_byte (first_above (most ∷ mosts) (byte ∷ bytes ++ replicate k 0) ≡ None) most byte
    (λ lower. at_lower most byte mosts (bytes ++ replicate k 0) lower)
    (λ same. at_same most byte mosts (bytes ++ replicate k 0) same ∙ none_with_zeros mosts bytes k (sym (at_same most byte mosts bytes same) ∙ none))
    (λ higher. absurd (some_none _ _ none (at_higher most byte mosts bytes higher)))

-- what follows as many bytes as the greatest number has doesn't matter
pub none_with_rest : (mosts bytes rest : List ℕ) → length mosts ≡ length bytes → first_above mosts bytes ≡ None → first_above mosts (bytes ++ rest) ≡ None
none_with_rest [] bytes rest len none = refl
none_with_rest (most ∷ mosts) [] rest len none = absurd (omega (arith, len))
none_with_rest (most ∷ mosts) (byte ∷ bytes) rest len none =
    by_byte (first_above (most ∷ mosts) (byte ∷ bytes ++ rest) ≡ None) most byte
    (λ lower. at_lower most byte mosts (bytes ++ rest) lower)
    (λ same. at_same most byte mosts (bytes ++ rest) same ∙ none_with_rest mosts bytes rest (omega (arith, len)) (sym (at_same most byte mosts bytes same) ∙ none))
    (λ higher. absurd (some_none _ _ none (at_higher most byte mosts bytes higher)))

-- nor for a prefix of bytes
pub none_of_front : (mosts bytes rest : List ℕ) → first_above mosts (bytes ++ rest) ≡ None → first_above mosts bytes ≡ None
none_of_front [] bytes rest none = refl
none_of_front (most ∷ mosts) [] rest none = refl
none_of_front (most ∷ mosts) (byte ∷ bytes) rest none =
    by_byte (first_above (most ∷ mosts) (byte ∷ bytes) ≡ None) most byte
    (λ lower. at_lower most byte mosts bytes lower)
    (λ same. at_same most byte mosts bytes same ∙ none_of_front mosts bytes rest (sym (at_same most byte mosts (bytes ++ rest) same) ∙ none))
    (λ higher. absurd (some_none _ _ none (at_higher most byte mosts (bytes ++ rest) higher)))

-- A byte is too great: the bytes before it are those of the greatest number, and it is too great whatever follows.
pub record IsAbove (mosts bytes : List ℕ) (left : ℕ) : Type 0 where
  pub front : List ℕ
  pub byte : ℕ
  pub after : List ℕ
  pub parts : bytes ≡ front ++ byte ∷ after
  pub left_is : length (byte ∷ after) ≡ left
  pub tail : List ℕ
  pub begins : mosts ≡ front ++ tail
  pub within : length front < length mosts
  pub always : (further : List ℕ) → first_above mosts (front ++ byte ∷ further) ≡ Some (length (byte ∷ further))

-- the same place, if there is one
some_is : (x y : ℕ) → Some x ≡ Some y → x ≡ y
some_is x y e = cc

-- with the same byte in front of both the same byte is too great
above_after_same : (most byte : ℕ) (mosts bytes : List ℕ) (left : ℕ) → byte ≡ most → IsAbove mosts bytes left → IsAbove (most ∷ mosts) (byte ∷ bytes) left
above_after_same most byte mosts bytes left same w = record {
  front = byte ∷ w.front;
  byte = w.byte;
  after = w.after;
  parts = ap (λ t. byte ∷ t) w.parts;
  left_is = w.left_is;
  tail = w.tail;
  begins = ap₂ (λ b t. b ∷ t) (sym same) w.begins;
  within = omega (arith, w.within);
  always = λ further. at_same most byte mosts (w.front ++ w.byte ∷ further) same ∙ w.always further;
}

-- the byte that is found is too great
pub above_found : (mosts bytes : List ℕ) (left : ℕ) → first_above mosts bytes ≡ Some left → IsAbove mosts bytes left
above_found [] bytes left found = absurd (cc found)
above_found (most ∷ mosts) [] left found = absurd (cc found)
above_found (most ∷ mosts) (byte ∷ bytes) left found =
    by_byte (IsAbove (most ∷ mosts) (byte ∷ bytes) left) most byte
    (λ lower. absurd (some_none _ _ (at_lower most byte mosts bytes lower) found))
    (λ same. above_after_same most byte mosts bytes left same (above_found mosts bytes left (sym (at_same most byte mosts bytes same) ∙ found)))
    (λ higher. record {
      front = [];
      byte = byte;
      after = bytes;
      parts = refl;
      left_is = some_is (length (byte ∷ bytes)) left (sym (at_higher most byte mosts bytes higher) ∙ found);
      tail = most ∷ mosts;
      begins = refl;
      within = omega arith;
      always = λ further. at_higher most byte mosts further higher;
    })

-- The numbers of bytes.

-- the number of bytes, high byte first
pub value_of : List ℕ → ℕ
value_of [] = 0
value_of (byte ∷ bytes) = byte * 256 ^ length bytes + value_of bytes

-- the number of these bytes is below the power of 256 with as many factors
value_below : (bytes : List ℕ) → ((i : ℕ) → get_or bytes i 0 < 256) → value_of bytes < 256 ^ length bytes
unfolding value_of
value_below [] fits = omega arith
value_below (byte ∷ bytes) fits =
    let scale = 256 ^ length bytes in
    let rest = value_below bytes (λ i. fits (suc i)) in
    let first = mul-le-mul_right scale (let low = fits 0 in let most : byte ≤ 255 = omega arith in most) in
    let power = pow-suc 256 (length bytes) in
    omega (arith, rest, first, power)

-- a number whose first byte is lower is lower
lower_first : (m b x y scale : ℕ) → b < m → x < scale → b * scale + x ≤ m * scale + y
lower_first m b x y scale lower below =
    let products = mul-le-mul_right scale (let most : b + 1 ≤ m = omega arith in most) in
    omega (arith, products)

-- where no byte is too great the number isn't
pub none_le : (mosts bytes : List ℕ) → ((i : ℕ) → get_or bytes i 0 < 256) → length mosts ≡ length bytes → first_above mosts bytes ≡ None → value_of bytes ≤ value_of mosts
unfolding value_of
none_le [] [] fits len none = omega arith
none_le [] (byte ∷ bytes) fits len none = absurd (omega (arith, len))
none_le (most ∷ mosts) [] fits len none = omega arith
none_le (most ∷ mosts) (byte ∷ bytes) fits len none =
    let scales : 256 ^ length mosts ≡ 256 ^ length bytes = ap (λ n. 256 ^ n) (let shorter : length mosts ≡ length bytes = omega (arith, len) in shorter) in
    let whole : most * 256 ^ length mosts ≡ most * 256 ^ length bytes = ap (λ n. most * n) scales in
    by_byte (value_of (byte ∷ bytes) ≤ value_of (most ∷ mosts)) most byte
    (λ lower. omega (arith, whole, lower_first most byte (value_of bytes) (value_of mosts) (256 ^ length bytes) lower (value_below bytes (λ i. fits (suc i)))))
    (λ same.
    let rest = none_le mosts bytes (λ i. fits (suc i)) (omega (arith, len)) (sym (at_same most byte mosts bytes same) ∙ none) in
    let first : byte * 256 ^ length bytes ≡ most * 256 ^ length bytes = ap (λ n. n * 256 ^ length bytes) same in
    omega (arith, whole, first, rest))
    (λ higher. absurd (some_none _ _ none (at_higher most byte mosts bytes higher)))

-- a number whose first byte is higher is higher
higher_first : (m b x y scale : ℕ) → m < b → y < scale → b * scale + x ≤ m * scale + y → ⊥
higher_first m b x y scale higher below le =
    let products = mul-le-mul_right scale (let most : m + 1 ≤ b = omega arith in most) in
    absurd (omega (arith, products))

-- where the number isn't too great no byte is
pub le_none : (mosts bytes : List ℕ) → ((i : ℕ) → get_or mosts i 0 < 256) → length mosts ≡ length bytes → value_of bytes ≤ value_of mosts → first_above mosts bytes ≡ None
unfolding value_of
le_none [] bytes fits len le = refl
le_none (most ∷ mosts) [] fits len le = refl
le_none (most ∷ mosts) (byte ∷ bytes) fits len le =
    let scales : 256 ^ length mosts ≡ 256 ^ length bytes = ap (λ n. 256 ^ n) (let shorter : length mosts ≡ length bytes = omega (arith, len) in shorter) in
    let whole : byte * 256 ^ length mosts ≡ byte * 256 ^ length bytes = ap (λ n. byte * n) scales in
    by_byte (first_above (most ∷ mosts) (byte ∷ bytes) ≡ None) most byte
    (λ lower. at_lower most byte mosts bytes lower)
    (λ same.
    let first : byte * 256 ^ length mosts ≡ most * 256 ^ length mosts = ap (λ n. n * 256 ^ length mosts) same in
    at_same most byte mosts bytes same ∙ le_none mosts bytes (λ i. fits (suc i)) (omega (arith, len)) (omega (arith, le, whole, first)))
    (λ higher. absurd (higher_first most byte (value_of bytes) (value_of mosts) (256 ^ length mosts) higher (value_below mosts (λ i. fits (suc i))) (omega (arith, le, whole))))

-- the number of eight bytes
pub value_of_eight : (bytes : List ℕ) → length bytes ≡ 8 → from_be_bytes w64 bytes ≡ value_of bytes
unfolding value_of
value_of_eight (a ∷ b ∷ c ∷ d ∷ e ∷ f ∷ g ∷ h ∷ []) len = omega arith
value_of_eight bytes len = absurd (omega (arith, len))

-- the number of a number's bytes
pub value_of-to_be_bytes : (n : ℕ) → n < 2 ^ 64 → value_of (to_be_bytes w64 n) ≡ n
value_of-to_be_bytes n below = sym (value_of_eight (to_be_bytes w64 n) refl) ∙ from_be_bytes-to_be_bytes_8 n below
