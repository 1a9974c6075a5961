-- The first bytes by the fields that they are.
use Rattle.std.proofs.Common.{◌≡◌, ℕ, zero, suc, ◌+◌, ◌<◌, ◌≤◌, List, [], ◌∷◌, ◌++◌, length, take, drop, get_or, refl, ap₂, sym, ◌∙◌, arith, inl, inr, length-drop, length-take, lit<, lit≤}
use Rattle.std.specs.Int.{w16, to_be_bytes}
use Rattle.std.proofs.Math.Seq.{take-add}
use Rattle.std.proofs.lemmas.Bool.{cases_order}
use Rattle.std.proofs.lemmas.List.{get_or-drop, get_or-take, get_or_past, length-take-le, take_more}
use Rattle.std.proofs.lemmas.Nat.{be_bytes_2}
use Rattle.modbus_frame.specs.declared.expect.Expect.{Expect}
use Rattle.modbus_frame.specs.Frames.{field_end}
use Rattle.modbus_frame.specs.Fields.{byte_at, number_at}
use Rattle.modbus_frame.proofs.Shapes.{response_of}

-- numbers of a list are bytes
pub record AreBytes (bytes : List ℕ) : Type 0 where
  pub at : (i : ℕ) → get_or bytes i 0 < 256

-- what is left of bytes are bytes
pub AreBytes-drop : (count : ℕ) (bytes : List ℕ) → AreBytes bytes → AreBytes (drop count bytes)
AreBytes-drop count bytes small = record { at = λ i. rw get_or-drop (small.at (count + i)) }

-- what is read past the first of bytes, 0, is a byte
byte-past : (count i : ℕ) (bytes : List ℕ) → count ≤ i → get_or (take count bytes) i 0 < 256
byte-past count i bytes beyond =
    let past : length (take count bytes) ≤ i = omega (arith, length-take count bytes) in
    rw get_or_past (lit< tt)

-- the first of bytes are bytes
AreBytes-take : (count : ℕ) (bytes : List ℕ) → AreBytes bytes → AreBytes (take count bytes)
AreBytes-take count bytes small = record {
  at = λ i. elim (cases_order i count) [
    | inl end ↦ byte-past count i bytes (omega arith)
    | inr (inl within) ↦ rw get_or-take (small.at i)
    | inr (inr beyond) ↦ byte-past count i bytes (omega arith)
  ];
}

-- a number's two bytes
pub number-bytes : (number : ℕ) (bytes : List ℕ) → AreBytes bytes → 2 ≤ length bytes → number_at 0 bytes ≡ number → take 2 bytes ≡ to_be_bytes w16 number
number-bytes number bytes small there is =
    sym (be_bytes_2 (take 2 bytes) number (length-take-le 2 bytes there) (λ i. (AreBytes-take 2 bytes small).at i) (sym is))

-- a number after the bytes at the front
front-number : (offset number : ℕ) (bytes front : List ℕ) → AreBytes bytes → offset + 2 ≤ length bytes → front ≡ take offset bytes → number_at offset bytes ≡ number →
    front ++ to_be_bytes w16 number ≡ take (offset + 2) bytes
front-number offset number bytes front small there before is =
    let next = number-bytes number (drop offset bytes) (AreBytes-drop offset bytes small) (omega (arith, length-drop offset bytes)) is in
    ap₂ (λ a b. a ++ b) before (sym next) ∙ sym (take-add offset 2 bytes)

-- a byte after the bytes at the front
front-byte : (offset byte : ℕ) (bytes front : List ℕ) → offset < length bytes → front ≡ take offset bytes → byte_at offset bytes ≡ byte → front ++ byte ∷ [] ≡ take (offset + 1) bytes
front-byte offset byte bytes front there before is = ap₂ (λ a b. a ++ b ∷ []) before (sym is) ∙ sym (take_more bytes offset 0 there)

-- the fields of bytes up to one, where they agree
pub record HasFields (expect : Expect) (bytes : List ℕ) (size function ninth field : ℕ) : Type 0 where
  pub transaction_is : 1 ≤ field → number_at 0 bytes ≡ expect.transaction
  pub protocol_is : 2 ≤ field → number_at 2 bytes ≡ 0
  pub length_is : 3 ≤ field → number_at 4 bytes ≡ size
  pub unit_is : 4 ≤ field → byte_at 6 bytes ≡ expect.unit
  pub function_is : 5 ≤ field → byte_at 7 bytes ≡ function
  pub ninth_is : 6 ≤ field → byte_at 8 bytes ≡ ninth

-- the same up to the field before
fewer-fields : (expect : Expect) (bytes : List ℕ) (size function ninth field : ℕ) → HasFields expect bytes size function ninth (suc field) →
    HasFields expect bytes size function ninth field
fewer-fields expect bytes size function ninth field all = record {
  transaction_is = λ h. all.transaction_is (omega arith);
  protocol_is = λ h. all.protocol_is (omega arith);
  length_is = λ h. all.length_is (omega arith);
  unit_is = λ h. all.unit_is (omega arith);
  function_is = λ h. all.function_is (omega arith);
  ninth_is = λ h. all.ninth_is (omega arith);
}

-- up to a field that ends within bytes, a response with the same fields has the same bytes
pub same-front : (expect : Expect) (bytes : List ℕ) (size function ninth : ℕ) (rest : List ℕ) (field : ℕ) → AreBytes bytes → field ≤ 6 → field_end field ≤ length bytes →
    HasFields expect bytes size function ninth field →
    take (field_end field) (response_of expect size function ninth rest) ≡ take (field_end field) bytes
same-front expect bytes size function ninth rest zero small last whole fields = refl
same-front expect bytes size function ninth rest (suc zero) small last whole fields =
    front-number 0 expect.transaction bytes [] small whole refl (fields.transaction_is (lit≤ tt))
same-front expect bytes size function ninth rest (suc (suc zero)) small last whole fields =
    let before = same-front expect bytes size function ninth rest (suc zero) small (lit≤ tt) (omega arith) (fewer-fields expect bytes size function ninth 1 fields) in
    front-number 2 0 bytes (take 2 (response_of expect size function ninth rest)) small whole before (fields.protocol_is (lit≤ tt))
same-front expect bytes size function ninth rest (suc (suc (suc zero))) small last whole fields =
    let before = same-front expect bytes size function ninth rest (suc (suc zero)) small (lit≤ tt) (omega arith) (fewer-fields expect bytes size function ninth 2 fields) in
    front-number 4 size bytes (take 4 (response_of expect size function ninth rest)) small whole before (fields.length_is (lit≤ tt))
same-front expect bytes size function ninth rest (suc (suc (suc (suc zero)))) small last whole fields =
    let before = same-front expect bytes size function ninth rest (suc (suc (suc zero))) small (lit≤ tt) (omega arith) (fewer-fields expect bytes size function ninth 3 fields) in
    front-byte 6 expect.unit bytes (take 6 (response_of expect size function ninth rest)) whole before (fields.unit_is (lit≤ tt))
same-front expect bytes size function ninth rest (suc (suc (suc (suc (suc zero))))) small last whole fields =
    let before = same-front expect bytes size function ninth rest (suc (suc (suc (suc zero)))) small (lit≤ tt) (omega arith) (fewer-fields expect bytes size function ninth 4 fields) in
    front-byte 7 function bytes (take 7 (response_of expect size function ninth rest)) whole before (fields.function_is (lit≤ tt))
same-front expect bytes size function ninth rest (suc (suc (suc (suc (suc (suc zero)))))) small last whole fields =
    let before = same-front expect bytes size function ninth rest (suc (suc (suc (suc (suc zero))))) small (lit≤ tt) (omega arith) (fewer-fields expect bytes size function ninth 5 fields) in
    front-byte 8 ninth bytes (take 8 (response_of expect size function ninth rest)) whole before (fields.ninth_is (lit≤ tt))
same-front expect bytes size function ninth rest (suc (suc (suc (suc (suc (suc (suc field))))))) small last whole fields = absurd (omega arith)
