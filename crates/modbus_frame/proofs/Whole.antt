-- Bytes that begin with a whole response.
use Rattle.std.proofs.Common.{◌≡◌, ℕ, zero, suc, ◌+◌, ◌*◌, ◌^◌, ◌<◌, ◌≤◌, List, [], ◌++◌, length, take, drop, refl, ap, ap₂, sym, ◌∙◌, subst, arith, lit<, lit≤, length-drop, append_assoc}
use Rattle.std.specs.Int.{w16, to_be_bytes}
use Rattle.std.specs.List.{flat_map}
use Rattle.std.proofs.lemmas.List.{drop-drop, take-append-drop}
use Rattle.modbus_frame.specs.declared.expect.Expect.{Expect}
use Rattle.modbus_frame.specs.Frames.{BeginsWith, IsWords, length_given, registers_of}
use Rattle.modbus_frame.specs.Fields.{byte_at, number_at, words_of}
use Rattle.modbus_frame.specs.Requests.{IsExpect}
use Rattle.modbus_frame.specs.Responses.{exception_response}
use Rattle.modbus_frame.proofs.Agreeing.{AgreeTo, exception-fields, words-fields}
use Rattle.modbus_frame.proofs.Fronts.{AreBytes, AreBytes-drop, HasFields, number-bytes, same-front}
use Rattle.modbus_frame.proofs.Shapes.{exception_response-is, length-registers, length-response_of, response_of, response_of-length, words_response-is}
use Rattle.modbus_frame.proofs.Words.{length-words_of}

-- two bytes more for one register more
two-more : (count : ℕ) → 2 + 2 * count ≡ 2 * suc count
two-more count = omega arith

-- the bytes of the registers that bytes begin with, and what is left
words-bytes : (count : ℕ) (bytes : List ℕ) → AreBytes bytes → 2 * count ≤ length bytes →
    flat_map (to_be_bytes w16) (words_of count bytes) ++ drop (2 * count) bytes ≡ bytes
words-bytes zero bytes small there = refl
words-bytes (suc count) bytes small there =
    let first : take 2 bytes ≡ to_be_bytes w16 (number_at 0 bytes) = number-bytes (number_at 0 bytes) bytes small (omega arith) refl in
    let left : 2 * count ≤ length (drop 2 bytes) = omega (arith, length-drop 2 bytes) in
    let others = words-bytes count (drop 2 bytes) (AreBytes-drop 2 bytes small) left in
    let over : drop (2 * count) (drop 2 bytes) ≡ drop (2 * suc count) bytes = drop-drop (2 * count) 2 bytes ∙ ap (λ n. drop n bytes) (two-more count) in
    let words : List ℕ = flat_map (to_be_bytes w16) (words_of count (drop 2 bytes)) in
    ap₂ (λ a b. a ++ (words ++ b)) (sym first) (sym over) ∙ ap (λ l. take 2 bytes ++ l) others ∙ take-append-drop 2 bytes

-- bytes with the fields of a response begin with it
begins : (expect : Expect) (bytes : List ℕ) (size function ninth : ℕ) (rest others : List ℕ) → AreBytes bytes → 9 ≤ length bytes → size < 2 ^ 16 → 3 + length rest ≡ size →
    HasFields expect bytes size function ninth 6 → drop 9 bytes ≡ rest ++ others →
    BeginsWith (response_of expect size function ninth rest) bytes (6 + length_given bytes)
begins expect bytes size function ninth rest others small there fits long fields left =
    let response : List ℕ = response_of expect size function ninth rest in
    let front : take 9 response ≡ take 9 bytes = same-front expect bytes size function ninth rest 6 small (lit≤ tt) there fields in
    let whole : bytes ≡ take 9 response ++ (rest ++ others) = sym (take-append-drop 9 bytes) ∙ ap₂ (λ a b. a ++ b) (sym front) left in
    let given : number_at 4 bytes ≡ size = fields.length_is (lit≤ tt) in
    record {
      rest = others;
      split = whole ∙ sym (append_assoc (take 9 response) rest others);
      used_is = omega (arith, response_of-length expect size function ninth rest fits long, length-response_of expect size function ninth rest fits, given);
    }

-- bytes begin with a whole response with an exception code
pub begins-exception : (expect : Expect) (bytes : List ℕ) → IsExpect expect → AreBytes bytes → 9 ≤ length bytes → length_given bytes ≡ 3 → AgreeTo expect bytes 6 →
    BeginsWith (exception_response expect (byte_at 8 bytes)) bytes (6 + length_given bytes)
begins-exception expect bytes asked small there given agree =
    let fields = exception-fields expect bytes 6 asked given agree in
    let Begins : List ℕ → Type 0 = λ response. BeginsWith response bytes (6 + length_given bytes) in
    subst Begins (sym (exception_response-is expect (byte_at 8 bytes)))
    (begins expect bytes 3 (expect.function + 128) (byte_at 8 bytes) [] (drop 9 bytes) small there (lit< tt) refl fields refl)

-- bytes begin with a whole response with registers
pub begins-words : (expect : Expect) (bytes : List ℕ) → IsExpect expect → AreBytes bytes → 9 + 2 * expect.quantity ≤ length bytes →
    length_given bytes ≡ 3 + 2 * expect.quantity → AgreeTo expect bytes 6 →
    IsWords expect bytes (registers_of (words_of expect.quantity (drop 9 bytes))) (6 + length_given bytes)
begins-words expect bytes asked small there given agree =
    let words : List ℕ = words_of expect.quantity (drop 9 bytes) in
    let rest : List ℕ = flat_map (to_be_bytes w16) words in
    let enough : 2 * expect.quantity ≤ length (drop 9 bytes) = omega (arith, length-drop 9 bytes) in
    let left = words-bytes expect.quantity (drop 9 bytes) (AreBytes-drop 9 bytes small) enough in
    let fields = words-fields expect bytes 6 asked (λ three. omega arith) agree in
    let long : 3 + length rest ≡ 3 + 2 * expect.quantity = omega (arith, length-registers words, length-words_of expect.quantity (drop 9 bytes)) in
    let Begins : List ℕ → Type 0 = λ response. BeginsWith response bytes (6 + length_given bytes) in
    record {
      words = words;
      count = length-words_of expect.quantity (drop 9 bytes);
      registers_are = refl;
      begins = subst Begins (sym (words_response-is expect words))
          (begins expect bytes (3 + 2 * expect.quantity) expect.function (2 * expect.quantity) rest (drop (2 * expect.quantity) (drop 9 bytes))
          small (omega arith) (omega arith) long fields (sym left));
    }
