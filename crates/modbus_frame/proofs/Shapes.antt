-- What the good responses have in common: a header, a function, a ninth byte, and the rest.
use Rattle.std.proofs.Common.{◌≡◌, ℕ, zero, suc, ◌+◌, ◌*◌, ◌^◌, ◌<◌, ◌≤◌, false, List, [], ◌∷◌, ◌++◌, length, refl, ap, sym, ◌∙◌, subst, arith, inl, inr, lit<}
use Rattle.std.specs.Prelude.{◌==◌, not}
use Rattle.std.specs.Int.{w16, to_be_bytes}
use Rattle.std.specs.List.{flat_map}
use Rattle.std.proofs.lemmas.Bool.{eq-eqb}
use Rattle.std.proofs.lemmas.Nat.{from_be_bytes-to_be_bytes_2}
use Rattle.modbus_frame.specs.declared.expect.Expect.{Expect}
use Rattle.modbus_frame.specs.Frames.{Agrees}
use Rattle.modbus_frame.specs.Fields.{is_wrong_count, is_wrong_function, is_wrong_length, number_at}
use Rattle.modbus_frame.specs.Requests.{IsExpect, header}
use Rattle.modbus_frame.specs.Responses.{IsGoodResponse, exception_response, words_response}
use Rattle.modbus_frame.proofs.Fields.{disagrees, disagrees-take}
use Rattle.modbus_frame.proofs.Due.{exception_count, exception_function, words_count, words_function, words_length}

-- a response by its length, its function, its ninth byte and the rest
abbrev pub response_of : Expect → ℕ → ℕ → ℕ → List ℕ → List ℕ
response_of expect size function ninth rest = header expect size ++ function ∷ ninth ∷ rest

-- a response with registers is such a one
pub words_response-is : (expect : Expect) (words : List ℕ) →
    words_response expect words ≡ response_of expect (3 + 2 * expect.quantity) expect.function (2 * expect.quantity) (flat_map (to_be_bytes w16) words)
unfolding words_response
words_response-is expect words = refl

-- so is a response with an exception code
pub exception_response-is : (expect : Expect) (code : ℕ) → exception_response expect code ≡ response_of expect 3 (expect.function + 128) code []
unfolding exception_response
exception_response-is expect code = refl

-- the length that such a response gives
pub length-response_of : (expect : Expect) (size function ninth : ℕ) (rest : List ℕ) → size < 2 ^ 16 → number_at 4 (response_of expect size function ninth rest) ≡ size
length-response_of expect size function ninth rest fits = from_be_bytes-to_be_bytes_2 size fits

-- a number is expected by itself
due : (number : ℕ) → not (number == number) ≡ false
due number = ap not (eq-eqb number number refl)

-- each field of such a response agrees, if its length, its function and its ninth byte are the expected ones
response_of-agrees : (expect : Expect) (size function ninth : ℕ) (rest : List ℕ) → expect.transaction < 2 ^ 16 → size < 2 ^ 16 →
    is_wrong_length expect size ≡ false → is_wrong_function expect size function ≡ false → is_wrong_count expect function ninth ≡ false →
    (field : ℕ) → field ≤ 6 → disagrees field expect (response_of expect size function ninth rest) ≡ false
response_of-agrees expect size function ninth rest fits small long asked counted zero last = refl
response_of-agrees expect size function ninth rest fits small long asked counted (suc zero) last =
    ap (λ n. not (n == expect.transaction)) (from_be_bytes-to_be_bytes_2 expect.transaction fits) ∙ due expect.transaction
response_of-agrees expect size function ninth rest fits small long asked counted (suc (suc zero)) last = refl
response_of-agrees expect size function ninth rest fits small long asked counted (suc (suc (suc zero))) last =
    ap (is_wrong_length expect) (length-response_of expect size function ninth rest small) ∙ long
response_of-agrees expect size function ninth rest fits small long asked counted (suc (suc (suc (suc zero)))) last = due expect.unit
response_of-agrees expect size function ninth rest fits small long asked counted (suc (suc (suc (suc (suc zero))))) last =
    ap (λ n. is_wrong_function expect n function) (length-response_of expect size function ninth rest small) ∙ asked
response_of-agrees expect size function ninth rest fits small long asked counted (suc (suc (suc (suc (suc (suc zero)))))) last = counted
response_of-agrees expect size function ninth rest fits small long asked counted (suc (suc (suc (suc (suc (suc (suc field))))))) last = absurd (omega arith)

-- each field of a good response agrees
pub good-agrees : (expect : Expect) (response : List ℕ) (field : ℕ) → IsExpect expect → expect.transaction < 2 ^ 16 → field ≤ 6 → IsGoodResponse expect response →
    disagrees field expect response ≡ false
good-agrees expect response field asked fits last (inl words) =
    let size : ℕ = 3 + 2 * expect.quantity in
    let rest : List ℕ = flat_map (to_be_bytes w16) words.words in
    ap (disagrees field expect) (words.is ∙ words_response-is expect words.words)
    ∙ response_of-agrees expect size expect.function (2 * expect.quantity) rest fits (omega arith)
    (words_length expect) (words_function expect) (words_count expect) field last
good-agrees expect response field asked fits last (inr exception) =
    ap (disagrees field expect) (exception.is ∙ exception_response-is expect exception.code)
    ∙ response_of-agrees expect 3 (expect.function + 128) exception.code [] fits (lit< tt)
    refl (exception_function expect) (exception_count expect exception.code) field last

-- registers take two bytes each
pub length-registers : (words : List ℕ) → length (flat_map (to_be_bytes w16) words) ≡ 2 * length words
length-registers [] = refl
length-registers (word ∷ words) = omega (arith, length-registers words)

-- such a response is as long as its length says, and has nine bytes
pub response_of-length : (expect : Expect) (size function ninth : ℕ) (rest : List ℕ) → size < 2 ^ 16 → 3 + length rest ≡ size →
    (length (response_of expect size function ninth rest) ≡ 6 + number_at 4 (response_of expect size function ninth rest))
    × (9 ≤ length (response_of expect size function ninth rest))
response_of-length expect size function ninth rest small long =
    (omega (arith, length-response_of expect size function ninth rest small), omega arith)

-- a good response is as long as its length says, and has nine bytes
pub good-length : (expect : Expect) (response : List ℕ) → IsExpect expect → IsGoodResponse expect response →
    (length response ≡ 6 + number_at 4 response) × (9 ≤ length response)
good-length expect response asked (inl words) =
    let is = words.is ∙ words_response-is expect words.words in
    let rest : List ℕ = flat_map (to_be_bytes w16) words.words in
    let long : 3 + length rest ≡ 3 + 2 * expect.quantity = omega (arith, length-registers words.words, words.count) in
    let Fits : List ℕ → Type 0 = λ r. (length r ≡ 6 + number_at 4 r) × (9 ≤ length r) in
    subst Fits (sym is) (response_of-length expect (3 + 2 * expect.quantity) expect.function (2 * expect.quantity) rest (omega arith) long)
good-length expect response asked (inr exception) =
    let is = exception.is ∙ exception_response-is expect exception.code in
    let Fits : List ℕ → Type 0 = λ r. (length r ≡ 6 + number_at 4 r) × (9 ≤ length r) in
    subst Fits (sym is) (response_of-length expect 3 (expect.function + 128) exception.code [] (lit< tt) refl)

-- bytes with which a good response agrees up to a field have no wrong field there
pub agrees-right : (expect : Expect) (bytes : List ℕ) (field : ℕ) → IsExpect expect → expect.transaction < 2 ^ 16 → field ≤ 6 → Agrees expect bytes field →
    disagrees field expect bytes ≡ false
agrees-right expect bytes field asked fits last agrees =
    sym (disagrees-take field expect bytes last)
    ∙ ap (disagrees field expect) (sym agrees.same)
    ∙ disagrees-take field expect agrees.response last
    ∙ good-agrees expect agrees.response field asked fits last agrees.good
