-- The good responses to a request, as a set: those with registers, and those with an exception code.
use Rattle.std.specs.Prelude.{◌≡◌, ◌⊎◌, ℕ, ◌+◌, ◌*◌, ◌<◌, ◌^◌, All, List, [], ◌∷◌, ◌++◌, length}
use Rattle.std.specs.Int.{w16, to_be_bytes}
use Rattle.std.specs.List.{flat_map}
use Rattle.modbus_frame.specs.declared.expect.Expect.{Expect}
use Rattle.modbus_frame.specs.Limits.{exception_bit, exception_length}
use Rattle.modbus_frame.specs.Requests.{header}

-- the response with these registers: the header, the function, the number of bytes of the registers, and the registers
unfoldable pub words_response : Expect → List ℕ → List ℕ
words_response expect words =
    header expect (3 + 2 * expect.quantity) ++ expect.function ∷ 2 * expect.quantity ∷ flat_map (to_be_bytes w16) words

-- the response with this exception code: the header, the function with its highest bit set, and the code
unfoldable pub exception_response : Expect → ℕ → List ℕ
exception_response expect code = header expect exception_length ++ (expect.function + exception_bit) ∷ code ∷ []

-- bytes are a response with as many registers as were asked for, of any values
pub record IsWordsResponse (expect : Expect) (bytes : List ℕ) : Type 0 where
  pub words : List ℕ
  pub count : length words ≡ expect.quantity
  pub registers : All (λ word. word < 2 ^ 16) words
  pub is : bytes ≡ words_response expect words

-- bytes are a response with an exception code of any value
pub record IsExceptionResponse (expect : Expect) (bytes : List ℕ) : Type 0 where
  pub code : ℕ
  pub byte : code < 2 ^ 8
  pub is : bytes ≡ exception_response expect code

-- bytes are a good response
abbrev pub IsGoodResponse : Expect → List ℕ → Type 0
IsGoodResponse expect bytes = IsWordsResponse expect bytes ⊎ IsExceptionResponse expect bytes
