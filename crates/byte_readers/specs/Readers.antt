-- What a reader has to do with the bytes of values: what was written is read, and what is read was so written.
use Rattle.std.specs.Prelude.{◌≡◌, ℕ, ◌<◌, List, ◌++◌, Ok, slice_index}
use Rattle.byte_readers.specs.ByteReaders.{Reader}

-- each number is a byte
abbrev pub IsBytes : List ℕ → Type 0
IsBytes bytes = (i : ℕ) → slice_index bytes i < 256

-- bytes are a text, and the rest is bytes too
pub record Takes (bytes text rest : List ℕ) : Type 0 where
  pub parts : bytes ≡ text ++ rest
  pub rest_fits : IsBytes rest

-- A reader reads the values that fit, each from its bytes: whatever follows them, and no value from other bytes.
pub record IsReader {F A : Type 0} (fits : A → Type 0) (text : A → List ℕ) (read : Reader F A) : Type 0 where
  pub again : (x : A) (rest : List ℕ) → fits x → read (text x ++ rest) ≡ Ok (x, rest)
  pub takes : (bytes : List ℕ) (x : A) (rest : List ℕ) → IsBytes bytes → read bytes ≡ Ok (x, rest) → Takes bytes (text x) rest × fits x
