-- What bytes are as a response, in the words of the rule.
use Rattle.std.specs.Prelude.{◌≡◌, ℕ, ◌+◌, ◌-◌, ◌<◌, ◌≤◌, nat_lt, if◌then◌else◌, List, [], ◌∷◌, ◌++◌, length, take, drop, replicate, slice_index_or}
use Rattle.std.specs.Int.{from_be_bytes, w16}
use Rattle.modbus_frame.specs.declared.expect.Expect.{Expect}
use Rattle.modbus_frame.specs.declared.frame.Frame.{Frame}
use Rattle.modbus_frame.specs.declared.frame.Frame.TheVariants.{Need, Words, Exception, Wrong}
use Rattle.modbus_frame.specs.declared.frame.Registers.{Registers}
use Rattle.modbus_frame.specs.Responses.{IsGoodResponse, exception_response, words_response}
use Rattle.modbus_frame.specs.Limits.{most_quantity}

-- how many bytes a frame has up to the end of a field: 1 the transaction, 2 the protocol, 3 the length, 4 the unit, 5 the function and
-- 6 the byte count
abbrev pub field_end : ℕ → ℕ
field_end field = slice_index_or (0 ∷ 2 ∷ 4 ∷ 6 ∷ 7 ∷ 8 ∷ 9 ∷ []) field 9

-- a good response agrees with bytes on all fields up to this one
pub record Agrees (expect : Expect) (bytes : List ℕ) (field : ℕ) : Type 0 where
  pub response : List ℕ
  pub good : IsGoodResponse expect response
  pub same : take (field_end field) response ≡ take (field_end field) bytes

-- a field is whole, and no one good response agrees with the bytes on all fields up to it
pub record Disagrees (expect : Expect) (bytes : List ℕ) (field : ℕ) : Type 0 where
  pub first : 1 ≤ field
  pub last : field ≤ 6
  pub whole : field_end field ≤ length bytes
  pub none : ¬ (Agrees expect bytes field)

-- a field is the first on which bytes disagree
pub record IsWrongField (expect : Expect) (bytes : List ℕ) (field : ℕ) : Type 0 where
  pub here : Disagrees expect bytes field
  pub before : (earlier : ℕ) → earlier < field → ¬ (Disagrees expect bytes earlier)

-- bytes disagree on no field
abbrev pub IsRight : Expect → List ℕ → Type 0
IsRight expect bytes = (field : ℕ) → ¬ (Disagrees expect bytes field)

-- bytes begin with a whole response
pub record BeginsWith (response bytes : List ℕ) (used : ℕ) : Type 0 where
  pub rest : List ℕ
  pub split : bytes ≡ response ++ rest
  pub used_is : used ≡ length response

-- registers are these words, and zeros after them
abbrev pub registers_of : List ℕ → Registers
registers_of words = record { count = length words; words = words ++ replicate (most_quantity - length words) 0 }

-- bytes begin with a whole response with these registers
pub record IsWords (expect : Expect) (bytes : List ℕ) (registers : Registers) (used : ℕ) : Type 0 where
  pub words : List ℕ
  pub count : length words ≡ expect.quantity
  pub registers_are : registers ≡ registers_of words
  pub begins : BeginsWith (words_response expect words) bytes used

-- bytes begin with no whole good response
abbrev pub IsCut : Expect → List ℕ → Type 0
IsCut expect bytes = (response : List ℕ) (used : ℕ) → IsGoodResponse expect response → ¬ (BeginsWith response bytes used)

-- the length of what follows the first six bytes, as they give it
abbrev pub length_given : List ℕ → ℕ
length_given bytes = from_be_bytes w16 (take 2 (drop 4 bytes))

-- how many bytes have to follow before more can be said: up to the ninth while the length isn't known, and then up to the end
abbrev pub still_needed : List ℕ → ℕ
still_needed bytes = if nat_lt (length bytes) 6 then 9 - length bytes else 6 + length_given bytes - length bytes

-- what bytes are as a response to a request
abbrev pub IsFrame : Expect → List ℕ → Frame → Type 0
IsFrame expect bytes (Wrong field) = IsWrongField expect bytes field
IsFrame expect bytes (Words registers used) = IsRight expect bytes × IsWords expect bytes registers used
IsFrame expect bytes (Exception code used) = IsRight expect bytes × BeginsWith (exception_response expect code) bytes used
IsFrame expect bytes (Need count) = IsRight expect bytes × IsCut expect bytes × (count ≡ still_needed bytes) × (1 ≤ count)
