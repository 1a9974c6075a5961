-- Reading a response field after field: each is looked at as soon as all its bytes are there.
use Rattle.std.specs.Prelude.{ℕ, zero, suc, ◌+◌, ◌*◌, ◌==◌, ◌&&◌, ◌||◌, not, nat_lt, Bool, if◌then◌else◌, List, [], ◌∷◌, drop, length, take, Option, Some, None, slice_index_or}
use Rattle.std.specs.Int.{from_be_bytes, w16}
use Rattle.farm_base.specs.Steps.{or_else}
use Rattle.modbus_frame.specs.declared.expect.Expect.{Expect}
use Rattle.modbus_frame.specs.declared.frame.Frame.{Frame}
use Rattle.modbus_frame.specs.declared.frame.Frame.TheVariants.{Need, Words, Exception, Wrong}
use Rattle.modbus_frame.specs.Limits.{exception_bit, exception_length}
use Rattle.modbus_frame.specs.Frames.{length_given, registers_of, still_needed}

-- the number of two bytes at an offset
abbrev pub number_at : ℕ → List ℕ → ℕ
number_at offset bytes = from_be_bytes w16 (take 2 (drop offset bytes))

-- the byte at an offset
abbrev pub byte_at : ℕ → List ℕ → ℕ
byte_at offset bytes = slice_index_or bytes offset 0

-- a field that ends here disagrees, where all its bytes are there
abbrev pub wrong_where : ℕ → ℕ → List ℕ → Bool → Option ℕ
wrong_where field end bytes disagrees = if not (nat_lt (length bytes) end) && disagrees then Some field else None

-- a length is neither that of an exception nor that of a response with the registers
abbrev pub is_wrong_length : Expect → ℕ → Bool
is_wrong_length expect size = not (size == exception_length || size == 3 + 2 * expect.quantity)

-- a function is neither the one asked for, with the length of the registers, nor that of an exception, with an exception's length
abbrev pub is_wrong_function : Expect → ℕ → ℕ → Bool
is_wrong_function expect size function =
    not ((function == expect.function && size == 3 + 2 * expect.quantity) || (function == expect.function + exception_bit && size == exception_length))

-- the byte count after the function asked for isn't that of the registers
abbrev pub is_wrong_count : Expect → ℕ → ℕ → Bool
is_wrong_count expect function count = function == expect.function && not (count == 2 * expect.quantity)

-- the first field that disagrees
unfoldable pub wrong_field : Expect → List ℕ → Option ℕ
wrong_field expect bytes =
    or_else (wrong_where 1 2 bytes (not (number_at 0 bytes == expect.transaction)))
    (or_else (wrong_where 2 4 bytes (not (number_at 2 bytes == 0)))
    (or_else (wrong_where 3 6 bytes (is_wrong_length expect (length_given bytes)))
    (or_else (wrong_where 4 7 bytes (not (byte_at 6 bytes == expect.unit)))
    (or_else (wrong_where 5 8 bytes (is_wrong_function expect (length_given bytes) (byte_at 7 bytes)))
    (wrong_where 6 9 bytes (is_wrong_count expect (byte_at 7 bytes) (byte_at 8 bytes)))))))

-- the first of these registers
abbrev pub words_of : ℕ → List ℕ → List ℕ
words_of zero bytes = []
words_of (suc count) bytes = from_be_bytes w16 (take 2 bytes) ∷ words_of count (drop 2 bytes)

-- a whole response: registers after the function asked for, else an exception
abbrev pub whole_frame : Expect → List ℕ → Frame
whole_frame expect bytes =
    if byte_at 7 bytes == expect.function then Words (registers_of (words_of expect.quantity (drop 9 bytes))) (6 + length_given bytes)
    else Exception (byte_at 8 bytes) (6 + length_given bytes)

-- what bytes are of which no field disagrees
abbrev pub right_frame : Expect → List ℕ → Frame
right_frame expect bytes =
    if nat_lt (length bytes) 6 || nat_lt (length bytes) (6 + length_given bytes) then Need (still_needed bytes) else whole_frame expect bytes

-- wrong at a field, or what they are without one
abbrev pub wrong_or : Option ℕ → Frame → Frame
wrong_or None frame = frame
wrong_or (Some field) frame = Wrong field

-- what bytes are as a response to a request
unfoldable pub frame_answer : Expect → List ℕ → Frame
frame_answer expect bytes = wrong_or (wrong_field expect bytes) (right_frame expect bytes)

-- a frame is decided, whatever bytes follow
abbrev pub IsDecided : Frame → Type 0
IsDecided (Need count) = ⊥
IsDecided frame = Unit {0}
