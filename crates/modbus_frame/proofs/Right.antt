-- Bytes of which no field disagrees: more are needed, or they begin with a whole response.
use Rattle.std.proofs.Common.{◌≡◌, ℕ, ◌+◌, ◌<◌, ◌≤◌, Bool, true, false, cond, List, length, drop, refl, arith, ◌⊎◌}
use Rattle.std.specs.Prelude.{nat_lt, ◌==◌, ◌||◌}
use Rattle.std.proofs.lemmas.Bool.{eq-eqb}
use Rattle.std.proofs.lemmas.Bool.Decides.{nat_tests}
use Rattle.modbus_frame.specs.declared.expect.Expect.{Expect}
use Rattle.modbus_frame.specs.declared.frame.Frame.{Frame}
use Rattle.modbus_frame.specs.declared.frame.Frame.TheVariants.{Need, Words, Exception}
use Rattle.modbus_frame.specs.Frames.{length_given, registers_of, still_needed}
use Rattle.modbus_frame.specs.Fields.{IsDecided, byte_at, right_frame, whole_frame, words_of}

-- the length isn't known, or not all the bytes that it says are there
abbrev pub IsShort : List ℕ → Type 0
IsShort bytes = (length bytes < 6) ⊎ (length bytes < 6 + length_given bytes)

-- the length is known, and all the bytes that it says are there
abbrev pub IsLong : List ℕ → Type 0
IsLong bytes = (6 ≤ length bytes) × (6 + length_given bytes ≤ length bytes)

-- a frame that is decided doesn't need more
needs-none : (test : Bool) (count : ℕ) (whole : Frame) → IsDecided (cond test (Need count) whole) → test ≡ false
needs-none true count whole decided = absurd decided
needs-none false count whole decided = refl

-- bytes aren't short, so they are long
long-enough : (bytes : List ℕ) → (nat_lt (length bytes) 6 || nat_lt (length bytes) (6 + length_given bytes)) ≡ false → IsLong bytes
long-enough bytes test = grind (arith, nat_tests)

-- a frame is decided, so its length is known and all its bytes are there
pub decided-whole : (expect : Expect) (bytes : List ℕ) → IsDecided (right_frame expect bytes) → IsLong bytes
decided-whole expect bytes decided =
    let test : Bool = nat_lt (length bytes) 6 || nat_lt (length bytes) (6 + length_given bytes) in
    long-enough bytes (needs-none test (still_needed bytes) (whole_frame expect bytes) decided)

-- long bytes are a whole frame
pub right-whole : (expect : Expect) (bytes : List ℕ) → IsLong bytes → right_frame expect bytes ≡ whole_frame expect bytes
right-whole expect bytes long =
    let enough : (nat_lt (length bytes) 6 || nat_lt (length bytes) (6 + length_given bytes)) ≡ false = grind (arith, nat_tests) in
    rw enough

-- short bytes need more
pub right-need : (expect : Expect) (bytes : List ℕ) → IsShort bytes → right_frame expect bytes ≡ Need (still_needed bytes)
right-need expect bytes short =
    let few : (nat_lt (length bytes) 6 || nat_lt (length bytes) (6 + length_given bytes)) ≡ true = grind (arith, nat_tests) in
    rw few

-- and at least one
pub one-needed : (bytes : List ℕ) → IsShort bytes → 1 ≤ still_needed bytes
one-needed bytes short = grind (arith, nat_tests)

-- bytes are short or long
pub short-or-long : (bytes : List ℕ) → IsShort bytes ⊎ IsLong bytes
short-or-long bytes = grind (arith, nat_tests)

-- a frame with the function asked for has registers
pub whole-words : (expect : Expect) (bytes : List ℕ) → byte_at 7 bytes ≡ expect.function →
    whole_frame expect bytes ≡ Words (registers_of (words_of expect.quantity (drop 9 bytes))) (6 + length_given bytes)
whole-words expect bytes asked =
    let same : (byte_at 7 bytes == expect.function) ≡ true = eq-eqb (byte_at 7 bytes) expect.function asked in
    rw same

-- a frame with the function of an exception has a code
pub whole-exception : (expect : Expect) (bytes : List ℕ) → byte_at 7 bytes ≡ expect.function + 128 → whole_frame expect bytes ≡ Exception (byte_at 8 bytes) (6 + length_given bytes)
whole-exception expect bytes function =
    let other : (byte_at 7 bytes == expect.function) ≡ false = grind (arith, nat_tests) in
    rw other
