-- What it says of a field that it agrees, and that the fields of the good responses are the expected ones.
use Rattle.std.proofs.Common.{◌≡◌, ℕ, ◌+◌, ◌*◌, false, arith, ◌⊎◌}
use Rattle.std.specs.Prelude.{◌==◌, not}
use Rattle.std.proofs.lemmas.Bool.Decides.{nat_tests}
use Rattle.modbus_frame.specs.declared.expect.Expect.{Expect}
use Rattle.modbus_frame.specs.Fields.{is_wrong_count, is_wrong_function, is_wrong_length}

-- a number is the expected one
pub number_agrees : (number due : ℕ) → not (number == due) ≡ false → number ≡ due
number_agrees number due test = grind (arith, nat_tests)

-- a length is that of an exception or that of the registers
pub length_agrees : (expect : Expect) (size : ℕ) → is_wrong_length expect size ≡ false → (size ≡ 3) ⊎ (size ≡ 3 + 2 * expect.quantity)
length_agrees expect size test = grind (arith, nat_tests)

-- a function is the one asked for, with the length of the registers, or that of an exception, with the length of one
pub function_agrees : (expect : Expect) (size function : ℕ) → is_wrong_function expect size function ≡ false →
    ((function ≡ expect.function) × (size ≡ 3 + 2 * expect.quantity)) ⊎ ((function ≡ expect.function + 128) × (size ≡ 3))
function_agrees expect size function test = grind (arith, nat_tests)

-- a byte count after the function asked for is that of the registers
pub count_agrees : (expect : Expect) (function count : ℕ) → is_wrong_count expect function count ≡ false → function ≡ expect.function → count ≡ 2 * expect.quantity
count_agrees expect function count test same = grind (arith, nat_tests)

-- the length of registers is the expected one
pub words_length : (expect : Expect) → is_wrong_length expect (3 + 2 * expect.quantity) ≡ false
words_length expect = grind (arith, nat_tests)

-- so is the function asked for with it
pub words_function : (expect : Expect) → is_wrong_function expect (3 + 2 * expect.quantity) expect.function ≡ false
words_function expect = grind (arith, nat_tests)

-- and so is their byte count
pub words_count : (expect : Expect) → is_wrong_count expect expect.function (2 * expect.quantity) ≡ false
words_count expect = grind (arith, nat_tests)

-- the function of an exception is expected with the length of one
pub exception_function : (expect : Expect) → is_wrong_function expect 3 (expect.function + 128) ≡ false
exception_function expect = grind (arith, nat_tests)

-- an exception has no byte count
pub exception_count : (expect : Expect) (code : ℕ) → is_wrong_count expect (expect.function + 128) code ≡ false
exception_count expect code = grind (arith, nat_tests)
