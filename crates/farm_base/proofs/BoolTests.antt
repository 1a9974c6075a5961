-- Tests: what their answers say of numbers, and of two tests at once. Those that std states are handed on from here.
use Rattle.std.proofs.Common.{◌≡◌, Bool, true, false, cond, Option, Some, None, ℤ, ◌<ℤ◌, ◌≤ℤ◌, int_lt, refl, arith}
use Rattle.std.proofs.lemmas.Int.{ints}
-- less: `nat_lt a b ≡ true → a < b`
pub use Rattle.std.proofs.lemmas.Bool.{ltb-true}
-- not less: `nat_lt a b ≡ false → b ≤ a`
pub use Rattle.std.proofs.lemmas.Bool.{ltb-false}
-- at most: `nat_le a b ≡ true → a ≤ b`
pub use Rattle.std.proofs.lemmas.Bool.{leb-true}
-- more: `nat_le a b ≡ false → b < a`
pub use Rattle.std.proofs.lemmas.Bool.{leb-false}
-- a lesser number tests as less: `a < b → nat_lt a b ≡ true`
pub use Rattle.std.proofs.lemmas.Bool.{lt-ltb}
-- one that isn't lesser doesn't: `b ≤ a → nat_lt a b ≡ false`
pub use Rattle.std.proofs.lemmas.Bool.{le-ltb}
-- a number that is at most another tests so: `a ≤ b → nat_le a b ≡ true`
pub use Rattle.std.proofs.lemmas.Bool.{le-leb}
-- a greater one doesn't: `b < a → nat_le a b ≡ false`
pub use Rattle.std.proofs.lemmas.Bool.{lt-leb}
-- two tests hold, so both do: `(x && y) ≡ true → (x ≡ true) × (y ≡ true)`
pub use Rattle.std.proofs.lemmas.Bool.{and_parts}
-- and both make two: `x ≡ true → y ≡ true → (x && y) ≡ true`
pub use Rattle.std.proofs.lemmas.Bool.{and_from}
-- a test holds or it doesn't
pub use Rattle.std.proofs.lemmas.Bool.{cases_Bool}

-- no fault where a test is to hold: the test holds, and what comes after has no fault
pub passes : {A : Type 0} (test : Bool) (fault : A) (rest : Option A) → cond test rest (Some fault) ≡ None → (test ≡ true) × (rest ≡ None)
passes true fault rest none = (refl, none)
passes false fault rest none = cc

-- no fault where a test is not to hold: it doesn't, and what comes after has no fault
pub passes_not : {A : Type 0} (test : Bool) (fault : A) (rest : Option A) → cond test (Some fault) rest ≡ None → (test ≡ false) × (rest ≡ None)
passes_not true fault rest none = cc
passes_not false fault rest none = (refl, none)

-- a whole number that tests as less than another is less
pub int_lt-true : (a b : ℤ) → int_lt a b ≡ true → a <ℤ b
int_lt-true a b test = grind (arith, ints)

-- a whole number that isn't less than another is at least that
pub int_lt-false : (a b : ℤ) → int_lt a b ≡ false → b ≤ℤ a
int_lt-false a b test = grind (arith, ints)
