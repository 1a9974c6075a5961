-- Signs and sizes of products.
use Rattle.std.proofs.Common.{◌≡◌, ℕ, zero, suc, ◌*◌, ◌≤◌, ℤ, pos, negsuc, ◌*ℤ◌, ◌≤ℤ◌, subst, sym, arith}
use Rattle.std.proofs.lemmas.Int.{ints, unsigned_abs-mul}
use Rattle.std.proofs.lemmas.Nat.{mul-le}
use Rattle.std.specs.Int.RustNames.{unsigned_abs}

-- the product of two numbers of at least 1 is at least 1
pub positive_product : (a b : ℤ) → pos 1 ≤ℤ a → pos 1 ≤ℤ b → pos 1 ≤ℤ (a *ℤ b)
positive_product (pos zero) b some_a some_b = absurd (omega (arith, ints, some_a))
positive_product (pos (suc a)) (pos zero) some_a some_b = absurd (omega (arith, ints, some_b))
positive_product (pos (suc a)) (pos (suc b)) some_a some_b =
    let product : pos 1 ≤ℤ pos (suc a * suc b) = omega (arith, ints) in product
positive_product (pos (suc a)) (negsuc b) some_a some_b = absurd (omega (arith, ints, some_b))
positive_product (negsuc a) b some_a some_b = absurd (omega (arith, ints, some_a))

-- a product is no larger than that of the bounds
pub product_size : (a b r : ℤ) (m n : ℕ) → r ≡ a *ℤ b → unsigned_abs a ≤ m → unsigned_abs b ≤ n → unsigned_abs r ≤ m * n
product_size a b r m n value small_a small_b =
    let P : ℤ → Type 0 = λ x. unsigned_abs x ≤ m * n in
    let Q : ℕ → Type 0 = λ x. x ≤ m * n in
    subst P (sym value) (subst Q (sym (unsigned_abs-mul a b)) (mul-le (unsigned_abs a) (unsigned_abs b) m n small_a small_b))
