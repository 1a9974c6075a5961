-- Bounds of squares.
use Rattle.std.proofs.Common.{ℕ, ◌*◌, ◌≤◌, ℤ, pos, negsuc, ◌*ℤ◌, ◌≤ℤ◌, arith}
use Rattle.std.proofs.lemmas.Int.{ints}
use Rattle.std.proofs.Math.Nat.{mul-le-mul_right}
use Rattle.std.proofs.lemmas.Nat.{mul-le}

-- a square times a number is at least that of a lower bound
pub square_low : (low k : ℕ) (n : ℤ) → pos low ≤ℤ n → pos (low * low * k) ≤ℤ (n *ℤ n *ℤ pos k)
square_low low k (pos n) above =
    let at_least : low ≤ n = omega (arith, ints) in
    let squares : low * low ≤ n * n = mul-le low low n n at_least at_least in
    let products : low * low * k ≤ n * n * k = mul-le-mul_right k squares in
    let lifted : pos (low * low * k) ≤ℤ pos (n * n * k) = omega (arith, ints) in
    lifted
square_low low k (negsuc n) above = absurd (omega (arith, ints, above))

-- and at most that of an upper bound
pub square_high : (low high k : ℕ) (n : ℤ) → pos low ≤ℤ n → n ≤ℤ pos high → (n *ℤ n *ℤ pos k) ≤ℤ pos (high * high * k)
square_high low high k (pos n) above below =
    let at_most : n ≤ high = omega (arith, ints) in
    let squares : n * n ≤ high * high = mul-le n n high high at_most at_most in
    let products : n * n * k ≤ high * high * k = mul-le-mul_right k squares in
    let lifted : pos (n * n * k) ≤ℤ pos (high * high * k) = omega (arith, ints) in
    lifted
square_high low high k (negsuc n) above below = absurd (omega (arith, ints, above))
