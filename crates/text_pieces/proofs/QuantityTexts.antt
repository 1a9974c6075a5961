-- The parts of the text of a quantity.
use Rattle.std.proofs.Common.{◌≡◌, ℕ, ◌<◌, ◌≤◌, ◌^◌, ◌/◌, ◌%◌, ◌==◌, if◌then◌else◌, [], ◌∷◌, ◌++◌, ℤ, decimal, append_assoc, arith, lit<, sym}
use Rattle.std.proofs.Math.Nat.{pow-le-pow_right, mod-eq_of_lt}
use Rattle.std.proofs.lemmas.Nat.{div_below}
use Rattle.std.specs.Int.RustNames.{unsigned_abs}
use Rattle.farm_fixed.specs.Printing.{minus_of, padded, quantity_text}
use Rattle.farm_fixed.proofs.PrintingLaws.{some_scale}

-- 20 decimals and more have a scale above every 64-bit number
beyond : (places units : ℕ) → 20 ≤ places → units < 2 ^ 64 → units < 10 ^ places
beyond places units many fits =
    let scale : 10 ^ 20 ≤ 10 ^ places = pow-le-pow_right (lit< tt) many in omega arith

-- so the number has nothing before the point
pub nothing_whole : (places units : ℕ) → 20 ≤ places → units < 2 ^ 64 → 0 ≡ units / 10 ^ places
nothing_whole places units many fits =
    let small = beyond places units many fits in
    let below : units / 10 ^ places < 1 = div_below units (10 ^ places) 1 (some_scale places) (omega arith) in omega arith

-- and all of it after the point
pub all_decimals : (places units : ℕ) → 20 ≤ places → units < 2 ^ 64 → units ≡ units % 10 ^ places
all_decimals places units many fits = sym (mod-eq_of_lt (beyond places units many fits))

-- the minus, the number before the point, and the point with the decimals are the text of a quantity
pub quantity_joined : (places : ℕ) (units : ℤ) (magnitude whole decimals : ℕ) → magnitude ≡ unsigned_abs units →
    whole ≡ magnitude / 10 ^ places → decimals ≡ magnitude % 10 ^ places →
    (minus_of units ++ decimal whole) ++ (if places == 0 then [] else 46 ∷ padded places decimals) ≡ quantity_text places units
unfolding quantity_text
quantity_joined places units magnitude whole decimals is_magnitude is_whole are_decimals =
    rw (is_whole, are_decimals, is_magnitude) (append_assoc (minus_of units) (decimal (unsigned_abs units / 10 ^ places)) _)
