-- Which of two listed values is taken.
use Rattle.std.proofs.Common.{◌≡◌, true, false, subst, arith}
use Rattle.std.proofs.lemmas.Bool.Decides.{nat_tests}
use Rattle.std.proofs.lemmas.Int.{ints}
use Rattle.std.specs.Prelude.{ℤ, ◌≤ℤ◌}
use Rattle.farm_rounding.specs.declared.mode.Mode.{Mode}
use Rattle.farm_rounding.specs.declared.mode.Mode.TheVariants.{HalfAway, TowardZero, HalfEven}
use Rattle.farm_vcf.specs.Closest.{IsTakenOver, WinsTie, is_taken_over, wins_tie}

-- a value wins a tie with itself
tie_itself : (mode : Mode) (a : ℤ) → WinsTie mode a a
tie_itself HalfAway a = (omega arith, λ same. omega (arith, ints))
tie_itself TowardZero a = (omega arith, λ same. omega (arith, ints))
tie_itself HalfEven a = (omega arith, λ same. omega (arith, ints))

-- a value is taken over itself
pub over_itself : (mode : Mode) (value a : ℤ) → IsTakenOver mode value a a
over_itself mode value a = record { near = omega arith; tie = λ same. tie_itself mode a }

-- a value that wins over a winner wins
tie_on : (mode : Mode) (a b c : ℤ) → WinsTie mode a b → WinsTie mode b c → WinsTie mode a c
tie_on HalfAway a b c first second = (omega (arith, first.0, second.0), λ same. let one : b ≤ℤ a = first.1 (omega (arith, first.0, second.0)) in let other : c ≤ℤ b = second.1 (omega (arith, first.0, second.0)) in omega (arith, ints))
tie_on TowardZero a b c first second = (omega (arith, first.0, second.0), λ same. let one : b ≤ℤ a = first.1 (omega (arith, first.0, second.0)) in let other : c ≤ℤ b = second.1 (omega (arith, first.0, second.0)) in omega (arith, ints))
tie_on HalfEven a b c first second = (omega (arith, first.0, second.0), λ same. let one : b ≤ℤ a = first.1 (omega (arith, first.0, second.0)) in let other : c ≤ℤ b = second.1 (omega (arith, first.0, second.0)) in omega (arith, ints))

-- a value that is taken over one that is taken is taken
pub over_on : (mode : Mode) (value a b c : ℤ) → IsTakenOver mode value a b → IsTakenOver mode value b c → IsTakenOver mode value a c
over_on mode value a b c first second = record {
  near = omega (arith, first.near, second.near);
  tie = λ same. tie_on mode a b c (first.tie (omega (arith, first.near, second.near))) (second.tie (omega (arith, first.near, second.near)));
}

-- the test of a tie is its rule
tie_tells : (mode : Mode) (a b : ℤ) → wins_tie mode a b ≡ true → WinsTie mode a b
tie_tells HalfAway a b holds = (grind (arith, ints, nat_tests), λ same. grind (arith, ints, nat_tests))
tie_tells TowardZero a b holds = (grind (arith, ints, nat_tests), λ same. grind (arith, ints, nat_tests))
tie_tells HalfEven a b holds = (grind (arith, ints, nat_tests), λ same. grind (arith, ints, nat_tests))

-- and where it fails the other wins
tie_fails : (mode : Mode) (a b : ℤ) → wins_tie mode a b ≡ false → WinsTie mode b a
tie_fails HalfAway a b fails = (grind (arith, ints, nat_tests), λ same. grind (arith, ints, nat_tests))
tie_fails TowardZero a b fails = (grind (arith, ints, nat_tests), λ same. grind (arith, ints, nat_tests))
tie_fails HalfEven a b fails = (grind (arith, ints, nat_tests), λ same. grind (arith, ints, nat_tests))

-- where the test passes, it is taken over the other
pub over_tells : (mode : Mode) (value a b : ℤ) → is_taken_over mode value a b ≡ true → IsTakenOver mode value a b
over_tells mode value a b holds = record {
  near = grind (arith, nat_tests);
  tie = λ same. tie_tells mode a b (grind (arith, nat_tests));
}

-- where the test fails the other is taken
pub over_fails : (mode : Mode) (value a b : ℤ) → is_taken_over mode value a b ≡ false → IsTakenOver mode value b a
over_fails mode value a b fails = record {
  near = grind (arith, nat_tests);
  tie = λ same. tie_fails mode a b (grind (arith, nat_tests));
}

-- two values that each win a tie are one
tie_both : (mode : Mode) (a b : ℤ) → WinsTie mode a b → WinsTie mode b a → a ≡ b
tie_both HalfAway a b first second =
    let one : b ≤ℤ a = first.1 (omega (arith, first.0, second.0)) in
    let other : a ≤ℤ b = second.1 (omega (arith, first.0, second.0)) in
    omega (arith, ints)
tie_both TowardZero a b first second =
    let one : b ≤ℤ a = first.1 (omega (arith, first.0, second.0)) in
    let other : a ≤ℤ b = second.1 (omega (arith, first.0, second.0)) in
    omega (arith, ints)
tie_both HalfEven a b first second =
    let one : b ≤ℤ a = first.1 (omega (arith, first.0, second.0)) in
    let other : a ≤ℤ b = second.1 (omega (arith, first.0, second.0)) in
    omega (arith, ints)

-- two values that are each taken over the other are one
pub over_both : (mode : Mode) (value a b : ℤ) → IsTakenOver mode value a b → IsTakenOver mode value b a → a ≡ b
over_both mode value a b first second =
    tie_both mode a b (first.tie (omega (arith, first.near, second.near))) (second.tie (omega (arith, first.near, second.near)))

-- equal values win a tie
over_same : (mode : Mode) (value a b : ℤ) → a ≡ b → WinsTie mode a b
over_same mode value a b same = let P : ℤ → Type 0 = λ other. WinsTie mode a other in subst P same (tie_itself mode a)

-- of two values that aren't below it the lesser is taken
pub over_above : (mode : Mode) (value a b : ℤ) → value ≤ℤ a → a ≤ℤ b → IsTakenOver mode value a b
over_above mode value a b low high = record {
  near = omega (arith, ints);
  tie = λ same. over_same mode value a b (omega (arith, ints));
}

-- and of two that aren't above it the greater
pub over_below : (mode : Mode) (value a b : ℤ) → a ≤ℤ value → b ≤ℤ a → IsTakenOver mode value a b
over_below mode value a b high low = record {
  near = omega (arith, ints);
  tie = λ same. over_same mode value a b (omega (arith, ints));
}
