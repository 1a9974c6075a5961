-- A field is in its range by the test exactly where it is so in the words of the rule.
use Rattle.std.proofs.Common.{◌≡◌, ◌≢◌, Bool, true, false, not, ◌&&◌, ◌||◌, All, IsTrue, List, [], ◌∷◌, length, ℤ, refl, arith}
use Rattle.std.specs.Prelude.{◌==◌}
use Rattle.std.specs.List.{list_all}
use Rattle.std.proofs.lemmas.Bool.{and_from, and_parts}
use Rattle.std.proofs.lemmas.Bool.Decides.{nat_tests}
use Rattle.std.proofs.lemmas.List.Elements.{All-cons, All-head, All-nil, All-tail}
use Rattle.farm_fixed.specs.Range.{IsWithin, is_within}
use Rattle.farm_fixed.proofs.ParsingLaws.{is_within-from, is_within-true}
use Rattle.farm_history.specs.Laws.{RangesMean}

-- neither of two tests holds
pub neither : (a b : Bool) → (not a || b) ≡ false → (a ≡ true) × (b ≡ false)
neither true b is = (refl, is)
neither false b is = cc

-- two tests of which neither holds
none_holds : (a b : Bool) → a ≡ true → b ≡ false → (not a || b) ≡ false
none_holds a b first second = simp (first, second)

-- numbers that pass the test are within the range
within_true : (least most : ℤ) (numbers : List ℤ) → list_all (λ number. is_within least most number) numbers ≡ true → All (IsWithin least most) numbers
within_true least most [] pass = All-nil (IsWithin least most)
within_true least most (number ∷ numbers) pass =
    let parts = and_parts (is_within least most number) (list_all (λ number. is_within least most number) numbers) pass in
    All-cons (IsWithin least most) number numbers (is_within-true least most number parts.0) (within_true least most numbers parts.1)

-- numbers within the range pass the test
within_from : (least most : ℤ) (numbers : List ℤ) → All (IsWithin least most) numbers → list_all (λ number. is_within least most number) numbers ≡ true
within_from least most [] all = refl
within_from least most (number ∷ numbers) all =
    and_from (is_within least most number) (list_all (λ number. is_within least most number) numbers)
    (is_within-from least most number (All-head (IsWithin least most) number numbers all))
    (within_from least most numbers (All-tail (IsWithin least most) number numbers all))

-- a list that has to hold a number holds one
some_true : (needed : Bool) (numbers : List ℤ) → (needed && length numbers == 0) ≡ false → IsTrue needed → numbers ≢ []
some_true true [] test is = cc
some_true true (number ∷ numbers) test is = λ empty. cc
some_true false numbers test is = cc

-- a list that holds a number where it has to passes the test
some_from : (needed : Bool) (numbers : List ℤ) → (IsTrue needed → numbers ≢ []) → (needed && length numbers == 0) ≡ false
some_from true [] some = absurd (some refl refl)
some_from true (number ∷ numbers) some = grind (arith, nat_tests)
some_from false numbers some = refl

-- the test of a field is what it says
pub ranges_mean : RangesMean
ranges_mean field = (
  λ test.
      let parts = neither _ _ test in
      record {
        numbers = within_true field.least field.most field.holds parts.0;
        some = some_true field.needed field.holds parts.1;
      },
  λ in_range.
      none_holds _ _ (within_from field.least field.most field.holds in_range.numbers) (some_from field.needed field.holds in_range.some),
)
