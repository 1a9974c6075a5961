-- The test of a grid says what a grid is.
use Rattle.std.proofs.Common.{◌≡◌, ℕ, zero, suc, ◌*◌, ◌<◌, ◌==◌, ◌&&◌, nat_le, Bool, true, false, if◌then◌else◌, List, [], ◌∷◌, length, Ok, Err, ℤ, ◌<ℤ◌, refl, sym, subst, add-one, arith}
use Rattle.std.specs.Int.RustNames.{int_lt}
use Rattle.std.proofs.lemmas.Bool.{eqb-true, eq-eqb}
use Rattle.std.proofs.lemmas.Int.{ints}
use Rattle.farm_base.proofs.BoolTests.{and_from, and_parts, int_lt-true, le-leb, leb-true}
use Rattle.farm_vcf.specs.Closest.{Rises, listed_at}
use Rattle.farm_vcf.specs.Grid.{Grid, IsGrid}
use Rattle.site_decoding.specs.declared.fault.SiteBytesFault.TheVariants.{BadSite}
use Rattle.site_decoding.specs.Decoding.{is_grid, rises, rises_above}

-- a lesser number tests so
tests_less : (a b : ℤ) → a <ℤ b → int_lt a b ≡ true
tests_less a b lt = grind (arith, ints)

-- where the test holds, each number is above the one before
each_above : (before : ℤ) (numbers : List ℤ) → rises_above before numbers ≡ true → (i : ℕ) → i < length numbers → listed_at (before ∷ numbers) i <ℤ listed_at numbers i
each_above before [] test i within = absurd (omega arith)
each_above before (number ∷ numbers) test zero within = int_lt-true before number (and_parts (int_lt before number) (rises_above number numbers) test).0
each_above before (number ∷ numbers) test (suc i) within =
    each_above number numbers (and_parts (int_lt before number) (rises_above number numbers) test).1 i (omega arith)

-- where each number is above the one before, the test holds
all_above : (before : ℤ) (numbers : List ℤ) → ((i : ℕ) → i < length numbers → listed_at (before ∷ numbers) i <ℤ listed_at numbers i) → rises_above before numbers ≡ true
all_above before [] above = refl
all_above before (number ∷ numbers) above =
    and_from (int_lt before number) (rises_above number numbers) (tests_less before number (above 0 (omega arith)))
    (all_above number numbers (λ i within. above (suc i) (omega (arith, within))))

-- numbers that test as rising rise
rises-true : (listed : List ℤ) → rises listed ≡ true → Rises listed
rises-true [] test = record { steps = λ index within. absurd (omega (arith, within)) }
rises-true (number ∷ numbers) test = record {
  steps = λ index within.
      let P : ℕ → Type 0 = λ next. listed_at (number ∷ numbers) index <ℤ listed_at (number ∷ numbers) next in
      subst P (sym (add-one index)) (each_above number numbers test index (omega (arith, within)));
}

-- and numbers that rise test so
rises-from : (listed : List ℤ) → Rises listed → rises listed ≡ true
rises-from [] rising = refl
rises-from (number ∷ numbers) rising =
    all_above number numbers (λ i within.
    let P : ℕ → Type 0 = λ next. listed_at (number ∷ numbers) i <ℤ listed_at (number ∷ numbers) next in
    subst P (add-one i) (rising.steps i (omega (arith, within))))

-- what tests as a grid is one
pub is_grid-true : (grid : Grid) → is_grid grid ≡ true → IsGrid grid
unfolding is_grid
is_grid-true grid test =
    let factors = length grid.factors in
    let all = length grid.densities * length grid.temperatures in
    let parts = and_parts (rises grid.densities && rises grid.temperatures) (nat_le 1 factors && nat_le factors 100000 && (factors == all)) test in
    let rising = and_parts (rises grid.densities) (rises grid.temperatures) parts.0 in
    let full = and_parts (nat_le 1 factors && nat_le factors 100000) (factors == all) parts.1 in
    let some = and_parts (nat_le 1 factors) (nat_le factors 100000) full.0 in
    record {
      densities_rise = rises-true grid.densities rising.0;
      temperatures_rise = rises-true grid.temperatures rising.1;
      one_for_each = eqb-true factors all full.1;
      some = leb-true 1 factors some.0;
      not_too_many = leb-true factors 100000 some.1;
    }

-- and a grid tests so
pub is_grid-from : (grid : Grid) → IsGrid grid → is_grid grid ≡ true
unfolding is_grid
is_grid-from grid h =
    let factors = length grid.factors in
    let all = length grid.densities * length grid.temperatures in
    and_from (rises grid.densities && rises grid.temperatures) (nat_le 1 factors && nat_le factors 100000 && (factors == all))
    (and_from (rises grid.densities) (rises grid.temperatures) (rises-from grid.densities h.densities_rise) (rises-from grid.temperatures h.temperatures_rise))
    (and_from (nat_le 1 factors && nat_le factors 100000) (factors == all)
    (and_from (nat_le 1 factors) (nat_le factors 100000) (le-leb 1 factors h.some) (le-leb factors 100000 h.not_too_many)) (eq-eqb factors all h.one_for_each))

-- a grid is taken
pub grid_taken : (grid : Grid) → IsGrid grid → (if is_grid grid then Ok grid else Err BadSite) ≡ Ok grid
grid_taken grid h = rw (is_grid-from grid h) refl

-- and a grid that isn't in form is refused
pub grid_refused : (grid : Grid) → ¬ (IsGrid grid) → (if is_grid grid then Ok grid else Err BadSite) ≡ Err BadSite
grid_refused grid none = by (is_grid grid) refl
  where
    by : (b : Bool) → is_grid grid ≡ b → (if is_grid grid then Ok grid else Err BadSite) ≡ Err BadSite
    by true e = absurd (none (is_grid-true grid e))
    by false e = rw e refl
