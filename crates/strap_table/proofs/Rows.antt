-- Rows of a table, from the tests of each, and the volume that the definition finds among them.
use Rattle.std.proofs.Common.{◌≡◌, ℕ, zero, suc, ◌+◌, ◌-◌, ◌*◌, ◌/◌, ◌%◌, ◌<◌, ◌≤◌, Bool, true, false, ◌==◌, List, [], ◌∷◌, length, ℤ, pos, ◌≤ℤ◌, ◌^◌, add-one, Option, Some, None, refl, sym, ap, ◌∙◌, subst, arith}
use Rattle.std.proofs.lemmas.Bool.Decides.{nat_tests}
use Rattle.std.proofs.lemmas.Int.{ints}
use Rattle.std.specs.Int.RustNames.{int_lt, unsigned_abs}
use Rattle.farm_base.proofs.BoolTests.{int_lt-false}
use Rattle.farm_base.proofs.Steps.{or_else-none}
use Rattle.farm_fixed.proofs.ParsingLaws.{is_within-true}
use Rattle.farm_fixed.specs.Range.{IsWithin, is_within}
use Rattle.farm_rounding.specs.declared.mode.Mode.{Mode}
use Rattle.farm_rounding.specs.Multiple.{nearest_multiple}
use Rattle.farm_base.specs.Steps.{or_else}
use Rattle.strap_table.specs.Capacity.{IsCapTable, row_at, tenths_between, table_volume, volume_at}
use Rattle.strap_table.specs.Faults.{falling, falling_row, first_falling, first_fault, first_outside, outside, wrong_length}

-- no row is outside the range where none is reported
not_outside : (row : Option ℕ) → outside row ≡ None → row ≡ None
not_outside None none = refl
not_outside (Some row) none = cc

-- and none falls
not_falling : (row : Option ℕ) → falling row ≡ None → row ≡ None
not_falling None none = refl
not_falling (Some row) none = cc

-- the first of rows that are all in range, and the others
inside_first : (b : Bool) (n : ℕ) (row : ℤ) (rows : List ℤ) → is_within (pos 0) (pos (10 ^ 9)) row ≡ b → first_outside n (row ∷ rows) ≡ None → is_within (pos 0) (pos (10 ^ 9)) row ≡ true
inside_first true n row rows test none = test
inside_first false n row rows test none = let some : Some n ≡ None = (rw test at none) in cc

-- and of the others none is outside
inside_rest : (b : Bool) (n : ℕ) (row : ℤ) (rows : List ℤ) → is_within (pos 0) (pos (10 ^ 9)) row ≡ b → first_outside n (row ∷ rows) ≡ None → first_outside (n + 1) rows ≡ None
inside_rest true n row rows test none = rw test at none
inside_rest false n row rows test none = let some : Some n ≡ None = (rw test at none) in cc

-- where no row is outside the range, each is within it, and so is the 0 after them
pub each_within : (n : ℕ) (rows : List ℤ) (i : ℕ) → first_outside n rows ≡ None → IsWithin (pos 0) (pos (10 ^ 9)) (row_at rows i)
each_within n [] i none = record { low = omega (arith, ints); high = omega (arith, ints) }
each_within n (row ∷ rows) zero none = is_within-true (pos 0) (pos (10 ^ 9)) row (inside_first (is_within (pos 0) (pos (10 ^ 9)) row) n row rows refl none)
each_within n (row ∷ rows) (suc i) none = each_within (n + 1) rows i (inside_rest (is_within (pos 0) (pos (10 ^ 9)) row) n row rows refl none)

-- the first of rows that never fall, and the others
rising_first : (b : Bool) (n : ℕ) (before row : ℤ) (rows : List ℤ) → int_lt row before ≡ b → first_falling n before (row ∷ rows) ≡ None → int_lt row before ≡ false
rising_first false n before row rows test none = test
rising_first true n before row rows test none = let some : Some n ≡ None = (rw test at none) in cc

-- and of the others none falls
rising_rest : (b : Bool) (n : ℕ) (before row : ℤ) (rows : List ℤ) → int_lt row before ≡ b → first_falling n before (row ∷ rows) ≡ None → first_falling (n + 1) row rows ≡ None
rising_rest false n before row rows test none = rw test at none
rising_rest true n before row rows test none = let some : Some n ≡ None = (rw test at none) in cc

-- where no row falls, none is below the one before it
each_rising : (n : ℕ) (before : ℤ) (rows : List ℤ) (i : ℕ) → first_falling n before rows ≡ None → i < length rows → row_at (before ∷ rows) i ≤ℤ row_at rows i
each_rising n before [] i none short = absurd (omega arith)
each_rising n before (row ∷ rows) zero none short = int_lt-false row before (rising_first (int_lt row before) n before row rows refl none)
each_rising n before (row ∷ rows) (suc i) none short = each_rising (n + 1) row rows i (rising_rest (int_lt row before) n before row rows refl none) (omega arith)

-- so it is in a whole table
rising_rows : (rows : List ℤ) (i : ℕ) → falling_row rows ≡ None → i + 1 < length rows → row_at rows i ≤ℤ row_at rows (i + 1)
rising_rows [] i none short = absurd (omega arith)
rising_rows (row ∷ rows) i none short =
    let P : ℕ → Type 0 = λ k. row_at (row ∷ rows) i ≤ℤ row_at (row ∷ rows) k in
    subst P (sym (add-one i)) (each_rising 1 row rows i none (omega arith))

-- a length that isn't wrong
pub right_length : (n : ℕ) → wrong_length n ≡ None → (2 ≤ n) × (n ≤ 5001)
right_length n none = (grind (arith, nat_tests), grind (arith, nat_tests))

-- rows without a fault are a table
pub table_from_rows : (rows : List ℤ) → first_fault rows ≡ None → IsCapTable rows
unfolding first_fault
table_from_rows rows none =
    let faultless = or_else-none (wrong_length (length rows)) (or_else (outside (first_outside 0 rows)) (falling (falling_row rows))) none in
    let others = or_else-none (outside (first_outside 0 rows)) (falling (falling_row rows)) faultless.1 in
    let within_range = not_outside (first_outside 0 rows) others.0 in
    let never_falling = not_falling (falling_row rows) others.1 in
    let size = right_length (length rows) faultless.0 in
    record {
      fewest = size.0;
      most = size.1;
      volumes = λ i. each_within 0 rows i within_range;
      rising = λ i short. rising_rows rows i never_falling short;
    }

-- there is no volume above the last row
pub of_above : (mode : Mode) (step : ℕ) (rows : List ℤ) (level : ℤ) → 10 * (length rows - 1) < unsigned_abs level → table_volume mode step rows level ≡ None
unfolding table_volume
of_above mode step rows level above = grind (arith, nat_tests)

-- and one up to it
pub of_covered : (mode : Mode) (step : ℕ) (rows : List ℤ) (level : ℤ) → unsigned_abs level ≤ 10 * (length rows - 1) →
    table_volume mode step rows level ≡ Some (volume_at mode step rows (unsigned_abs level))
unfolding table_volume
of_covered mode step rows level covered = grind (arith, nat_tests)

-- at a row it is the row's
pub of_a_row : (mode : Mode) (step : ℕ) (rows : List ℤ) (level volume : ℤ) → unsigned_abs level ≤ 10 * (length rows - 1) →
    unsigned_abs level % 10 ≡ 0 → volume ≡ nearest_multiple mode (row_at rows (unsigned_abs level / 10)) 1 step →
    table_volume mode step rows level ≡ Some volume
unfolding volume_at
of_a_row mode step rows level volume covered none value =
    of_covered mode step rows level covered ∙ ap Some (rw none (sym value))

-- between two rows it is interpolated
pub of_two_rows : (mode : Mode) (step : ℕ) (rows : List ℤ) (level volume tenths : ℤ) → unsigned_abs level ≤ 10 * (length rows - 1) →
    0 < unsigned_abs level % 10 →
    tenths ≡ tenths_between (row_at rows (unsigned_abs level / 10)) (row_at rows (unsigned_abs level / 10 + 1)) (pos (unsigned_abs level % 10)) →
    volume ≡ nearest_multiple mode tenths 10 step → table_volume mode step rows level ≡ Some volume
unfolding volume_at
of_two_rows mode step rows level volume tenths covered some tenths_are value =
    let test : (unsigned_abs level % 10 == 0) ≡ false = grind (arith, nat_tests) in
    of_covered mode step rows level covered ∙ ap Some (rw test (sym (value ∙ ap (λ n. nearest_multiple mode n 10 step) tenths_are)))
