-- Rows one after another, and what they have in common.
use Rattle.std.proofs.Common.{◌≡◌, ℕ, zero, suc, ◌+◌, ◌-◌, ◌^◌, ◌<◌, ◌≤◌, Bool, true, false, List, [], ◌∷◌, ◌++◌, length, get_or, Option, Some, None, Ok, Err, ℤ, pos, ◌≤ℤ◌, refl, sym, ap, ◌∙◌, subst, add-one, append_assoc, append-nil, arith}
use Rattle.std.specs.Int.RustNames.{int_lt}
use Rattle.farm_base.specs.Steps.{IsRefusedAs, or_else}
use Rattle.farm_base.proofs.BoolTests.{int_lt-false}
use Rattle.farm_base.proofs.Steps.{or_else-none}
use Rattle.farm_fixed.proofs.ParsingLaws.{is_within-true}
use Rattle.farm_fixed.specs.Range.{IsWithin, is_within}
use Rattle.farm_rounding.specs.Table.{Row}
use Rattle.strap_courses.specs.Courses.{StrappedTank}
use Rattle.strap_courses.specs.Rows.{IsStrappedTable, first_wrong, row_count, rows_from, strapped_row, strapped_rows, unless_wrong, wrong_row}
use Rattle.strap_courses.specs.Faults.{TankFault, NotRising, TooLarge}

-- the list of rows has the length that was asked for
length-rows_from : (rounding : List Row) (tank : StrappedTank) (i count : ℕ) → length (rows_from rounding tank i count) ≡ count
length-rows_from rounding tank i zero = refl
length-rows_from rounding tank i (suc count) = ap suc (length-rows_from rounding tank (i + 1) count)

-- each of them is the strapped row at its height
each_row : (rounding : List Row) (tank : StrappedTank) (i count k : ℕ) (d : ℤ) → k < count → get_or (rows_from rounding tank i count) k d ≡ strapped_row rounding tank (i + k)
each_row rounding tank i zero k d short = absurd (omega arith)
each_row rounding tank i (suc count) zero d short = ap (λ n. strapped_row rounding tank n) (omega arith)
each_row rounding tank i (suc count) (suc k) d short =
    let e : i + 1 + k ≡ i + suc k = omega arith in
    each_row rounding tank (i + 1) count k d (omega arith) ∙ ap (λ n. strapped_row rounding tank n) e

-- the rows from one on are that row and those from the next on
pub rows_more : (rounding : List Row) (tank : StrappedTank) (i count : ℕ) → i < count →
    rows_from rounding tank i (count - i) ≡ strapped_row rounding tank i ∷ rows_from rounding tank (i + 1) (count - (i + 1))
rows_more rounding tank i count short =
    let e : count - i ≡ suc (count - (i + 1)) = omega arith in rw e refl

-- a fault isn't `None`
not_none : (fault : TankFault) → Some fault ≡ None → ⊥
not_none fault some = cc

-- what holds of a row that isn't wrong
record Right (before row : ℤ) : Type 0 where
  volume : IsWithin (pos 0) (pos (10 ^ 9)) row
  above : before ≤ℤ row

-- a row that passes both tests is right
right_by : (in_range falls : Bool) (i : ℕ) (before row : ℤ) → is_within (pos 0) (pos (10 ^ 9)) row ≡ in_range → int_lt row before ≡ falls →
    wrong_row i before row ≡ None → Right before row
right_by false falls i before row range_test fall_test none = absurd (not_none (TooLarge i) (rw range_test at none))
right_by true true i before row range_test fall_test none = absurd (not_none (NotRising i) (rw (range_test, fall_test) at none))
right_by true false i before row range_test fall_test none = record { volume = is_within-true (pos 0) (pos (10 ^ 9)) row range_test; above = int_lt-false row before fall_test }

-- the first of rows of which none is wrong is right
right : (i : ℕ) (before row : ℤ) (rows : List ℤ) → first_wrong i before (row ∷ rows) ≡ None → Right before row
right i before row rows none =
    right_by (is_within (pos 0) (pos (10 ^ 9)) row) (int_lt row before) i before row refl refl (or_else-none (wrong_row i before row) (first_wrong (i + 1) row rows) none).0

-- and none of the others is wrong
rest : (i : ℕ) (before row : ℤ) (rows : List ℤ) → first_wrong i before (row ∷ rows) ≡ None → first_wrong (i + 1) row rows ≡ None
rest i before row rows none = (or_else-none (wrong_row i before row) (first_wrong (i + 1) row rows) none).1

-- where no row is wrong, each is in range
each_within : (i : ℕ) (before : ℤ) (rows : List ℤ) (k : ℕ) (d : ℤ) → first_wrong i before rows ≡ None → k < length rows → IsWithin (pos 0) (pos (10 ^ 9)) (get_or rows k d)
each_within i before [] k d none short = absurd (omega arith)
each_within i before (row ∷ rows) zero d none short = (right i before row rows none).volume
each_within i before (row ∷ rows) (suc k) d none short = each_within (i + 1) row rows k d (rest i before row rows none) (omega arith)

-- and none is below the one before it
each_rising : (i : ℕ) (before : ℤ) (rows : List ℤ) (k : ℕ) (d : ℤ) → first_wrong i before rows ≡ None → k < length rows → get_or (before ∷ rows) k d ≤ℤ get_or rows k d
each_rising i before [] k d none short = absurd (omega arith)
each_rising i before (row ∷ rows) zero d none short = (right i before row rows none).above
each_rising i before (row ∷ rows) (suc k) d none short = each_rising (i + 1) row rows k d (rest i before row rows none) (omega arith)

-- so no row of a table is below the one before it
rising_rows : (rows : List ℤ) (k : ℕ) (d : ℤ) → first_wrong 0 (pos 0) rows ≡ None → k + 1 < length rows → get_or rows k d ≤ℤ get_or rows (k + 1) d
rising_rows rows k d none short =
    let P : ℕ → Type 0 = λ n. get_or rows k d ≤ℤ get_or rows n d in
    let rising : get_or rows k d ≤ℤ get_or rows (suc k) d = each_rising 0 (pos 0) rows (suc k) d none (omega arith) in
    subst P (sym (add-one k)) rising

-- rows of which none is wrong are the answer
accepted : (wrong : Option TankFault) (rows answer : List ℤ) → unless_wrong rows wrong ≡ Ok answer → (wrong ≡ None) × (rows ≡ answer)
accepted None rows answer ok = (refl, cc)
accepted (Some fault) rows answer ok = cc

-- and they are the tank's table
pub strapped_table : (rounding : List Row) (tank : StrappedTank) (rows : List ℤ) → strapped_rows rounding tank ≡ Ok rows → IsStrappedTable rounding tank rows
unfolding strapped_rows
strapped_table rounding tank rows ok =
    let count = row_count tank in
    let all = rows_from rounding tank 0 count in
    let parts = accepted (first_wrong 0 (pos 0) all) all rows ok in
    let P : List ℤ → Type 0 = λ rows. IsStrappedTable rounding tank rows in
    let size = length-rows_from rounding tank 0 count in
    subst P parts.1 (record {
      count = size;
      each = λ i short. each_row rounding tank 0 count i (pos 0) (omega (arith, size, short)) ∙ ap (λ n. strapped_row rounding tank n) (omega arith);
      volumes = λ i short. each_within 0 (pos 0) all i (pos 0) parts.0 short;
      rising = λ i short. rising_rows all i (pos 0) parts.0 short;
    })

-- a fault at a row that is reached is the answer
pub wrong_at : (rounding : List Row) (tank : StrappedTank) (i count : ℕ) (before : ℤ) (fault : TankFault) → i < count → count ≡ row_count tank →
    first_wrong i before (rows_from rounding tank i (count - i)) ≡ first_wrong 0 (pos 0) (rows_from rounding tank 0 count) →
    wrong_row i before (strapped_row rounding tank i) ≡ Some fault → strapped_rows rounding tank ≡ Err fault
unfolding strapped_rows
wrong_at rounding tank i count before fault short count_is reached wrong =
    let row = strapped_row rounding tank i in
    let later = rows_from rounding tank (i + 1) (count - (i + 1)) in
    let here : first_wrong i before (row ∷ later) ≡ Some fault = ap (λ first. or_else first (first_wrong (i + 1) row later)) wrong in
    let first : first_wrong 0 (pos 0) (rows_from rounding tank 0 count) ≡ Some fault =
    sym reached ∙ ap (λ rows. first_wrong i before rows) (rows_more rounding tank i count short) ∙ here in
    let P : ℕ → Type 0 = λ n. unless_wrong (rows_from rounding tank 0 n) (first_wrong 0 (pos 0) (rows_from rounding tank 0 n)) ≡ Err fault in
    subst P count_is (ap (λ wrong. unless_wrong (rows_from rounding tank 0 count) wrong) first)

-- so what a call reports there is the answer
pub reported_at : (rounding : List Row) (tank : StrappedTank) (i count : ℕ) (before : ℤ) (fault : Option TankFault) → i < count → count ≡ row_count tank →
    first_wrong i before (rows_from rounding tank i (count - i)) ≡ first_wrong 0 (pos 0) (rows_from rounding tank 0 count) →
    wrong_row i before (strapped_row rounding tank i) ≡ fault → IsRefusedAs fault (strapped_rows rounding tank)
reported_at rounding tank i count before None short count_is reached wrong = tt
reported_at rounding tank i count before (Some fault) short count_is reached wrong = wrong_at rounding tank i count before fault short count_is reached wrong

-- past a row that isn't wrong, the others are looked at
pub right_at : (rounding : List Row) (tank : StrappedTank) (i count : ℕ) (before : ℤ) → i < count → wrong_row i before (strapped_row rounding tank i) ≡ None →
    first_wrong i before (rows_from rounding tank i (count - i)) ≡ first_wrong (i + 1) (strapped_row rounding tank i) (rows_from rounding tank (i + 1) (count - (i + 1)))
right_at rounding tank i count before short none =
    let row = strapped_row rounding tank i in
    let later = rows_from rounding tank (i + 1) (count - (i + 1)) in
    ap (λ rows. first_wrong i before rows) (rows_more rounding tank i count short) ∙ ap (λ first. or_else first (first_wrong (i + 1) row later)) none

-- one row more at the end of those so far
pub row_pushed : (rounding : List Row) (tank : StrappedTank) (i count : ℕ) (rows : List ℤ) → i < count →
    (rows ++ strapped_row rounding tank i ∷ []) ++ rows_from rounding tank (i + 1) (count - (i + 1)) ≡ rows ++ rows_from rounding tank i (count - i)
row_pushed rounding tank i count rows short =
    append_assoc rows (strapped_row rounding tank i ∷ []) (rows_from rounding tank (i + 1) (count - (i + 1)))
    ∙ ap (λ later. rows ++ later) (sym (rows_more rounding tank i count short))

-- past the last row, those so far are the answer
pub right_to_the_end : (rounding : List Row) (tank : StrappedTank) (i count : ℕ) (before : ℤ) (rows : List ℤ) → count ≤ i → count ≡ row_count tank →
    rows ++ rows_from rounding tank i (count - i) ≡ rows_from rounding tank 0 count →
    first_wrong i before (rows_from rounding tank i (count - i)) ≡ first_wrong 0 (pos 0) (rows_from rounding tank 0 count) →
    strapped_rows rounding tank ≡ Ok rows
unfolding strapped_rows
right_to_the_end rounding tank i count before rows all count_is so_far reached =
    let e : count - i ≡ 0 = omega arith in
    let none : rows_from rounding tank i (count - i) ≡ [] = ap (λ n. rows_from rounding tank i n) e in
    let first : first_wrong 0 (pos 0) (rows_from rounding tank 0 count) ≡ None = sym reached ∙ ap (λ rows. first_wrong i before rows) none in
    let whole : rows_from rounding tank 0 count ≡ rows = sym so_far ∙ ap (λ later. rows ++ later) none ∙ append-nil rows in
    let P : ℕ → Type 0 = λ n. unless_wrong (rows_from rounding tank 0 n) (first_wrong 0 (pos 0) (rows_from rounding tank 0 n)) ≡ Ok rows in
    subst P count_is (ap (λ wrong. unless_wrong (rows_from rounding tank 0 count) wrong) first ∙ ap Ok whole)
