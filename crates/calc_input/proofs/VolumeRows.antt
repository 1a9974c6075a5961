-- Volumes that are read one after another.
use Rattle.std.proofs.Common.{◌≡◌, ℕ, zero, suc, ◌+◌, ◌-◌, ◌<◌, ◌≤◌, List, [], ◌∷◌, ◌++◌, length, append_assoc, append-nil, Bool, true, false, cond, if◌then◌else◌, option_and_then, Option, Some, None, Result, Ok, Err, ℤ, pos, refl, sym, ap, subst, ◌∙◌, arith}
use Rattle.std.proofs.lemmas.Bool.Decides.{nat_tests}
use Rattle.std.specs.Int.RustNames.{int_lt}
use Rattle.strap_table.specs.Faults.{first_outside, first_falling, first_fault, falling_row, wrong_length}
use Rattle.farm_fixed.specs.Range.{is_within}
use Rattle.farm_fixed.specs.Parsing.{quantity_of}
use Rattle.farm_fixed.specs.declared.limits.TheConstants.{LEAST_UNITS, MOST_LITRES, MOST_UNITS}
use Rattle.strap_table.specs.declared.faults.TheConstants.{MOST_ROWS}
use Rattle.std.specs.Result.{result_ok, MatchResult, IsOk}
use Rattle.strap_table.specs.declared.faults.TableFault.{TableFault}
use Rattle.calc_input.specs.Lines.{line_at, words_of}
use Rattle.calc_input.specs.Fields.{within, volume_of}
use Rattle.calc_input.specs.TableRows.{volume_in, row_of, rows_from, rows_then, with_row}

-- rows before those of an answer
abbrev pub onto : List ℤ → Result (List ℤ) ℕ → Result (List ℤ) ℕ
onto rows (Ok others) = Ok (rows ++ others)
onto rows (Err line) = Err line

-- one row more before them
onto_more : (rows : List ℤ) (row : ℤ) (answer : Result (List ℤ) ℕ) → onto rows (with_row row answer) ≡ onto (rows ++ row ∷ []) answer
onto_more rows row (Ok others) = ap Ok (sym (append_assoc rows (row ∷ []) others))
onto_more rows row (Err line) = refl

-- the line that is read is a row
more_by : (count n : ℕ) (before row : ℤ) (rows : List ℤ) (lines : List (List ℕ)) → row_of before (line_at lines n) ≡ Some row →
    onto rows (rows_from (suc count) n before lines) ≡ onto (rows ++ row ∷ []) (rows_from count (n + 1) row lines)
unfolding rows_from
more_by count n before row rows lines is_row =
    ap (λ r. onto rows (rows_then r n (λ next. rows_from count (n + 1) next lines))) is_row ∙ onto_more rows row (rows_from count (n + 1) row lines)

-- if line `i` of the table is a row, the rows from there on are this one and those after it
pub one_row_more : (count i : ℕ) (before row : ℤ) (rows : List ℤ) (lines : List (List ℕ)) → i < count → row_of before (line_at lines (i + 1)) ≡ Some row →
    onto rows (rows_from (count - i) (i + 1) before lines) ≡ onto (rows ++ row ∷ []) (rows_from (count - (i + 1)) (i + 1 + 1) row lines)
one_row_more count i before row rows lines within is_row =
    let P : ℕ → Type 0 = λ left. onto rows (rows_from left (i + 1) before lines) ≡ onto (rows ++ row ∷ []) (rows_from (count - (i + 1)) (i + 1 + 1) row lines) in
    let left : suc (count - (i + 1)) ≡ count - i = omega arith in
    subst P left (more_by (count - (i + 1)) (i + 1) before row rows lines is_row)

-- the line that is read is no row
refused_by : (count n : ℕ) (before : ℤ) (rows : List ℤ) (lines : List (List ℕ)) → row_of before (line_at lines n) ≡ None →
    onto rows (rows_from (suc count) n before lines) ≡ Err (n + 1)
unfolding rows_from
refused_by count n before rows lines no_row = ap (λ r. onto rows (rows_then r n (λ next. rows_from count (n + 1) next lines))) no_row

-- if it is no row, the fault is at this line
pub no_row_here : (count i : ℕ) (before : ℤ) (rows : List ℤ) (lines : List (List ℕ)) → i < count → row_of before (line_at lines (i + 1)) ≡ None →
    onto rows (rows_from (count - i) (i + 1) before lines) ≡ Err (i + 1 + 1)
no_row_here count i before rows lines within no_row =
    let P : ℕ → Type 0 = λ left. onto rows (rows_from left (i + 1) before lines) ≡ Err (i + 1 + 1) in
    let left : suc (count - (i + 1)) ≡ count - i = omega arith in
    subst P left (refused_by (count - (i + 1)) (i + 1) before rows lines no_row)

-- all rows are read
pub rows_done : (count i : ℕ) (before : ℤ) (rows : List ℤ) (lines : List (List ℕ)) → count ≤ i → onto rows (rows_from (count - i) (i + 1) before lines) ≡ Ok rows
unfolding rows_from
rows_done count i before rows lines past =
    let none : 0 ≡ count - i = omega arith in
    let P : ℕ → Type 0 = λ left. onto rows (rows_from left (i + 1) before lines) ≡ Ok rows in
    subst P none (ap Ok (append-nil rows))

-- a row that was read is a volume, and not below the one before
pub record IsRowAfter (before row : ℤ) : Type 0 where
  pub inside : is_within (pos 0) MOST_LITRES row ≡ true
  pub risen : int_lt row before ≡ false

-- a value that passed the test of a range is within it
kept_if : (least most row value : ℤ) (b : Bool) → is_within least most value ≡ b → cond b (Some value) None ≡ Some row → is_within least most row ≡ true
kept_if least most row value true test kept = let same : value ≡ row = cc in (subst (λ (v : ℤ). is_within least most v ≡ true) same test)
kept_if least most row value false test kept = cc

-- so is one that was found within a range
kept_within : (least most row : ℤ) (value : Option ℤ) → within least most value ≡ Some row → is_within least most row ≡ true
kept_within least most row None kept = cc
kept_within least most row (Some value) kept = kept_if least most row value (is_within least most value) refl kept

-- a volume is from 0 to the greatest number of litres
volume_inside : (word : List ℕ) (row : ℤ) → volume_of word ≡ Some row → is_within (pos 0) MOST_LITRES row ≡ true
unfolding volume_of
volume_inside word row is =
    kept_within (pos 0) MOST_LITRES row (result_ok (quantity_of 0 LEAST_UNITS MOST_UNITS word)) is

-- the volume of a line is within the range of a capacity table
pub in_words : (words : List (List ℕ)) (row : ℤ) → volume_in words ≡ Some row → is_within (pos 0) MOST_LITRES row ≡ true
in_words [] row is = cc
in_words (word ∷ []) row is = volume_inside word row is
in_words (word ∷ next ∷ words) row is = cc

-- a value that passed the test against the one before is not below it
not_fallen : (before row value : ℤ) (b : Bool) → int_lt value before ≡ b → cond b None (Some value) ≡ Some row → (value ≡ row) × (int_lt row before ≡ false)
not_fallen before row value true test kept = cc
not_fallen before row value false test kept = let same : value ≡ row = cc in (same, subst (λ (v : ℤ). int_lt v before ≡ false) same test)

-- a volume that is not below the one before is a row after it
from_volume : (before row : ℤ) (words : List (List ℕ)) (value : Option ℤ) → volume_in words ≡ value →
    option_and_then (λ v. if int_lt v before then None else Some v) value ≡ Some row → IsRowAfter before row
from_volume before row words None is kept = cc
from_volume before row words (Some value) is kept =
    let risen = not_fallen before row value (int_lt value before) refl kept in
    record { inside = in_words words row (is ∙ ap Some risen.0); risen = risen.1 }

-- a row that is read is a row after the one before it
pub row_good : (before row : ℤ) (line : List ℕ) → row_of before line ≡ Some row → IsRowAfter before row
unfolding row_of
row_good before row line is = from_volume before row (words_of line) (volume_in (words_of line)) refl is

-- rows that were read are those of a capacity table
pub record AreRows (count : ℕ) (before : ℤ) (rows : List ℤ) : Type 0 where
  pub all : length rows ≡ count
  pub inside : (n : ℕ) → first_outside n rows ≡ None
  pub rising : (n : ℕ) → first_falling n before rows ≡ None

-- a row, and then rows after it, are rows after the one before it
rest_good : (count n : ℕ) (before : ℤ) (rows : List ℤ) (row : ℤ) → IsRowAfter before row → (others : Result (List ℤ) ℕ) →
    ((more : List ℤ) → others ≡ Ok more → AreRows count row more) → with_row row others ≡ Ok rows → AreRows (suc count) before rows
rest_good count n before rows row good (Err line) known is = cc
rest_good count n before [] row good (Ok more) known is = cc
rest_good count n before (first ∷ rest) row good (Ok more) known is =
    let head : row ≡ first = cc in
    let tail : more ≡ rest = cc in
    let after = known more refl in
    let P : ℤ → List ℤ → Type 0 = λ r rs. AreRows (suc count) before (r ∷ rs) in
    let whole : AreRows (suc count) before (row ∷ more) = record {
      all = omega (arith, after.all);
      inside = λ k. rw good.inside (after.inside (k + 1));
      rising = λ k. rw good.risen (after.rising (k + 1));
    } in
    subst (λ (r : ℤ). P r rest) head (subst (λ (rs : List ℤ). P row rs) tail whole)

-- rows that are read are such rows, if those after the first are
first_good : (count n : ℕ) (before : ℤ) (lines : List (List ℕ)) (rows : List ℤ) (read : Option ℤ) → row_of before (line_at lines n) ≡ read →
    ((row : ℤ) (more : List ℤ) → rows_from count (n + 1) row lines ≡ Ok more → AreRows count row more) →
    rows_then read n (λ row. rows_from count (n + 1) row lines) ≡ Ok rows → AreRows (suc count) before rows
first_good count n before lines rows None read known is = cc
first_good count n before lines rows (Some row) read known is =
    rest_good count n before rows row (row_good before row (line_at lines n) read) (rows_from count (n + 1) row lines) (known row) is

-- rows that are read are such rows
pub rows_good : (count n : ℕ) (before : ℤ) (lines : List (List ℕ)) (rows : List ℤ) → rows_from count n before lines ≡ Ok rows → AreRows count before rows
unfolding rows_from
rows_good zero n before lines [] is = record { all = refl; inside = λ _. refl; rising = λ _. refl }
rows_good zero n before lines (row ∷ rows) is = cc
rows_good (suc count) n before lines rows is =
    first_good count n before lines rows (row_of before (line_at lines n)) refl (λ row more read. rows_good count (n + 1) row lines more read) is

-- so they have no fault
falling_behind : (before row : ℤ) (rows : List ℤ) (b : Bool) → int_lt row before ≡ b → cond b (Some 0) (first_falling 1 row rows) ≡ None → first_falling 1 row rows ≡ None
falling_behind before row rows true test none = cc
falling_behind before row rows false test none = none

-- rows none of which is below the one before it have no falling row
falling_none : (before : ℤ) (rows : List ℤ) → ((n : ℕ) → first_falling n before rows ≡ None) → falling_row rows ≡ None
falling_none before [] rising = refl
falling_none before (row ∷ rows) rising = falling_behind before row rows (int_lt row before) refl (rising 0)

-- from 2 to 5,001 rows are a right number
length_right : (n : ℕ) → 2 ≤ n → n ≤ MOST_ROWS → wrong_length n ≡ None
length_right n least most = grind (arith, nat_tests)

-- rows that are read are a capacity table: they have no fault
pub rows_are_table : (count : ℕ) (lines : List (List ℕ)) (rows : List ℤ) → 2 ≤ count → count ≤ MOST_ROWS → rows_from count 1 (pos 0) lines ≡ Ok rows → first_fault rows ≡ None
unfolding first_fault
rows_are_table count lines rows least most is =
    let good = rows_good count 1 (pos 0) lines rows is in
    let right : wrong_length (length rows) ≡ None = length_right (length rows) (omega (arith, good.all)) (omega (arith, good.all)) in
    let flat : falling_row rows ≡ None = falling_none (pos 0) rows good.rising in
    let inside : first_outside 0 rows ≡ None = good.inside 0 in
    rw (right, inside, flat) refl

-- such rows are taken
pub rows_taken : {T : Type 0} (result : Result T TableFault) (rows : List ℤ) →
    MatchResult result (λ _. first_fault rows ≡ None) (λ fault. first_fault rows ≡ Some fault) → first_fault rows ≡ None → IsOk result
rows_taken (Ok table) rows first good = refl
rows_taken (Err fault) rows first good = cc
