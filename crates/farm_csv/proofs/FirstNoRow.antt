-- The first record that is no row, in the words of the rule.
use Rattle.std.proofs.Common.{◌≡◌, ℕ, ◌+◌, Bool, List, [], ◌∷◌, ◌++◌, length, Option, Some, None, refl, ap, arith}
use Rattle.std.specs.Prelude.{MatchResult, Result, Ok, Err}
use Rattle.farm_csv.specs.Rows.{IsFaultOfRows, IsFirstNoRow, rows_from, with_row}
use Rattle.farm_csv.specs.declared.fault.CsvFault.{CsvFault}
use Rattle.farm_csv.specs.declared.fault.CsvFault.TheVariants.{Uneven, NoRow, NoMemory}

-- record n of records that stand below a number of others is the first that is no row
record Found {A : Type 0} (row : ℕ → List (List ℕ) → Option A) (above : ℕ) (records : List (List (List ℕ))) (n : ℕ) : Type 0 where
  front : List (List (List ℕ))
  bad : List (List ℕ)
  back : List (List (List ℕ))
  split : records ≡ front ++ (bad ∷ back)
  counted : n ≡ above + length front + 1
  rows : List A
  rows_are : rows_from row above front ≡ Ok rows
  no_row : row (above + length front) bad ≡ None

-- the rows end at it
found : {A : Type 0} (row : ℕ → List (List ℕ) → Option A) (above : ℕ) (records : List (List (List ℕ))) (n : ℕ) → rows_from row above records ≡ Err n → Found row above records n
found row above [] n is = cc
found {A = A} row above (fields ∷ records) n is = by (row above fields) (rows_from row (above + 1) records) refl is (found row (above + 1) records n)
  where
    by : (first : Option A) (more : Result (List A) ℕ) → row above fields ≡ first → with_row (above + 1) first more ≡ Err n →
        (more ≡ Err n → Found row (above + 1) records n) → Found row above (fields ∷ records) n
    by None more e is rest =
        let one : above + 1 ≡ n = cc in
        let none : above + 0 ≡ above = omega arith in
        record {
          front = [];
          bad = fields;
          back = records;
          split = refl;
          counted = omega (arith, one);
          rows = [];
          rows_are = refl;
          no_row = rw none e;
        }
    by (Some first) (Err bad) e is rest =
        let later = rest is in
        let place : above + length (fields ∷ later.front) ≡ above + 1 + length later.front = omega arith in
        record {
          front = fields ∷ later.front;
          bad = later.bad;
          back = later.back;
          split = ap (λ list. fields ∷ list) later.split;
          counted = omega (arith, later.counted);
          rows = first ∷ later.rows;
          rows_are = rw (e, later.rows_are) refl;
          no_row = rw place later.no_row;
        }
    by (Some first) (Ok rows) e is rest = cc

-- so a text that is refused at a record has its first that is no row there
pub first_no_row : {A : Type 0} (row : ℕ → List (List ℕ) → Option A) (records : List (List (List ℕ))) (n : ℕ) → rows_from row 0 records ≡ Err n → IsFirstNoRow row records n
first_no_row row records n is =
    let at = found row 0 records n is in
    let place : 0 + length at.front ≡ length at.front = omega arith in
    record {
      front = at.front;
      bad = at.bad;
      back = at.back;
      split = at.split;
      counted = omega (arith, at.counted);
      rows_above = rw at.rows_are refl;
      no_row = rw place at at.no_row;
    }

-- the same of what a call answers
pub first_of_answer : {A V : Type 0} (row : ℕ → List (List ℕ) → Option A) (even : Bool) (records : List (List (List ℕ))) (Rows : V → Type 0) (answer : Result V CsvFault) (n : ℕ) →
    MatchResult answer Rows (IsFaultOfRows row even records) → answer ≡ Err (NoRow n) → IsFirstNoRow row records n
first_of_answer row even records Rows (Ok rows) n is e = cc
first_of_answer row even records Rows (Err Uneven) n is e = cc
first_of_answer row even records Rows (Err NoMemory) n is e = cc
first_of_answer row even records Rows (Err (NoRow number)) n is e =
    let same : number ≡ n = cc in
    first_no_row row records n (rw same at is.1)
