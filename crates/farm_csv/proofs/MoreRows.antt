-- Rows of records, one after the other.
use Rattle.std.proofs.Common.{◌≡◌, ℕ, ◌+◌, List, [], ◌∷◌, ◌++◌, length, Option, Some, Bool, refl, ap, append_assoc, length-append, arith}
use Rattle.std.specs.Prelude.{Result, Ok, Err}
use Rattle.farm_csv.specs.Rows.{IsFaultOfLengths, IsFaultOfRows, rows_from, with_row}
use Rattle.farm_csv.specs.declared.fault.CsvFault.{CsvFault}
use Rattle.farm_csv.specs.declared.fault.CsvFault.TheVariants.{Uneven, NoRow, NoMemory}

-- rows that stand before those that are found
abbrev pub prepended : {A : Type 0} → List A → Result (List A) ℕ → Result (List A) ℕ
prepended rows (Ok more) = Ok (rows ++ more)
prepended rows (Err bad) = Err bad

-- a row that is found joins those before it
pub one_more : {A : Type 0} (rows : List A) (number : ℕ) (row : A) (found : Result (List A) ℕ) → prepended (rows ++ row ∷ []) found ≡ prepended rows (with_row number (Some row) found)
one_more rows number row (Ok more) = ap Ok (append_assoc rows (row ∷ []) more)
one_more rows number row (Err bad) = refl

-- a record that is a row joins those before it
pub rows_on : {A : Type 0} (read : ℕ → List (List ℕ) → Option A) (rows after : List A) (records more : List (List (List ℕ))) (fields : List (List ℕ)) (row : A) →
    records ≡ fields ∷ more → read (length rows) fields ≡ Some row → after ≡ rows ++ row ∷ [] →
    prepended after (rows_from read (length after) more) ≡ prepended rows (rows_from read (length rows) records)
rows_on read rows after records more fields row split is joined =
    let count : length (rows ++ row ∷ []) ≡ length rows + 1 = length-append rows (row ∷ []) in
    rw (joined, split, count, is) (one_more rows (length rows + 1) row (rows_from read (length rows + 1) more))

-- and one row more is one record less
pub count_on : {A : Type 0} (rows after : List A) (records more : List (List (List ℕ))) (fields : List (List ℕ)) (row : A) →
    records ≡ fields ∷ more → after ≡ rows ++ row ∷ [] → length after + length more ≡ length rows + length records
count_on rows after records more fields row split joined =
    let count : length (rows ++ row ∷ []) ≡ length rows + 1 = length-append rows (row ∷ []) in
    rw (joined, split) (omega (arith, count))

-- a fault of lengths is one of the rows
pub fault_of_rows : {A : Type 0} (read : ℕ → List (List ℕ) → Option A) (even : Bool) (records : List (List (List ℕ))) (fault : CsvFault) → IsFaultOfLengths even fault → IsFaultOfRows read even records fault
fault_of_rows read even records Uneven is = is
fault_of_rows read even records (NoRow number) is = absurd is
fault_of_rows read even records NoMemory is = tt
