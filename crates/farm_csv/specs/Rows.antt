-- The rows of the records below a header. What a record's row is, below a number of others, is a function; records are counted from 1.
use Rattle.std.specs.Prelude.{◌≡◌, ℕ, ◌+◌, Bool, true, false, List, [], ◌∷◌, ◌++◌, length, Option, Some, None, Result, Ok, Err, IsOk}
use Rattle.farm_csv.specs.declared.fault.CsvFault.{CsvFault}
use Rattle.farm_csv.specs.declared.fault.CsvFault.TheVariants.{Uneven, NoRow, NoMemory}

-- the records below the header; no records where there is no header
abbrev pub below_header : List (List (List ℕ)) → List (List (List ℕ))
below_header [] = []
below_header (header ∷ records) = records

-- one row more, in front
abbrev pub with_row : {A : Type 0} → ℕ → Option A → Result (List A) ℕ → Result (List A) ℕ
with_row number None rows = Err number
with_row number (Some row) (Err bad) = Err bad
with_row number (Some row) (Ok rows) = Ok (row ∷ rows)

-- the rows of records that stand below a number of others, or the number of the first that is no row
abbrev pub rows_from : {A : Type 0} → (ℕ → List (List ℕ) → Option A) → ℕ → List (List (List ℕ)) → Result (List A) ℕ
rows_from row above [] = Ok []
rows_from row above (fields ∷ records) = with_row (above + 1) (row above fields) (rows_from row (above + 1) records)

-- record n of a list, counted from 1, is the first that is no row: those above it have rows, and it has none below them
pub record IsFirstNoRow {A : Type 0} (row : ℕ → List (List ℕ) → Option A) (records : List (List (List ℕ))) (n : ℕ) : Type 0 where
  pub front : List (List (List ℕ))
  pub bad : List (List ℕ)
  pub back : List (List (List ℕ))
  pub split : records ≡ front ++ (bad ∷ back)
  pub counted : n ≡ length front + 1
  pub rows_above : IsOk (rows_from row 0 front)
  pub no_row : row (length front) bad ≡ None

-- records of which it is known whether all have one length have these rows
abbrev pub AreRows : {A : Type 0} → (ℕ → List (List ℕ) → Option A) → Bool → List (List (List ℕ)) → List A → Type 0
AreRows row even records rows = (even ≡ true) × (rows_from row 0 records ≡ Ok rows)

-- a fault of records of which it is known whether all have one length, before any is read as a row
abbrev pub IsFaultOfLengths : Bool → CsvFault → Type 0
IsFaultOfLengths even Uneven = even ≡ false
IsFaultOfLengths even (NoRow number) = ⊥
IsFaultOfLengths even NoMemory = Unit {0}

-- such records have a fault: their lengths, or else the first that is no row; out of memory is no fault of theirs
abbrev pub IsFaultOfRows : {A : Type 0} → (ℕ → List (List ℕ) → Option A) → Bool → List (List (List ℕ)) → CsvFault → Type 0
IsFaultOfRows row even records Uneven = even ≡ false
IsFaultOfRows row even records (NoRow number) = (even ≡ true) × (rows_from row 0 records ≡ Err number)
IsFaultOfRows row even records NoMemory = Unit {0}
