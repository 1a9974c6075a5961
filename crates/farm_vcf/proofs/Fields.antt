-- The fields of a record, and the rows of records.
use Rattle.std.proofs.Common.{◌≡◌, ◌≢◌, ℕ, zero, suc, ◌+◌, ◌<◌, List, [], ◌∷◌, length, Option, Some, None, refl, arith}
use Rattle.std.specs.Prelude.{Result, Ok, Err}
use Rattle.csv.specs.Records.{field_at}
use Rattle.farm_base.specs.Steps.{IsRefusedAs}
use Rattle.farm_csv.specs.Records.{have_equal_lengths, records_of}
use Rattle.farm_csv.specs.Rows as csv
use Rattle.farm_csv.specs.Rows.{AreRows, IsFaultOfRows, below_header}
use Rattle.farm_csv.specs.declared.fault.CsvFault.{CsvFault}
use Rattle.farm_csv.specs.declared.fault.CsvFault.TheVariants as cause
use Rattle.farm_vcf.specs.declared.rows.Listed.{Listed}
use Rattle.farm_vcf.specs.Faults.{BadField, FactorFault, fault_of, reported}
use Rattle.farm_vcf.specs.Records.{grid_within_limit, grid_of_records, grid_under_header, row_of, row_of_fields, rows_from, vcf_of, with_row}

-- a record of three fields
pub three_fields : (fields : List (List ℕ)) (a b c : List ℕ) → length fields ≡ 3 → Some a ≡ field_at fields 0 → Some b ≡ field_at fields 1 → Some c ≡ field_at fields 2 → row_of fields ≡ row_of_fields a b c
unfolding field_at row_of
three_fields [] a b c three first second third = absurd (omega arith)
three_fields (x ∷ []) a b c three first second third = absurd (omega arith)
three_fields (x ∷ y ∷ []) a b c three first second third = absurd (omega arith)
three_fields (x ∷ y ∷ z ∷ []) a b c three first second third =
    let one : a ≡ x = cc in
    let two : b ≡ y = cc in
    let last : c ≡ z = cc in
    rw (one, two, last) refl
three_fields (x ∷ y ∷ z ∷ w ∷ fields) a b c three first second third = absurd (omega arith)

-- and one of another number
pub not_three : (fields : List (List ℕ)) → length fields ≢ 3 → row_of fields ≡ None
unfolding row_of
not_three [] other = refl
not_three (x ∷ []) other = refl
not_three (x ∷ y ∷ []) other = refl
not_three (x ∷ y ∷ z ∷ []) other = absurd (other (omega arith))
not_three (x ∷ y ∷ z ∷ w ∷ fields) other = refl

-- a record has a field at each index below its length
pub field_there : (fields : List (List ℕ)) (i : ℕ) → i < length fields → None ≡ field_at fields i → ⊥
unfolding field_at
field_there [] i within none = omega arith
field_there (x ∷ fields) zero within none = cc
field_there (x ∷ fields) (suc i) within none = field_there fields i (omega arith) none

-- the rows of records as `farm_csv` defines them
abbrev rows_of : ℕ → List (List (List ℕ)) → Result (List Listed) ℕ
rows_of above records = csv.rows_from (λ above fields. row_of fields) above records

-- the same rows, or the fault of the first record that is no row
abbrev with_fault : Result (List Listed) ℕ → Result (List Listed) FactorFault
with_fault (Ok rows) = Ok rows
with_fault (Err number) = Err (BadField number)

-- both are read alike
rows_agree : (above : ℕ) (records : List (List (List ℕ))) → rows_from (above + 1) records ≡ with_fault (rows_of above records)
rows_agree above [] = refl
rows_agree above (fields ∷ records) = by (row_of fields) (rows_of (above + 1) records) (rows_agree (above + 1) records)
  where
    by : (row : Option Listed) (more : Result (List Listed) ℕ) → rows_from (above + 1 + 1) records ≡ with_fault more →
        with_row (above + 1) row (rows_from (above + 1 + 1) records) ≡ with_fault (csv.with_row (above + 1) row more)
    by None more same = refl
    by (Some row) (Ok rows) same = rw same refl
    by (Some row) (Err number) same = rw same refl

-- the grid of a text with rows
pub vcf_of_rows : (text : List ℕ) (rows : List Listed) → AreRows (λ above fields. row_of fields) (have_equal_lengths (records_of text)) (below_header (records_of text)) rows → vcf_of text ≡ grid_within_limit (Ok rows)
unfolding grid_of_records grid_under_header
vcf_of_rows text rows are = rw (are.0, rows_agree 0 (below_header (records_of text)), are.1) refl

-- a text whose records have a fault
pub vcf_of_fault : (text : List ℕ) (fault : CsvFault) → IsFaultOfRows (λ above fields. row_of fields) (have_equal_lengths (records_of text)) (below_header (records_of text)) fault →
    IsRefusedAs (reported (fault_of fault)) (vcf_of text)
unfolding grid_of_records grid_under_header
vcf_of_fault text cause.Uneven is = rw is refl
vcf_of_fault text (cause.NoRow number) is = rw (is.0, rows_agree 0 (below_header (records_of text)), is.1) refl
vcf_of_fault text cause.NoMemory is = tt
