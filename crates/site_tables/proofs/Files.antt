-- A table file by the rows of its records.
use Rattle.std.proofs.Common.{◌≡◌, ℕ, ◌+◌, ◌-◌, ◌*◌, List, [], ◌∷◌, ◌++◌, Option, Some, None, ℤ, refl, append_assoc, append-nil, arith}
use Rattle.std.specs.Prelude.{Result, Ok, Err}
use Rattle.farm_base.specs.Steps.{◌>>=◌, IsRefusedAs}
use Rattle.farm_csv.specs.Records.{have_equal_lengths, records_of}
use Rattle.farm_csv.specs.Rows.{AreRows, IsFaultOfRows, below_header, rows_from, with_row}
use Rattle.farm_csv.specs.declared.fault.CsvFault.{CsvFault}
use Rattle.farm_csv.specs.declared.fault.CsvFault.TheVariants.{Uneven, NoRow, NoMemory}
use Rattle.site_keys.specs.declared.codes.TheConstants.{FIELD}
use Rattle.site_keys.specs.declared.fault.SiteFault.{SiteFault}
use Rattle.site_keys.specs.Faults.{bad, detail, reported}
use Rattle.site_tables.specs.Tables.{fault_of, litres_after, litres_of, litres_read, litres_under_header, table_of_file, table_of_records, table_of_rows}

-- the litres of records as `farm_csv` defines rows
abbrev rows_of : ℕ → List (List (List ℕ)) → Result (List ℤ) ℕ
rows_of above records = rows_from (λ above fields. litres_of (10 * above) fields) above records

-- litres after others, or the fault of the first record that has none
abbrev after : ℕ → List ℤ → Result (List ℤ) ℕ → Result (List ℤ) SiteFault
after item done (Ok litres) = Ok (done ++ litres)
after item done (Err number) = bad FIELD item (detail number)

-- both are read alike
litres_agree : (item above : ℕ) (done : List ℤ) (records : List (List (List ℕ))) → litres_after item (above + 1) done records ≡ after item done (rows_of above records)
litres_agree item above done [] = rw (append-nil done) refl
litres_agree item above done (fields ∷ records) =
    let level : above + 1 - 1 ≡ above = omega arith in
    rw level (by (litres_of (10 * above) fields) (rows_of (above + 1) records) (λ litres. litres_agree item (above + 1) (done ++ litres ∷ []) records))
  where
    by : (row : Option ℤ) (more : Result (List ℤ) ℕ) → ((litres : ℤ) → litres_after item (above + 1 + 1) (done ++ litres ∷ []) records ≡ after item (done ++ litres ∷ []) more) →
        (litres_read item (above + 1) row >>= λ litres. litres_after item (above + 1 + 1) (done ++ litres ∷ []) records) ≡ after item done (with_row (above + 1) row more)
    by None more same = refl
    by (Some litres) (Ok rest) same = rw (same litres, append_assoc done (litres ∷ []) rest) refl
    by (Some litres) (Err number) same = rw (same litres) refl

-- the litres below a header
under_header : (item : ℕ) (records : List (List (List ℕ))) → litres_under_header item records ≡ after item [] (rows_of 0 (below_header records))
under_header item [] = refl
under_header item (header ∷ records) = litres_agree item 0 [] records

-- the table of a file with rows
pub file_of_rows : (item : ℕ) (text : List ℕ) (rows : List ℤ) → AreRows (λ above fields. litres_of (10 * above) fields) (have_equal_lengths (records_of text)) (below_header (records_of text)) rows →
    table_of_file item text ≡ table_of_rows item rows
unfolding table_of_file table_of_records
file_of_rows item text rows are = rw (are.0, under_header item (records_of text), are.1) refl

-- a file whose records have a fault
pub file_of_fault : (item : ℕ) (text : List ℕ) (fault : CsvFault) → IsFaultOfRows (λ above fields. litres_of (10 * above) fields) (have_equal_lengths (records_of text)) (below_header (records_of text)) fault →
    IsRefusedAs (reported (fault_of item fault)) (table_of_file item text)
unfolding table_of_file table_of_records
file_of_fault item text Uneven is = rw is refl
file_of_fault item text (NoRow number) is = rw (is.0, under_header item (records_of text), is.1) refl
file_of_fault item text NoMemory is = tt
