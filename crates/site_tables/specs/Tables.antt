-- Capacity tables of a site: a file of levels and litres, or rows that were made of a strapping.
use Rattle.std.specs.Prelude.{ℕ, ◌+◌, ◌-◌, ◌*◌, ◌==◌, if◌then◌else◌, List, [], ◌∷◌, ◌++◌, length, Option, Some, None, Result, Ok, ℤ, pos}
use Rattle.std.specs.Ordering.{int_eq}
use Rattle.farm_base.specs.Steps.{◌>>=◌}
use Rattle.csv.specs.Records.{field_at}
use Rattle.farm_csv.specs.Blanks.{without_blanks}
use Rattle.farm_csv.specs.Records.{have_equal_lengths, records_of}
use Rattle.farm_csv.specs.declared.fault.CsvFault.{CsvFault}
use Rattle.farm_csv.specs.declared.fault.CsvFault.TheVariants.{Uneven, NoRow, NoMemory}
use Rattle.farm_fixed.specs.Whole.{whole_number}
use Rattle.strap_table.specs.Faults.{first_fault}
use Rattle.strap_table.specs.declared.faults.TableFault.{TableFault}
use Rattle.strap_table.specs.declared.faults.TableFault.TheVariants as rows
use Rattle.site_keys.specs.Codes.{code_of_field, code_of_table, code_of_text}
use Rattle.site_keys.specs.declared.fault.SiteFault.{SiteFault}
use Rattle.site_keys.specs.declared.fault.SiteReadFault.{SiteReadFault}
use Rattle.site_keys.specs.declared.fault.SiteReadFault.TheVariants as read
use Rattle.site_keys.specs.Faults.{bad, detail, fault_at}

-- the litres of a record, if its level is the expected one
abbrev pub litres_at : ℕ → Option ℤ → Option ℤ → Option ℤ
litres_at due None litres = None
litres_at due (Some level) litres = if int_eq level (pos due) then litres else None

-- the whole number in a field, blanks at its ends dropped
abbrev pub number_of : Option (List ℕ) → Option ℤ
number_of None = None
number_of (Some field) = whole_number (without_blanks field)

-- the whole number in field n of a record, the first being 0
unfoldable pub number_in : List (List ℕ) → ℕ → Option ℤ
number_in fields n = number_of (field_at fields n)

-- the litres of a record of a level, the expected one, and litres
unfoldable pub litres_of : ℕ → List (List ℕ) → Option ℤ
litres_of due fields = if length fields == 2 then litres_at due (number_in fields 0) (number_in fields 1) else None

-- the litres that record n gives, if it does
abbrev pub litres_read : ℕ → ℕ → Option ℤ → Result ℤ SiteFault
litres_read item n None = bad code_of_field item (detail n)
litres_read item n (Some litres) = Ok litres

-- the litres of the records from record n on, after others; their levels are 10 mm apart, and record 1 is expected at 0
abbrev pub litres_after : ℕ → ℕ → List ℤ → List (List (List ℕ)) → Result (List ℤ) SiteFault
litres_after item n done [] = Ok done
litres_after item n done (fields ∷ records) = do
  litres ← litres_read item n (litres_of (10 * (n - 1)) fields)
  litres_after item (n + 1) (done ++ litres ∷ []) records

-- the litres of records, of which the first is expected at 0
abbrev pub litres_from : ℕ → List (List (List ℕ)) → Result (List ℤ) SiteFault
litres_from item records = litres_after item 1 [] records

-- the litres of the records after the header
abbrev pub litres_under_header : ℕ → List (List (List ℕ)) → Result (List ℤ) SiteFault
litres_under_header item [] = Ok []
litres_under_header item (header ∷ records) = litres_from item records

-- rows that are a capacity table, or why they aren't
abbrev pub table_read : ℕ → List ℤ → Option TableFault → Result (List ℤ) SiteFault
table_read item litres None = Ok litres
table_read item litres (Some rows.Short) = bad code_of_table item 0
table_read item litres (Some rows.TooMany) = bad code_of_table item 0
table_read item litres (Some (rows.OutOfRange row)) = bad code_of_table item (detail row)
table_read item litres (Some (rows.Falling row)) = bad code_of_table item (detail row)

-- the capacity table of rows
abbrev pub table_of_rows : ℕ → List ℤ → Result (List ℤ) SiteFault
table_of_rows item litres = table_read item litres (first_fault litres)

-- the capacity table of the records of a file
unfoldable pub table_of_records : ℕ → List (List (List ℕ)) → Result (List ℤ) SiteFault
table_of_records item records = do
  litres ← litres_under_header item records
  table_of_rows item litres

-- the capacity table of a file of levels and litres
unfoldable pub table_of_file : ℕ → List ℕ → Result (List ℤ) SiteFault
table_of_file item bytes =
    if have_equal_lengths (records_of bytes) then table_of_records item (records_of bytes) else bad code_of_text item 0

-- what a fault of the records of a file is reported as
abbrev pub fault_of : ℕ → CsvFault → SiteReadFault
fault_of item Uneven = read.Bad (fault_at code_of_text item 0)
fault_of item (NoRow number) = read.Bad (fault_at code_of_field item (detail number))
fault_of item NoMemory = read.NoMemory
