-- Why a text or its rows are no grid. Records are counted from 1 after the header. The definitions answer these faults; a call
-- may also run out of memory, which is no fault of a text.
use Rattle.std.specs.Prelude.{ℕ, Option, Some, None}
use Rattle.farm_csv.specs.declared.fault.CsvFault.{CsvFault}
use Rattle.farm_csv.specs.declared.fault.CsvFault.TheVariants as rows
use Rattle.farm_vcf.specs.declared.fault.VcfFault.{VcfFault}
use Rattle.farm_vcf.specs.declared.fault.VcfFault.TheVariants as variants

-- Some record has another number of fields than the header; a record isn't a density, a temperature and a factor; there are
-- more than 100,000 records; the blocks break at a record.
pub data FactorFault : Type 0 where
  Csv : FactorFault
  BadField : (number : ℕ) → FactorFault
  TooMany : FactorFault
  NotGrid : (number : ℕ) → FactorFault

-- the fault of the definitions that a call reports, where it isn't out of memory
abbrev pub reported : VcfFault → Option FactorFault
reported variants.Csv = Some Csv
reported (variants.BadField number) = Some (BadField number)
reported variants.TooMany = Some TooMany
reported (variants.NotGrid number) = Some (NotGrid number)
reported variants.NoMemory = None

-- what a fault of the records is reported as
abbrev pub fault_of : CsvFault → VcfFault
fault_of rows.Uneven = variants.Csv
fault_of (rows.NoRow number) = variants.BadField number
fault_of rows.NoMemory = variants.NoMemory
