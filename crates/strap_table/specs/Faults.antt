-- Why rows are no capacity table: the first of four causes, each looked for over all rows. Rows count from 0.
use Rattle.std.specs.Prelude.{ℕ, ◌+◌, ◌-◌, ◌<◌, ◌≤◌, nat_lt, if◌then◌else◌, Option, Some, None, List, [], ◌∷◌, length, ℤ, pos, ◌<ℤ◌, ◌≤ℤ◌}
use Rattle.std.specs.Int.RustNames.{int_lt}
use Rattle.farm_base.specs.Steps.{or_else}
use Rattle.farm_fixed.specs.Range.{is_within, IsVolume}
use Rattle.farm_fixed.specs.Limits.{most_litres}
use Rattle.strap_table.specs.Limits.{least_rows, most_rows}
use Rattle.strap_table.specs.declared.faults.TableFault.{TableFault}
use Rattle.strap_table.specs.declared.faults.TableFault.TheVariants.{Short, TooMany, OutOfRange, Falling}
use Rattle.strap_table.specs.Capacity.{row_at}

-- rows are as many as a table may have
pub record HaveTableLength (rows : List ℤ) : Type 0 where
  pub fewest : least_rows ≤ length rows
  pub most : length rows ≤ most_rows

-- row i is the first whose volume isn't from 0 to 10^9 litres
pub record IsFirstOutside (rows : List ℤ) (i : ℕ) : Type 0 where
  pub within : i < length rows
  pub before : (earlier : ℕ) → earlier < i → IsVolume (row_at rows earlier)
  pub outside : ¬ (IsVolume (row_at rows i))

-- row i is the first below the one before it
pub record IsFirstFalling (rows : List ℤ) (i : ℕ) : Type 0 where
  pub within : i < length rows
  pub before : (earlier : ℕ) → earlier + 1 < i → row_at rows earlier ≤ℤ row_at rows (earlier + 1)
  pub some : 0 < i
  pub falls : row_at rows i <ℤ row_at rows (i - 1)

-- rows have a fault, and none of a kind before it
abbrev pub HaveFault : List ℤ → TableFault → Type 0
HaveFault rows Short = length rows < least_rows
HaveFault rows TooMany = most_rows < length rows
HaveFault rows (OutOfRange i) = HaveTableLength rows × IsFirstOutside rows i
HaveFault rows (Falling i) = HaveTableLength rows × ((each : ℕ) → IsVolume (row_at rows each)) × IsFirstFalling rows i

-- the first row from number n on that isn't from 0 to 10^9 litres
abbrev pub first_outside : ℕ → List ℤ → Option ℕ
first_outside n [] = None
first_outside n (row ∷ rows) = if is_within (pos 0) most_litres row then first_outside (n + 1) rows else Some n

-- the first row from number n on that is below the one before it
abbrev pub first_falling : ℕ → ℤ → List ℤ → Option ℕ
first_falling n before [] = None
first_falling n before (row ∷ rows) = if int_lt row before then Some n else first_falling (n + 1) row rows

-- the same of a whole table, whose first row has none before it
abbrev pub falling_row : List ℤ → Option ℕ
falling_row [] = None
falling_row (row ∷ rows) = first_falling 1 row rows

-- too few or too many rows
abbrev pub wrong_length : ℕ → Option TableFault
wrong_length n = if nat_lt n least_rows then Some Short else (if nat_lt most_rows n then Some TooMany else None)

-- a row outside the range
abbrev pub outside : Option ℕ → Option TableFault
outside None = None
outside (Some row) = Some (OutOfRange row)

-- a row that falls
abbrev pub falling : Option ℕ → Option TableFault
falling None = None
falling (Some row) = Some (Falling row)

-- why rows are no capacity table, the first cause of four
unfoldable pub first_fault : List ℤ → Option TableFault
first_fault rows = or_else (wrong_length (length rows)) (or_else (outside (first_outside 0 rows)) (falling (falling_row rows)))
