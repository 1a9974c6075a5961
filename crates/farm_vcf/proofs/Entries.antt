-- The entry of a grid.
use Rattle.std.proofs.Common.{◌≡◌, ℕ, ◌+◌, ◌*◌, ◌<◌, ◌≤◌, true, false, List, length, get_or, Some, None, refl, arith}
use Rattle.std.proofs.Math.Nat.{mul-le-mul_right}
use Rattle.std.proofs.lemmas.Int.{ints}
use Rattle.std.specs.Prelude.{ℤ}
use Rattle.farm_rounding.specs.declared.mode.Mode.{Mode}
use Rattle.farm_vcf.specs.Closest.{IsCovered, closest, is_covered}
use Rattle.farm_vcf.specs.Grid.{Grid, IsEntry, IsGrid, factor_at, grid_factor}
use Rattle.farm_vcf.proofs.Searching.{closest_is, read_at}

-- the factor at the closest density and temperature is the entry
pub is_entry : (mode : Mode) (grid : Grid) (density liquid factor : ℤ) (row column : ℕ) → is_covered density grid.densities ≡ true → is_covered liquid grid.temperatures ≡ true →
    row ≡ closest mode density grid.densities → column ≡ closest mode liquid grid.temperatures → factor ≡ factor_at grid row column → grid_factor mode grid density liquid ≡ Some factor
unfolding grid_factor
is_entry mode grid density liquid factor row column high warm row_is column_is listed =
    rw (high, warm, ← row_is, ← column_is, ← listed) refl

-- a density that is not covered has no entry
pub no_density : (mode : Mode) (grid : Grid) (density liquid : ℤ) → is_covered density grid.densities ≡ false → grid_factor mode grid density liquid ≡ None
unfolding grid_factor
no_density mode grid density liquid low = rw low refl

-- nor for a temperature that is not covered
pub no_temperature : (mode : Mode) (grid : Grid) (density liquid : ℤ) → is_covered density grid.densities ≡ true → is_covered liquid grid.temperatures ≡ false → grid_factor mode grid density liquid ≡ None
unfolding grid_factor
no_temperature mode grid density liquid high cold = rw (high, cold) refl

-- a value that passes its test is covered
covers : (value : ℤ) (listed : List ℤ) → is_covered value listed ≡ true → IsCovered value listed
covers value listed holds = record { from_first = grind (arith, ints); to_last = grind (arith, ints) }

-- the entry in the words of the rule
pub entry_means : (mode : Mode) (grid : Grid) (density liquid factor : ℤ) (row column : ℕ) → 0 < length grid.densities → 0 < length grid.temperatures → is_covered density grid.densities ≡ true → is_covered liquid grid.temperatures ≡ true →
    row ≡ closest mode density grid.densities → column ≡ closest mode liquid grid.temperatures → factor ≡ factor_at grid row column → IsEntry mode grid density liquid factor
entry_means mode grid density liquid factor row column rows columns high warm row_is column_is listed = record {
  within = record { of_density = covers density grid.densities high; of_temperature = covers liquid grid.temperatures warm };
  row = row;
  column = column;
  closest_density = rw row_is (closest_is mode density grid.densities rows);
  closest_temperature = rw column_is (closest_is mode liquid grid.temperatures columns);
  listed = listed;
}

-- a row and a column have a factor
pub place_within : (rows columns row column factors : ℕ) → factors ≡ rows * columns → row < rows → column < columns → row * columns + column < factors
place_within rows columns row column factors full low left =
    let more : (row + 1) * columns ≤ rows * columns = mul-le-mul_right columns (omega arith) in
    omega arith

-- a factor that was read is the one listed in its row and column
pub factor_read : (grid : Grid) (row column : ℕ) (factor : ℤ) → IsGrid grid → row < length grid.densities → column < length grid.temperatures →
    factor ≡ get_or grid.factors (row * length grid.temperatures + column) factor → factor ≡ factor_at grid row column
factor_read grid row column factor law low left read =
    read_at grid.factors _ factor read (place_within (length grid.densities) (length grid.temperatures) row column (length grid.factors) law.one_for_each low left)
