-- A grid of volume correction factors: densities in 0.1 kg/m3 at 15 C, temperatures in 0.01 C, factors in 0.00001.
use Rattle.std.specs.Prelude.{◌≡◌, ℕ, ◌+◌, ◌*◌, ◌≤◌, Bool, ◌&&◌, ◌==◌, nat_le, if◌then◌else◌, List, length, Option, Some, None, ℤ}
use Rattle.farm_rounding.specs.declared.mode.Mode.{Mode}
use Rattle.farm_vcf.specs.Limits.{most_factors}
use Rattle.farm_vcf.specs.Closest.{IsClosest, IsCovered, Rises, closest, is_covered, listed_at}

-- the listed densities and temperatures, and a factor for each, by density and then temperature
pub record Grid : Type 0 where
  pub densities : List ℤ
  pub temperatures : List ℤ
  pub factors : List ℤ

-- the grid of three lists
abbrev pub grid_from : List ℤ → List ℤ → List ℤ → Grid
grid_from densities temperatures factors = record { densities = densities; temperatures = temperatures; factors = factors }

-- densities and temperatures rise, and there are from 1 to 100,000 factors, one for each density and temperature
pub record IsGrid (grid : Grid) : Type 0 where
  pub densities_rise : Rises grid.densities
  pub temperatures_rise : Rises grid.temperatures
  pub one_for_each : length grid.factors ≡ length grid.densities * length grid.temperatures
  pub some : 1 ≤ length grid.factors
  pub not_too_many : length grid.factors ≤ most_factors

-- the test of the numbers of densities, temperatures and factors
abbrev pub is_full : ℕ → ℕ → ℕ → Bool
is_full densities temperatures factors =
    nat_le 1 factors && nat_le factors most_factors && (factors == densities * temperatures)

-- the factor in a row, of one density, and a column, of one temperature, both counted from 0
abbrev pub factor_at : Grid → ℕ → ℕ → ℤ
factor_at grid row column = listed_at grid.factors (row * length grid.temperatures + column)

-- the factor for a density and a temperature
unfoldable pub grid_factor : Mode → Grid → ℤ → ℤ → Option ℤ
grid_factor mode grid density liquid =
    if is_covered density grid.densities && is_covered liquid grid.temperatures
    then Some (factor_at grid (closest mode density grid.densities) (closest mode liquid grid.temperatures))
    else None

-- density and temperature are both within the grid
pub record IsInGrid (grid : Grid) (density liquid : ℤ) : Type 0 where
  pub of_density : IsCovered density grid.densities
  pub of_temperature : IsCovered liquid grid.temperatures

-- a factor is the one listed at the closest density and the closest temperature
pub record IsEntry (mode : Mode) (grid : Grid) (density liquid factor : ℤ) : Type 0 where
  pub within : IsInGrid grid density liquid
  pub row : ℕ
  pub column : ℕ
  pub closest_density : IsClosest mode density grid.densities row
  pub closest_temperature : IsClosest mode liquid grid.temperatures column
  pub listed : factor ≡ factor_at grid row column
