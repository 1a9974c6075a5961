-- The tanks and the gauge lines of a site are in the ranges that their bytes have.
use Rattle.std.proofs.Common.{◌≡◌, ℕ, true, not, List, length, Option, Some, None, pos, int_lt, get_or, arith, ◌≤◌}
use Rattle.std.specs.Prelude.{All, IfSome, nat_le}
use Rattle.std.proofs.lemmas.Bool.{and_parts}
use Rattle.std.proofs.lemmas.Bool.Decides.{nat_tests}
use Rattle.std.proofs.lemmas.List.Sums.{AllPass-from_list_all}
use Rattle.farm_fixed.proofs.ParsingLaws.{is_within-true}
use Rattle.farm_fixed.specs.declared.limits.TheConstants.{LEAST_TEMPERATURE, MOST_COEFFICIENT, MOST_ROOF_MASS, MOST_TEMPERATURE}
use Rattle.farm_fixed.specs.Range.{is_within, is_between}
use Rattle.gauge_maps.specs.declared.map.GaugeMap.{GaugeMap}
use Rattle.gauge_maps.specs.declared.map.LineMap.{LineMap}
use Rattle.gauge_maps.specs.Maps.{is_gauge_map, is_line_map}
use Rattle.strap_table.specs.declared.tank.Roof.{Roof}
use Rattle.farm_site.specs.declared.items.Tank.{Tank}
use Rattle.farm_site.specs.Facts.{are_tanks}
use Rattle.farm_site.specs.Tanks.{is_roof, is_tank}
use Rattle.gauge_maps.specs.declared.limits.TheConstants.{MOST_HOST_BYTES, MOST_GAUGES}
use Rattle.farm_site.specs.Lines.{are_lines}
use Rattle.site_encoding.specs.Sizes.{IsGaugeInRange, IsLineInRange, IsRoofWithMass, IsTankInRange}

-- a roof of a site has a mass
roof_with_mass : (roof : Option Roof) → is_roof roof ≡ true → IfSome roof IsRoofWithMass
roof_with_mass None is = tt
roof_with_mass (Some roof) is =
    is_within-true (pos 1) MOST_ROOF_MASS roof.mass (and_parts (is_within (pos 1) MOST_ROOF_MASS roof.mass) (not (int_lt roof.high roof.low)) is).0

-- a tank of a site is in range
tank_in_range : (products : List ℕ) (tank : Tank) → is_tank products tank ≡ true → IsTankInRange tank
tank_in_range products tank is =
    let without_opening = (and_parts _ _ is).0 in
    let spec = (and_parts _ _ without_opening).1 in
    let roof = (and_parts _ _ spec).1 in
    let rest = (and_parts _ _ spec).0 in
    let coefficient = (and_parts _ _ rest).0 in
    record {
      coefficient = is_within-true (pos 0) MOST_COEFFICIENT tank.spec.shell.coefficient coefficient;
      roof = roof_with_mass tank.spec.roof roof;
    }

-- and so is each
pub tanks_in_range : (products : List ℕ) (tanks : List Tank) → are_tanks products tanks ≡ true → All IsTankInRange tanks
tanks_in_range products tanks are =
    let numbered = (and_parts _ _ are).1 in
    let each = AllPass-from_list_all (is_tank products) tanks (and_parts _ _ numbered).0 in
    λ k d below. tank_in_range products (get_or tanks k d) (each k d below)

-- the gauges of a line of a site are in range
gauge_in_range : (gauge : GaugeMap) → is_gauge_map gauge ≡ true → IsGaugeInRange gauge
gauge_in_range gauge is =
    let to_deadband = (and_parts _ _ is).0 in
    let to_valid = (and_parts _ _ to_deadband).0 in
    let to_fixed = (and_parts _ _ to_valid).0 in
    is_within-true LEAST_TEMPERATURE MOST_TEMPERATURE gauge.ambient_fixed (and_parts _ _ to_fixed).1

-- a number that lies in a range is at most its end
at_most : (least most n : ℕ) → is_between least most n ≡ true → n ≤ most
at_most least most n is = let high : nat_le n most ≡ true = (and_parts (nat_le least n) (nat_le n most) is).1 in grind (arith, nat_tests)

-- a line of a site is in range
line_in_range : (line : LineMap) → is_line_map line ≡ true → IsLineInRange line
line_in_range line is =
    let gauges = (and_parts _ _ is).1 in
    let to_count = (and_parts _ _ is).0 in
    let count = (and_parts _ _ to_count).1 in
    let to_port = (and_parts _ _ to_count).0 in
    let host = (and_parts _ _ to_port).0 in
    let each = AllPass-from_list_all is_gauge_map line.gauges gauges in
    record {
      host = at_most 1 MOST_HOST_BYTES (length line.host) (and_parts _ _ host).0;
      few = at_most 1 MOST_GAUGES (length line.gauges) count;
      gauges = λ k d below. gauge_in_range (get_or line.gauges k d) (each k d below);
    }

-- and so is each
pub lines_in_range : (tanks : List ℕ) (lines : List LineMap) → are_lines tanks lines ≡ true → All IsLineInRange lines
lines_in_range tanks lines are =
    let counted = (and_parts _ _ are).0 in
    let each = AllPass-from_list_all is_line_map lines (and_parts _ _ counted).1 in
    λ k d below. line_in_range (get_or lines k d) (each k d below)
