-- What holds of a gauge that a site may have.
use Rattle.std.proofs.Common.{◌≡◌, ℕ, ◌+◌, ◌<◌, ◌≤◌, true, false, Bool, ◌&&◌, nat_le, nat_lt, Option, Some, None, List, length, get_or, refl, arith}
use Rattle.std.specs.Prelude.{IfSome}
use Rattle.std.specs.List.{list_all}
use Rattle.std.proofs.lemmas.Bool.{and_parts, leb-true}
use Rattle.std.proofs.lemmas.Bool.Decides.{nat_tests}
use Rattle.std.proofs.lemmas.List.Folds.{list_all_at}
use Rattle.farm_fixed.specs.Range.{is_within, is_between}
use Rattle.farm_fixed.specs.declared.limits.TheConstants.{LEAST_TEMPERATURE, MOST_TEMPERATURE}
use Rattle.gauge_maps.specs.declared.map.Field.{Field}
use Rattle.gauge_maps.specs.declared.map.GaugeMap.{GaugeMap}
use Rattle.gauge_maps.specs.declared.map.LineMap.{LineMap}
use Rattle.gauge_maps.specs.declared.map.Valid.{Valid}
use Rattle.modbus_poll.specs.Decoding.{IsScaled}
use Rattle.gauge_maps.specs.Maps.{is_field, is_field_or_none, is_gauge_map, is_host, is_line_map, is_valid_or_none}

-- what the code rests on
pub record IsGauge (gauge : GaugeMap) : Type 0 where
  pub function_least : 3 ≤ gauge.function
  pub function_most : gauge.function ≤ 4
  pub quantity_least : 1 ≤ gauge.quantity
  pub quantity_most : gauge.quantity ≤ 125
  pub level : IsScaled gauge.level
  pub temperature : IsScaled gauge.temperature
  pub water : IfSome gauge.water IsScaled
  pub ambient : IfSome gauge.ambient IsScaled
  pub valid : IfSome gauge.valid (λ valid. valid.bit < 16)

-- a field's factors are in range
scaled : (quantity : ℕ) (field : Field) → is_field quantity field ≡ true → IsScaled field
scaled quantity field is =
    let fits : Bool = is_between 1 2 field.words && nat_le (field.offset + field.words) quantity in
    let a = and_parts (fits && is_between 1 1000000 field.mul) (is_between 1 1000000 field.div) is in
    let b = and_parts fits (is_between 1 1000000 field.mul) a.0 in
    let mul = and_parts (nat_le 1 field.mul) (nat_le field.mul 1000000) b.1 in
    let div = and_parts (nat_le 1 field.div) (nat_le field.div 1000000) a.1 in
    record { mul = leb-true field.mul 1000000 mul.1; div_least = leb-true 1 field.div div.0; div_most = leb-true field.div 1000000 div.1 }

-- so are those of one that may be missing
scaled_or_none : (quantity : ℕ) (field : Option Field) → is_field_or_none quantity field ≡ true → IfSome field IsScaled
scaled_or_none quantity None is = tt
scaled_or_none quantity (Some field) is = scaled quantity field is

-- a validity bit is one of sixteen
bit_in_range : (quantity : ℕ) (valid : Option Valid) → is_valid_or_none quantity valid ≡ true → IfSome valid (λ valid. valid.bit < 16)
bit_in_range quantity None is = tt
bit_in_range quantity (Some valid) is =
    let both = and_parts (nat_lt valid.offset quantity) (nat_le valid.bit 15) is in grind (arith, nat_tests)

-- the tests of what is read
abbrev read_tests : GaugeMap → Bool
read_tests gauge = is_between 3 4 gauge.function && is_between 1 125 gauge.quantity && nat_le (gauge.start + gauge.quantity) 65536

-- and of the fields
abbrev field_tests : GaugeMap → Bool
field_tests gauge =
    read_tests gauge && is_field gauge.quantity gauge.level && is_field gauge.quantity gauge.temperature
    && is_field_or_none gauge.quantity gauge.water && is_field_or_none gauge.quantity gauge.ambient

-- and of the validity bit
abbrev valid_tests : GaugeMap → Bool
valid_tests gauge =
    field_tests gauge && is_within LEAST_TEMPERATURE MOST_TEMPERATURE gauge.ambient_fixed && is_valid_or_none gauge.quantity gauge.valid

-- a gauge that a site may have passes them
passes : (gauge : GaugeMap) → is_gauge_map gauge ≡ true → valid_tests gauge ≡ true
passes gauge is =
    let a = and_parts (valid_tests gauge && is_between 1 1000 gauge.deadband_mm) (is_between 1 1000 gauge.deadband_centi) is in
    (and_parts (valid_tests gauge) (is_between 1 1000 gauge.deadband_mm) a.0).0

-- a gauge that a site may have is one
pub gauge_is : (gauge : GaugeMap) → is_gauge_map gauge ≡ true → IsGauge gauge
gauge_is gauge is =
    let fixed : Bool = is_within LEAST_TEMPERATURE MOST_TEMPERATURE gauge.ambient_fixed in
    let level : Bool = is_field gauge.quantity gauge.level in
    let temperature : Bool = is_field gauge.quantity gauge.temperature in
    let water : Bool = is_field_or_none gauge.quantity gauge.water in
    let ambient : Bool = is_field_or_none gauge.quantity gauge.ambient in
    let read : Bool = read_tests gauge in
    let v = and_parts (field_tests gauge && fixed) (is_valid_or_none gauge.quantity gauge.valid) (passes gauge is) in
    let x = and_parts (field_tests gauge) fixed v.0 in
    let a = and_parts (read && level && temperature && water) ambient x.0 in
    let w = and_parts (read && level && temperature) water a.0 in
    let t = and_parts (read && level) temperature w.0 in
    let l = and_parts read level t.0 in
    let r = and_parts (is_between 3 4 gauge.function && is_between 1 125 gauge.quantity) (nat_le (gauge.start + gauge.quantity) 65536) l.0 in
    let f = and_parts (is_between 3 4 gauge.function) (is_between 1 125 gauge.quantity) r.0 in
    let function = and_parts (nat_le 3 gauge.function) (nat_le gauge.function 4) f.0 in
    let quantity = and_parts (nat_le 1 gauge.quantity) (nat_le gauge.quantity 125) f.1 in
    record {
      function_least = leb-true 3 gauge.function function.0;
      function_most = leb-true gauge.function 4 function.1;
      quantity_least = leb-true 1 gauge.quantity quantity.0;
      quantity_most = leb-true gauge.quantity 125 quantity.1;
      level = scaled gauge.quantity gauge.level l.1;
      temperature = scaled gauge.quantity gauge.temperature t.1;
      water = scaled_or_none gauge.quantity gauge.water w.1;
      ambient = scaled_or_none gauge.quantity gauge.ambient a.1;
      valid = bit_in_range gauge.quantity gauge.valid v.1;
    }

-- each gauge of a line that a site may have is one that a site may have
gauge_of : (gauges : List GaugeMap) (index : ℕ) (default : GaugeMap) → list_all is_gauge_map gauges ≡ true → index < length gauges →
    (test : Bool) → is_gauge_map (get_or gauges index default) ≡ test → test ≡ true
gauge_of gauges index default all inside true is = refl
gauge_of gauges index default all inside false is = let none = list_all_at is_gauge_map gauges index default inside is in cc

-- the gauges of a line that a site may have pass their test
pub gauges_are : (line : LineMap) (index : ℕ) (default : GaugeMap) → is_line_map line ≡ true → index < length line.gauges →
    is_gauge_map (get_or line.gauges index default) ≡ true
gauges_are line index default is inside =
    let few : Bool = is_between 1 16 (length line.gauges) in
    let all = and_parts (is_host line.host && nat_le 1 line.port && few) (list_all is_gauge_map line.gauges) is in
    gauge_of line.gauges index default all.1 inside (is_gauge_map (get_or line.gauges index default)) refl
