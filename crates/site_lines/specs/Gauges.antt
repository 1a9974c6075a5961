-- The gauges of a line: what is asked of the device, and which registers are a tank's level and temperatures.
use Rattle.std.specs.Prelude.{ℕ, ◌+◌, ◌-◌, ◌&&◌, Bool, nat_le, if◌then◌else◌, List, [], ◌∷◌, ◌++◌, codes, Result, Ok, ℤ}
use Rattle.farm_base.specs.Steps.{◌>>=◌}
use Rattle.toml.specs.Data.{Data}
use Rattle.farm_fixed.specs.Range.{is_between}
use Rattle.farm_fixed.specs.Limits.{least_temperature, most_temperature}
use Rattle.modbus_frame.specs.Limits.{least_quantity, most_quantity, read_holding_registers, read_input_registers}
use Rattle.gauge_maps.specs.Limits.{most_unit, most_deadband, register_count}
use Rattle.gauge_maps.specs.Maps.{is_field, is_field_or_none}
use Rattle.gauge_maps.specs.declared.map.GaugeMap.{GaugeMap}
use Rattle.site_keys.specs.Codes.{code_of_repeated}
use Rattle.site_keys.specs.declared.fault.SiteFault.{SiteFault}
use Rattle.site_keys.specs.Faults.{bad, ranged}
use Rattle.site_keys.specs.Keys.{Keys, has, keys_of, natural_at, natural_or, whole_at}
use Rattle.farm_site.specs.Numbers.{is_among}
use Rattle.site_keys.specs.Lists.{reference_at}
use Rattle.farm_site.specs.Lines.{tanks_gauged}
use Rattle.gauge_maps.specs.declared.request.Request.{Request}
use Rattle.site_lines.specs.declared.gauges.GaugeFields.{GaugeFields}
use Rattle.site_lines.specs.Limits.{usual_ambient, usual_deadband_centi, usual_deadband_mm}
use Rattle.site_lines.specs.Fields.{field_at, field_or_none, valid_or_none}

-- the ambient temperature where a gauge gives none: 15.00 C where it isn't said
unfoldable pub ambient_fixed_at : Keys → Result ℤ SiteFault
ambient_fixed_at keys =
    if has keys (codes "ambient_fixed") then whole_at keys (codes "ambient_fixed") least_temperature most_temperature
    else Ok usual_ambient

-- the tank of a gauge: one of the site that no earlier gauge is on
unfoldable pub gauged_tank_at : List ℕ → List ℕ → Keys → Result ℕ SiteFault
gauged_tank_at tanks gauged keys = do
  tank ← reference_at keys (codes "tank") tanks
  if is_among tank gauged then bad code_of_repeated keys.item 0 else Ok tank

-- how many registers are read from the first
unfoldable pub quantity_from : ℕ → Keys → Result ℕ SiteFault
quantity_from start keys = do
  quantity ← natural_at keys (codes "quantity") least_quantity most_quantity
  ranged keys.item (nat_le (start + quantity) register_count) quantity

-- what is asked of a device: the unit and the function, and then the first register and how many are read
unfoldable pub request_at : Keys → Result Request SiteFault
request_at keys = do
  unit ← natural_at keys (codes "unit") 0 most_unit
  function ← natural_at keys (codes "function") read_holding_registers read_input_registers
  start ← natural_at keys (codes "start") 0 (register_count - 1)
  quantity ← quantity_from start keys
  Ok (record { unit = unit; function = function; start = start; quantity = quantity })

-- holding or input registers, 1 to 125 of them and none past the last one
abbrev pub is_request : Request → Bool
is_request request =
    is_between read_holding_registers read_input_registers request.function && is_between least_quantity most_quantity request.quantity
    && nat_le (request.start + request.quantity) register_count

-- the deadbands of the levels and of the temperature, in mm and 0.01 C: 1 mm and 0.05 C where they aren't said
unfoldable pub deadbands_at : Keys → Result (ℕ × ℕ) SiteFault
deadbands_at keys = do
  levels ← natural_or usual_deadband_mm keys (codes "deadband_mm") 1 most_deadband
  temperature ← natural_or usual_deadband_centi keys (codes "deadband_centi") 1 most_deadband
  Ok (levels, temperature)

-- each lies within this number of registers
abbrev pub are_fields : ℕ → GaugeFields → Bool
are_fields quantity fields =
    is_field quantity fields.level && is_field quantity fields.temperature
    && is_field_or_none quantity fields.water && is_field_or_none quantity fields.ambient

-- the fields of a gauge, among this number of registers
unfoldable pub fields_of_gauge : ℕ → Keys → Result GaugeFields SiteFault
fields_of_gauge quantity keys = do
  level ← field_at quantity keys (codes "level")
  temperature ← field_at quantity keys (codes "temperature")
  water ← field_or_none quantity keys (codes "water")
  ambient ← field_or_none quantity keys (codes "ambient")
  Ok (record { level = level; temperature = temperature; water = water; ambient = ambient })

-- a gauge of a table, after gauges on these tanks
unfoldable pub gauge_of : List ℕ → List ℕ → Keys → Result GaugeMap SiteFault
gauge_of tanks gauged keys = do
  tank ← gauged_tank_at tanks gauged keys
  request ← request_at keys
  fields ← fields_of_gauge request.quantity keys
  ambient_fixed ← ambient_fixed_at keys
  valid ← valid_or_none request.quantity keys
  deadbands ← deadbands_at keys
  Ok (record {
    tank = tank;
    unit = request.unit;
    function = request.function;
    start = request.start;
    quantity = request.quantity;
    level = fields.level;
    temperature = fields.temperature;
    water = fields.water;
    ambient = fields.ambient;
    ambient_fixed = ambient_fixed;
    valid = valid;
    deadband_mm = deadbands.0;
    deadband_centi = deadbands.1;
  })

-- the gauges of a line, after gauges of earlier lines on these tanks
abbrev pub gauges_from : ℕ → List ℕ → List ℕ → List GaugeMap → List Data → Result (List GaugeMap) SiteFault
gauges_from item tanks gauged done [] = Ok done
gauges_from item tanks gauged done (value ∷ others) = do
  gauge ← gauge_of tanks (gauged ++ tanks_gauged done) (keys_of item value)
  gauges_from item tanks gauged (done ++ gauge ∷ []) others
