-- What a gauge map may ask for: registers as the Modbus Application Protocol V1.1b3 numbers them, and the ranges of a site file.
use Rattle.std.specs.Prelude.{ℕ, ◌+◌, ◌&&◌, Bool, true, nat_le, nat_lt, Option, Some, None, List, length}
use Rattle.std.specs.List.{list_all}
use Rattle.farm_fixed.specs.Range.{is_within, is_between}
use Rattle.farm_fixed.specs.Limits.{least_temperature, most_temperature}
use Rattle.modbus_frame.specs.Limits.{least_quantity, most_quantity, read_holding_registers, read_input_registers}
use Rattle.gauge_maps.specs.Limits.{most_bit, most_host_bytes, most_deadband, most_gauges, most_multiplier, most_words, register_count}
use Rattle.gauge_maps.specs.declared.map.Field.{Field}
use Rattle.gauge_maps.specs.declared.map.Valid.{Valid}
use Rattle.gauge_maps.specs.declared.map.GaugeMap.{GaugeMap}
use Rattle.gauge_maps.specs.declared.map.LineMap.{LineMap}

-- a byte is printable and no blank
abbrev pub is_graphic : ℕ → Bool
is_graphic byte = is_between 33 126 byte

-- a host is 1 to 64 printable bytes without a blank
abbrev pub is_host : List ℕ → Bool
is_host host = is_between 1 most_host_bytes (length host) && list_all is_graphic host

-- a field's words lie within the registers that are read
abbrev pub is_field : ℕ → Field → Bool
is_field quantity field =
    is_between 1 most_words field.words && nat_le (field.offset + field.words) quantity && is_between 1 most_multiplier field.mul
    && is_between 1 most_multiplier field.div

-- a field that may be missing
abbrev pub is_field_or_none : ℕ → Option Field → Bool
is_field_or_none quantity None = true
is_field_or_none quantity (Some field) = is_field quantity field

-- the register of a validity bit is one of those that are read
abbrev pub is_valid_or_none : ℕ → Option Valid → Bool
is_valid_or_none quantity None = true
is_valid_or_none quantity (Some valid) = nat_lt valid.offset quantity && nat_le valid.bit most_bit

-- a gauge reads 1 to 125 registers by function 3 or 4, none past the last one, and its fields lie within them
abbrev pub is_gauge_map : GaugeMap → Bool
is_gauge_map gauge =
    is_between read_holding_registers read_input_registers gauge.function && is_between least_quantity most_quantity gauge.quantity
    && nat_le (gauge.start + gauge.quantity) register_count
    && is_field gauge.quantity gauge.level && is_field gauge.quantity gauge.temperature
    && is_field_or_none gauge.quantity gauge.water && is_field_or_none gauge.quantity gauge.ambient
    && is_within least_temperature most_temperature gauge.ambient_fixed && is_valid_or_none gauge.quantity gauge.valid
    && is_between 1 most_deadband gauge.deadband_mm && is_between 1 most_deadband gauge.deadband_centi

-- a line has a host, a port, and 1 to 16 gauges
abbrev pub is_line_map : LineMap → Bool
is_line_map line =
    is_host line.host && nat_le 1 line.port && is_between 1 most_gauges (length line.gauges) && list_all is_gauge_map line.gauges
