-- Whether a reading differs enough from the last submitted to be submitted.
use Rattle.std.specs.Prelude.{◌≡◌, ◌⊎◌, ◌≤◌, ◌||◌, nat_le, Bool, true, Option, Some, None}
use Rattle.farm_fixed.specs.Range.{distance}
use Rattle.gauge_maps.specs.declared.map.GaugeMap.{GaugeMap}
use Rattle.modbus_poll.specs.declared.raw.Raw.{Raw}

-- the level or the water differs from the last submitted by at least the deadband
abbrev pub heights_differ : GaugeMap → Raw → Raw → Bool
heights_differ gauge last raw =
    nat_le gauge.deadband_mm (distance last.level raw.level) || nat_le gauge.deadband_mm (distance last.water raw.water)

-- the level, the water or the temperature does
abbrev pub differs : GaugeMap → Raw → Raw → Bool
differs gauge last raw = heights_differ gauge last raw || nat_le gauge.deadband_centi (distance last.temperature raw.temperature)

-- nothing was submitted yet of a gauge, or a reading differs from what was
abbrev pub is_due : GaugeMap → Option Raw → Raw → Bool
is_due gauge None raw = true
is_due gauge (Some last) raw = differs gauge last raw

-- a reading differs from this one by at least the deadband: in the level, in the water or in the temperature
abbrev pub Differs : GaugeMap → Raw → Raw → Type 0
Differs gauge last raw =
    (gauge.deadband_mm ≤ distance last.level raw.level) ⊎ (gauge.deadband_mm ≤ distance last.water raw.water)
    ⊎ (gauge.deadband_centi ≤ distance last.temperature raw.temperature)

-- nothing was submitted of the gauge yet, or the reading differs from what was
abbrev pub IsDue : GaugeMap → Option Raw → Raw → Type 0
IsDue gauge last raw = (last ≡ None) ⊎ ((before : Raw) × (last ≡ Some before) × Differs gauge before raw)
