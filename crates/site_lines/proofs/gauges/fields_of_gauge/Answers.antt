-- The fields are those that were read.
use Rattle.std.proofs.Common.{refl}
use Rattle.site_lines.specs.Gauges.{fields_of_gauge}
use Rattle.site_lines.proofs.gauges.fields_of_gauge.Goals as goal

pub returns-clause-fields : goal.returns-clause-fields
unfolding fields_of_gauge
returns-clause-fields c =
    rw (← c.in_ok-level.ensures.field, ← c.in_ok-temperature.ensures.field, ← c.in_ok-water.ensures.field, ← c.in_ok-ambient.ensures.field) refl
