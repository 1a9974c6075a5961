-- Answers to the open goals of `gauged`.
use Rattle.std.proofs.Common.{rules, ◌≡◌, IsTrue, Some, None, Ok, List, take, length-take, refl, ap, ◌∙◌, pos, ℤ, sym, subst, arith}
use Rattle.std.specs.Int.{w64}
use Rattle.std.proofs.lemmas.Int.{to_z-of_z}
use Rattle.farm_fixed.specs.Range.{is_within}
use Rattle.farm_fixed.specs.declared.limits.TheConstants.{LEAST_TEMPERATURE, MOST_HEIGHT, MOST_TEMPERATURE}
use Rattle.farm_readings.specs.Readings.{AreTemperatures}
use Rattle.farm_history.specs.declared.command.Command.{Command}
use Rattle.farm_history.specs.Commands.{IsShortList, IsWellFormedCommand, numbers_of}
use Rattle.farm_history.specs.Fields.{first_bad_field}
use Rattle.farm_history.specs.Gauging.{gauge_reading}
use Rattle.history_lookups.proofs.Ranges.{dip_within, gauge_within}
use Rattle.history_lookups.proofs.gauging.gauged.Goals as goal

-- a number that is the same as one of 64 bits is in range with it
height_same : (x y : ℤ) → x ≡ y → IsTrue (is_within (pos 0) MOST_HEIGHT y) → IsTrue (is_within (pos 0) MOST_HEIGHT x)
height_same x y is within = rw is within

-- and so is a temperature
temperature_same : (x y : ℤ) → x ≡ y → IsTrue (is_within LEAST_TEMPERATURE MOST_TEMPERATURE y) → IsTrue (is_within LEAST_TEMPERATURE MOST_TEMPERATURE x)
temperature_same x y is within = rw is within

pub quantity_of-requires : goal.quantity_of-requires
quantity_of-requires c =
    let g = c.in-Gauge in
    let none = subst (λ (command : Command). first_bad_field command ≡ None) g.is c.requires.in_range in
    height_same _ g.level (to_z-of_z w64 g.level (search rules)) (gauge_within g.tank g.level g.water g.temperature g.ambient none).level_within

pub quantity_of-requires-in-Gauge : goal.quantity_of-requires-in-Gauge
quantity_of-requires-in-Gauge c =
    let g = c.in-Gauge in
    let none = subst (λ (command : Command). first_bad_field command ≡ None) g.is c.requires.in_range in
    height_same _ g.water (to_z-of_z w64 g.water (search rules)) (gauge_within g.tank g.level g.water g.temperature g.ambient none).water_within

pub quantity_of-requires-in-Gauge-2 : goal.quantity_of-requires-in-Gauge-2
quantity_of-requires-in-Gauge-2 c =
    let g = c.in-Gauge in
    let none = subst (λ (command : Command). first_bad_field command ≡ None) g.is c.requires.in_range in
    temperature_same _ g.temperature (to_z-of_z w64 g.temperature (search rules)) (gauge_within g.tank g.level g.water g.temperature g.ambient none).temperature_within

pub quantity_of-requires-in-Gauge-3 : goal.quantity_of-requires-in-Gauge-3
quantity_of-requires-in-Gauge-3 c =
    let g = c.in-Gauge in
    let none = subst (λ (command : Command). first_bad_field command ≡ None) g.is c.requires.in_range in
    temperature_same _ g.ambient (to_z-of_z w64 g.ambient (search rules)) (gauge_within g.tank g.level g.water g.temperature g.ambient none).ambient_within

pub quantities_of-requires : goal.quantities_of-requires
quantities_of-requires c =
    let d = c.in-Dip in
    let none = subst (λ (command : Command). first_bad_field command ≡ None) d.is c.requires.in_range in
    let lists = subst (λ (command : Command). IsWellFormedCommand command) d.is c.requires.well_formed in
    (omega arith, (lists.0, (refl, (dip_within d.tank d.outage d.tapes d.water d.temperatures d.ambient none).tapes_within)))

pub quantities_of-requires-in-Dip : goal.quantities_of-requires-in-Dip
quantities_of-requires-in-Dip c =
    let d = c.in-Dip in
    let none = subst (λ (command : Command). first_bad_field command ≡ None) d.is c.requires.in_range in
    let lists = subst (λ (command : Command). IsWellFormedCommand command) d.is c.requires.well_formed in
    (omega arith, (lists.1, (refl, (dip_within d.tank d.outage d.tapes d.water d.temperatures d.ambient none).water_within)))

pub quantities_of-requires-in-Dip-2 : goal.quantities_of-requires-in-Dip-2
quantities_of-requires-in-Dip-2 c =
    let d = c.in-Dip in
    let none = subst (λ (command : Command). first_bad_field command ≡ None) d.is c.requires.in_range in
    let lists = subst (λ (command : Command). IsWellFormedCommand command) d.is c.requires.well_formed in
    (omega arith, (lists.2, (refl, (dip_within d.tank d.outage d.tapes d.water d.temperatures d.ambient none).temperatures_within)))

pub quantity_of-requires-in-Dip : goal.quantity_of-requires-in-Dip
quantity_of-requires-in-Dip c =
    let d = c.in-Dip in
    let none = subst (λ (command : Command). first_bad_field command ≡ None) d.is c.requires.in_range in
    temperature_same _ d.ambient (to_z-of_z w64 d.ambient (search rules)) (dip_within d.tank d.outage d.tapes d.water d.temperatures d.ambient none).ambient_within

pub dip_reading-requires : goal.dip_reading-requires
dip_reading-requires c =
    let d = c.in-Dip in
    let none = subst (λ (command : Command). first_bad_field command ≡ None) d.is c.requires.in_range in
    let lists = subst (λ (command : Command). IsWellFormedCommand command) d.is c.requires.well_formed in
    let short : IsShortList d.temperatures = lists.2 in
    let of_list : take c.from-in-Dip-2.result c.quantities_of-in-Dip-2.result ≡ numbers_of d.temperatures =
    rw c.from-in-Dip-2.ensures c.quantities_of-in-Dip-2.ensures.quantities in
    let temperatures : AreTemperatures (numbers_of d.temperatures) = record {
      some = (dip_within d.tank d.outage d.tapes d.water d.temperatures d.ambient none).some;
      few = omega (arith, length-take {A = ℤ}, short.count);
    } in
    record { temperatures = subst (λ (list : List ℤ). AreTemperatures list) (sym of_list) temperatures }

pub returns-in-Gauge : goal.returns-in-Gauge
returns-in-Gauge c =
    let g = c.in-Gauge in
    let level : c.quantity_of.result ≡ g.level = c.quantity_of.ensures.quantity ∙ to_z-of_z w64 g.level (search rules) in
    let water : c.quantity_of-in-Gauge.result ≡ g.water = c.quantity_of-in-Gauge.ensures.quantity ∙ to_z-of_z w64 g.water (search rules) in
    let temperature : c.quantity_of-in-Gauge-2.result ≡ g.temperature = c.quantity_of-in-Gauge-2.ensures.quantity ∙ to_z-of_z w64 g.temperature (search rules) in
    let ambient : c.quantity_of-in-Gauge-3.result ≡ g.ambient = c.quantity_of-in-Gauge-3.ensures.quantity ∙ to_z-of_z w64 g.ambient (search rules) in
    let same : c.gauge_reading.result ≡ gauge_reading c.args.rounding.now g.level g.water g.temperature g.ambient = cc in
    record { gauged = rw g.is (ap (λ reading. Some (Ok reading)) same) }
