-- Answers to the open goals of `rounded_mean`.
use Rattle.std.proofs.Common.{rules, ℤ, sym, ◌∙◌, subst}
use Rattle.std.specs.Int.{w128}
use Rattle.std.specs.Int.RustNames.{unsigned_abs}
use Rattle.std.proofs.lemmas.Int.{to_z-of_z}
use Rattle.farm_fixed.specs.Range.{IsWithin}
use Rattle.farm_fixed.specs.declared.limits.TheConstants.{LEAST_TEMPERATURE, MOST_TEMPERATURE}
use Rattle.farm_rounding.specs.Multiple.{IsNearest}
use Rattle.farm_readings.proofs.Within.{mean_temperature_within}
use Rattle.farm_readings.proofs.temperatures.rounded_mean.Goals as goal

pub in_range-requires : goal.in_range-requires
in_range-requires c =
    let step = unsigned_abs c.args.step in
    let meaning : IsNearest c.args.mode c.args.total c.args.count step c.nearest.result = search rules in
    let kept = to_z-of_z w128 c.nearest.result (search rules) in
    let P : ℤ → Type 0 = λ x. IsWithin LEAST_TEMPERATURE MOST_TEMPERATURE x in
    subst P (sym kept) (mean_temperature_within c.args.mode c.args.total c.args.count step c.nearest.result c.requires.some c.requires.step.1 c.requires.low c.requires.high meaning)

pub returns-clause-meaning : goal.returns-clause-meaning
returns-clause-meaning c =
    let step = unsigned_abs c.args.step in
    let meaning : IsNearest c.args.mode c.args.total c.args.count step c.nearest.result = search rules in
    let kept = to_z-of_z w128 c.nearest.result (search rules) in
    let P : ℤ → Type 0 = λ x. IsNearest c.args.mode c.args.total c.args.count step x in
    subst P (sym (c.in_range.ensures.units ∙ kept)) meaning
