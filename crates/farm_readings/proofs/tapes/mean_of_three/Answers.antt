-- Answers to the open goals of `mean_of_three`.
use Rattle.std.proofs.Common.{rules, IsTrue, ℤ, pos, ◌+ℤ◌, sym, subst}
use Rattle.std.specs.Int.{w128}
use Rattle.std.proofs.lemmas.Int.{to_z-of_z}
use Rattle.farm_fixed.specs.Range.{IsWithin}
use Rattle.farm_fixed.specs.declared.limits.TheConstants.{MOST_HEIGHT}
use Rattle.farm_rounding.specs.Multiple.{IsNearest, is_step}
use Rattle.farm_rounding.specs.Table.{Row, row_at}
use Rattle.farm_rounding.specs.declared.table.TheConstants.{TAPE_MEAN}
use Rattle.farm_readings.proofs.Within.{mean_height, sum_within}
use Rattle.farm_readings.proofs.tapes.mean_of_three.Goals as goal

pub in_range-requires : goal.in_range-requires
in_range-requires c =
    let row : Row = row_at c.args.rounding.now TAPE_MEAN in
    let total : ℤ = c.args.first +ℤ c.args.second +ℤ c.args.third in
    let meaning : IsNearest row.1 total 3 row.0 c.nearest.result = search rules in
    let allowed : IsTrue (is_step row.0) = search rules in
    let P : ℤ → Type 0 = λ x. IsWithin (pos 0) MOST_HEIGHT x in
    let first : P c.args.first = subst P c.get.ensures.units c.get.ensures.range in
    let second : P c.args.second = subst P c.get-2.ensures.units c.get-2.ensures.range in
    let third : P c.args.third = subst P c.get-3.ensures.units c.get-3.ensures.range in
    let within = sum_within c.args.first c.args.second c.args.third first second third in
    let kept = to_z-of_z w128 c.nearest.result (search rules) in
    subst P (sym kept) (mean_height row.1 total row.0 c.nearest.result allowed within meaning)
