-- Answers to the open goals of `volume`.
use Rattle.std.proofs.Common.{◌≡◌, ℕ, ◌≤◌, ◌^◌, ℤ, pos, to_z, of_z, w64, subst, sym, ◌∙◌, arith, rules}
use mir.Val.{SFits}
use Rattle.std.specs.Int.{w128}
use Rattle.std.proofs.lemmas.Int.{ints, to_z-of_z}
use Rattle.std.specs.Int.RustNames.{unsigned_abs}
use Rattle.farm_fixed.specs.Range.{IsWithin}
use Rattle.farm_rounding.specs.declared.mode.Mode.{Mode}
use Rattle.farm_rounding.specs.Multiple.{nearest_multiple}
use Rattle.strap_table.proofs.Bounds.{volume_in_range}
use Rattle.strap_table.proofs.interpolation.volume.Goals as goal

-- what the body computes is the definition's value: each cast keeps its number
without_casts : (mode : Mode) (parts step r : ℤ) (n : ℕ) → SFits w64 parts → SFits w64 step → n ≤ 10 →
    r ≡ nearest_multiple mode (to_z w128 (of_z w128 (to_z w64 (of_z w64 parts)))) (unsigned_abs (to_z w128 n)) (unsigned_abs (to_z w64 (of_z w64 step))) →
    r ≡ nearest_multiple mode parts n (unsigned_abs step)
without_casts mode parts step r n parts_fit step_fits few value =
    let narrow = to_z-of_z w64 parts parts_fit in
    let wide_fits : SFits w128 parts = search rules in
    let wide = to_z-of_z w128 parts wide_fits in
    let step_is = to_z-of_z w64 step step_fits in
    let n_is : unsigned_abs (to_z w128 n) ≡ n = omega (arith, ints) in
    cc

pub in_range-requires : goal.in_range-requires
in_range-requires g c =
    let n = g.row.PARTS in
    let P : ℤ → Type 0 = λ x. IsWithin (pos 0) (pos (10 ^ 9)) x in
    let value = without_casts c.args.mode c.args.parts c.args.step c.nearest.result n c.ranges.parts c.ranges.step c.requires.few c.nearest.ensures.nearest_multiple in
    let fits : SFits w128 c.nearest.result = search rules in
    let kept = to_z-of_z w128 c.nearest.result fits in
    let volume = subst P (sym (kept ∙ value)) (volume_in_range c.args.mode c.args.parts n (unsigned_abs c.args.step) c.requires.some c.requires.step.1 c.requires.parts.low c.requires.parts.high) in
    record { low = omega (arith, ints, volume.low); high = omega (arith, ints, volume.high) }

pub returns-clause-value : goal.returns-clause-value
returns-clause-value g c =
    let n = g.row.PARTS in
    let value = without_casts c.args.mode c.args.parts c.args.step c.nearest.result n c.ranges.parts c.ranges.step c.requires.few c.nearest.ensures.nearest_multiple in
    let fits : SFits w128 c.nearest.result = search rules in
    let kept = to_z-of_z w128 c.nearest.result fits in
    c.in_range.ensures.units ∙ kept ∙ value

pub returns-clause-range : goal.returns-clause-range
returns-clause-range g c =
    let P : ℤ → Type 0 = λ x. IsWithin (pos 0) (pos (10 ^ 9)) x in
    subst P (sym (returns-clause-value g c))
    (volume_in_range c.args.mode c.args.parts g.row.PARTS (unsigned_abs c.args.step) c.requires.some c.requires.step.1 c.requires.parts.low c.requires.parts.high)
