-- Answers to the open goals of `between`.
use Rattle.std.proofs.Common.{◌≡◌, ◌^◌, ℤ, pos, ◌+ℤ◌, ◌-ℤ◌, ◌*ℤ◌, to_z, of_z, w64, subst, sym, ap, ◌∙◌, rules}
use mir.Val.{SFits}
use Rattle.std.specs.Int.{w128}
use Rattle.std.proofs.lemmas.Int.{to_z-of_z}
use Rattle.farm_fixed.specs.Range.{IsWithin}
use Rattle.strap_table.specs.Capacity.{tenths_between}
use Rattle.strap_table.proofs.Bounds.{tenths_in_range}
use Rattle.strap_table.proofs.interpolation.between.Goals as goal

-- what the body computes
of_parts : (row next over below rise above total : ℤ) → below ≡ pos 10 *ℤ row → rise ≡ next -ℤ row → above ≡ rise *ℤ over → total ≡ below +ℤ above →
    total ≡ tenths_between row next over
of_parts row next over below rise above total below_is rise_is above_is total_is =
    total_is ∙ ap (λ b. b +ℤ above) below_is ∙ ap (λ a. pos 10 *ℤ row +ℤ a) (above_is ∙ ap (λ r. r *ℤ over) rise_is)

total : (c : goal.After-sum) → c.sum.result ≡ tenths_between c.args.row c.args.next c.args.over
total c =
    of_parts c.args.row c.args.next c.args.over c.product-below.result c.difference.result c.product-above.result c.sum.result
    (search rules) (search rules) (search rules) (search rules)

in_range : (c : goal.After-sum) → IsWithin (pos 0) (pos (10 ^ 10)) c.sum.result
in_range c =
    let P : ℤ → Type 0 = λ x. IsWithin (pos 0) (pos (10 ^ 10)) x in
    subst P (sym (total c)) (tenths_in_range c.args.row c.args.next c.args.over c.requires.row c.requires.next c.requires.rising c.requires.over.low c.requires.over.high)

fits : (c : goal.After-sum) → SFits w64 c.sum.result
fits c = let range = in_range c in search rules

wide : (c : goal.After-sum) → to_z w128 (of_z w128 c.sum.result) ≡ c.sum.result
wide c = to_z-of_z w128 c.sum.result (search rules)

kept : (c : goal.After-sum) → to_z w64 (of_z w64 (to_z w128 (of_z w128 c.sum.result))) ≡ c.sum.result
kept c = ap (λ x. to_z w64 (of_z w64 x)) (wide c) ∙ to_z-of_z w64 c.sum.result (fits c)

pub overflow_cast-result : goal.overflow_cast-result
overflow_cast-result c = let P : ℤ → Type 0 = λ x. SFits w64 x in subst P (sym (wide c)) (fits c)

pub returns-clause-value : goal.returns-clause-value
returns-clause-value c = kept c ∙ total c

pub returns-clause-range : goal.returns-clause-range
returns-clause-range c = let P : ℤ → Type 0 = λ x. IsWithin (pos 0) (pos (10 ^ 10)) x in subst P (sym (kept c)) (in_range c)
