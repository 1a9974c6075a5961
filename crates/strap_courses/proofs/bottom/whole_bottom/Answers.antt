-- Answers to the open goals of `whole_bottom`.
use Rattle.std.proofs.Common.{◌-◌, ◌^◌, length, ℤ, pos, w64, sym, ap, ◌∙◌, subst, arith, rules}
use mir.Val.{SFits}
use Rattle.std.proofs.lemmas.Int.{to_z-of_z}
use Rattle.farm_fixed.specs.Range.{IsWithin}
use Rattle.strap_courses.specs.Courses.{Point}
use Rattle.strap_courses.proofs.Points.{last_at, point_volume}
use Rattle.strap_courses.proofs.bottom.whole_bottom.Goals as goal

pub returns-in-Some-clause-value : goal.returns-in-Some-clause-value
returns-in-Some-clause-value c =
    let item = c.in-Some.ensures.item in
    let P : Point → Type 0 = λ p. IsWithin (pos 0) (pos (10 ^ 9)) p.1 in
    let within = subst P (sym item.1) (point_volume c.args.bottom.now c.in-Some.field-0.now (length c.args.bottom.now - 1) c.requires (omega (arith, item.3.0))) in
    let fits : SFits w64 c.in-Some.field-0.now.1 = search rules in
    to_z-of_z w64 c.in-Some.field-0.now.1 fits ∙ ap (λ (p : Point). p.1) (item.1 ∙ sym (last_at c.args.bottom.now _ item.3.0))

pub returns-in-Some-clause-range : goal.returns-in-Some-clause-range
returns-in-Some-clause-range c =
    let item = c.in-Some.ensures.item in
    let P : Point → Type 0 = λ p. IsWithin (pos 0) (pos (10 ^ 9)) p.1 in
    let Q : ℤ → Type 0 = λ v. IsWithin (pos 0) (pos (10 ^ 9)) v in
    let within = subst P (sym item.1) (point_volume c.args.bottom.now c.in-Some.field-0.now (length c.args.bottom.now - 1) c.requires (omega (arith, item.3.0))) in
    let fits : SFits w64 c.in-Some.field-0.now.1 = search rules in
    subst Q (sym (to_z-of_z w64 c.in-Some.field-0.now.1 fits)) within
