-- Answers to the open goals of `write_quantity`.
use Rattle.std.proofs.Common.{List, ℕ, w64, subst}
use mir.Val.{SFits}
use Rattle.std.proofs.lemmas.Int.{to_z-of_z}
use Rattle.text_pieces.specs.Pieces.{Lengthens}
use Rattle.text_pieces.proofs.Lengths.{appended_both}
use Rattle.text_pieces.proofs.QuantityTexts.{quantity_joined}
use Rattle.text_pieces.proofs.numbers.write_quantity.Goals as goal

pub returns : goal.returns
returns c =
    let fits : SFits w64 c.args.units = c.ranges.units in
    let magnitude = simp to_z-of_z at c.unsigned_abs.ensures.value in
    let minus = simp to_z-of_z at c.in_ok-write_minus.ensures.minus in
    let parts = c.split_at_point-whole.ensures in
    let text = quantity_joined c.args.places c.args.units c.unsigned_abs.result _ _ magnitude parts.whole parts.decimals in
    let P : List ℕ → Type 0 = λ t. Lengthens c.args.out.now.items c.write_decimals.new.out.items t c.write_decimals.result in
    record {
      quantity = subst P text (appended_both _ c.write_number.new.out.items _ _ _ c.in_ok-write_number.field-0 _
          (appended_both _ c.write_minus.new.out.items _ _ _ c.in_ok-write_minus.field-0 _ minus c.in_ok-write_number.ensures.number)
          c.write_decimals.ensures.decimals);
    }
