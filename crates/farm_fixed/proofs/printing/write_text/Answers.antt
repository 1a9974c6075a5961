-- Answers to the open goals of `write_text`.
use Rattle.std.proofs.Common.{◌≡◌, length, ap, ◌∙◌, true, false, pos, arith, w64}
use mir.Val.{SFits}
use Rattle.std.proofs.lemmas.Int.{to_z-of_z}
use Rattle.std.specs.Int.RustNames.{int_lt, unsigned_abs}
use Rattle.farm_fixed.specs.Printing.{magnitude_text}
use Rattle.farm_fixed.proofs.PrintingLaws.{minus_in_front, not_below_zero}
use Rattle.farm_fixed.proofs.printing.write_text.Goals as goal

pub returns-then-units-lt0-clause-text : goal.returns-then-units-lt0-clause-text
returns-then-units-lt0-clause-text c =
    let fits : SFits w64 c.args.units = c.ranges.units in
    let units : c.unsigned_abs.result ≡ unsigned_abs c.args.units = simp to_z-of_z at c.unsigned_abs.ensures.value in
    let below : int_lt c.args.units (pos 0) ≡ true = simp to_z-of_z at c.if-units-lt0.true in
    let text = c.write_magnitude-start.ensures.text ∙ ap (magnitude_text c.args.places) units in
    minus_in_front c.args.places c.args.units c.write_magnitude-start.result c.write_magnitude-start.new.buffer c.write_magnitude-start.ensures.room
    (omega (arith, c.write_magnitude-start.ensures.within, ap length c.requires.blank, c.write_magnitude-start.auto.buffer)) below text

pub returns-clause-text : goal.returns-clause-text
returns-clause-text c =
    let fits : SFits w64 c.args.units = c.ranges.units in
    let units : c.unsigned_abs.result ≡ unsigned_abs c.args.units = simp to_z-of_z at c.unsigned_abs.ensures.value in
    let above : int_lt c.args.units (pos 0) ≡ false = simp to_z-of_z at c.if-units-lt0.false in
    c.write_magnitude-start.ensures.text ∙ ap (magnitude_text c.args.places) units ∙ not_below_zero c.args.places c.args.units above
