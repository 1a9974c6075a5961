-- Answers to the open goals of `from_numeral`.
use Rattle.std.proofs.Common.{◌≡◌, ◌≤◌, ◌<◌, ◌-◌, length, arith, rules, sym, ap, ◌∙◌, w64}
use mir.Val.{SFits}
use Rattle.std.proofs.lemmas.Int.{to_z-of_z}
use Rattle.std.specs.Result.{OkIff}
use Rattle.farm_fixed.specs.Range.{IsWithin}
use Rattle.farm_fixed.specs.Parsing.{number_of}
use Rattle.farm_fixed.proofs.ParsingLaws.{from_fine, value_from_digits, from_new, from_mapped}
use Rattle.farm_fixed.proofs.quantity.Quantity.from_numeral.Goals as goal

pub returns-then-numeral-places : goal.returns-then-numeral-places
returns-then-numeral-places g c =
    let number = number_of c.args.text.now in
    let fine : g.U.Unit.PLACES < length number.fraction = omega (arith, c.requires.decimals, c.if-numeral-places.true, c.from-places.ensures, c.PLACES.ensures) in
    sym (from_fine g.U.Unit.PLACES g.U.Unit.LEAST g.U.Unit.MOST number fine)

pub returns : goal.returns
returns g c =
    let number = number_of c.args.text.now in
    let places : c.from-places.result ≡ g.U.Unit.PLACES = c.from-places.ensures ∙ c.PLACES.ensures in
    let fits : length number.fraction ≤ g.U.Unit.PLACES = omega (arith, c.requires.decimals, c.if-numeral-places.false, places) in
    let missing = ap (λ k. k - c.args.numeral.decimals) places in
    let value = value_from_digits g.U.Unit.PLACES number c.is_negative.result c.args.numeral.value c.args.numeral.decimals _ c.scaled-magnitude.result c.with_sign-units.result
    c.is_negative.ensures c.requires.decimals c.requires.value missing c.scaled-magnitude.ensures c.with_sign-units.ensures in
    let in_word : SFits w64 c.with_sign-units.result = search rules in
    let range_kept : OkIff c.new.result (IsWithin g.U.Unit.LEAST g.U.Unit.MOST c.with_sign-units.result) c.with_sign-units.result = simp to_z-of_z at c.new.ensures.in_range in
    let answered = from_new g.U.Unit.PLACES g.U.Unit.LEAST g.U.Unit.MOST number c.with_sign-units.result c.new.result g.U.Unit.small fits value range_kept in
    from_mapped g.U.Unit.PLACES g.U.Unit.LEAST g.U.Unit.MOST number c.new.result c.map_err.result _ (λ e fault post. search rules) answered c.map_err.ensures.cases
