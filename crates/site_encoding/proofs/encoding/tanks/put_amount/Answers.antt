-- Answers to the open goals of `put_amount`.
use Rattle.std.proofs.Common.{rules, w64}
use Rattle.std.proofs.lemmas.Int.{to_z-of_z}
use mir.Val.{SFits}
use Rattle.site_encoding.specs.Encoding.{amount_bytes, signed_bytes}
use Rattle.site_encoding.proofs.Puts.{two_put}
use Rattle.site_encoding.proofs.encoding.tanks.put_amount.Goals as goal

pub returns : goal.returns
unfolding amount_bytes
returns c =
    let amount = c.args.amount.now in
    let litres : SFits w64 amount.litres = search rules in
    let kg : SFits w64 amount.kg = search rules in
    let first = simp to_z-of_z at c.put_stock.ensures.put in
    let second = simp to_z-of_z at c.put_stock-2.ensures.put in
    record {
      put = two_put c.args.out.now c.put_stock.new.out c.put_stock-2.new.out (signed_bytes w64 amount.litres) (signed_bytes w64 amount.kg) first second;
    }
