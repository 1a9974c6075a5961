-- Answers to the open goals of `push_numbers`.
use Rattle.std.proofs.Common.{◌≡◌, ◌++◌, length, take, All, FitsSigned, sym, ap, subst, ◌∙◌, arith, rules, get_or, length-append, append_assoc, pos, w64}
use mir.Val.{SFits}
use Rattle.std.proofs.lemmas.Int.{to_z-of_z}
use Rattle.std.specs.List.{flat_map}
use Rattle.std.proofs.lemmas.List.{length-take, take_all}
use Rattle.std.proofs.lemmas.List.Elements.{All-more}
use Rattle.farm_history.specs.Encoding.{signed_bytes}
use Rattle.farm_history.proofs.Lengths.{length-flat_map-signed, flat_map-one_more}
use Rattle.farm_history.proofs.encoding.written.Written.push_numbers.Goals as goal

pub push-requires : goal.push-requires
push-requires c =
    let so_far = take c.loop-number.number-index c.args.numbers.now in
    let before = ap length c.loop-number.invariant.pushed in
    let both = length-append c.args.self.now (flat_map signed_bytes so_far) in
    let long = length-flat_map-signed so_far in
    let some = length-take c.loop-number.number-index c.args.numbers.now in
    let eight = ap length c.to_be_bytes.ensures in
    let room = c.requires.room in
    let more = c.loop-number-test.true in
    record { room = omega arith }

pub loop-number-preserved : goal.loop-number-preserved
loop-number-preserved c =
    let so_far = take c.loop-number.number-index c.args.numbers.now in
    let number = get_or c.args.numbers.now c.loop-number.number-index (pos 0) in
    let fits : SFits w64 number = search rules in
    let bytes : c.to_be_bytes.result ≡ signed_bytes number = simp to_z-of_z at c.to_be_bytes.ensures in
    let one = flat_map-one_more c.args.numbers.now c.loop-number.number-index (pos 0) c.loop-number-test.true in
    record {
      pushed =
          c.push.ensures.pushed
          ∙ ap (λ text. c.loop-number.self ++ text) bytes
          ∙ ap (λ text. text ++ signed_bytes number) c.loop-number.invariant.pushed
          ∙ append_assoc c.args.self.now (flat_map signed_bytes so_far) (signed_bytes number)
          ∙ ap (λ text. c.args.self.now ++ text) (sym one);
      typed = All-more (FitsSigned w64) c.args.numbers.now c.loop-number.number-index (pos 0) c.loop-number-test.true c.loop-number.invariant.typed fits;
    }

pub returns-clause-typed : goal.returns-clause-typed
returns-clause-typed c =
    let whole = take_all c.loop-number.number-index c.args.numbers.now c.loop-number-test.false in
    subst (All (FitsSigned w64)) whole c.loop-number.invariant.typed
