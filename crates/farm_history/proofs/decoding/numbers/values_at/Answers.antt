-- Answers to the open goals of `values_at`.
use Rattle.std.proofs.Common.{◌<◌, length, take, arith, rules, w64}
use Rattle.std.proofs.lemmas.Int.{to_z-of_z}
use Rattle.std.proofs.lemmas.List.{length-set, take_more_set}
use Rattle.byte_readers.proofs.Counted.{goes_on}
use Rattle.farm_history.specs.Decoding.{numbers_at, signed_at}
use Rattle.farm_history.proofs.Counted.{zeros_after}
use Rattle.farm_history.proofs.decoding.numbers.values_at.Goals as goal

pub loop-index-preserved : goal.loop-index-preserved
loop-index-preserved c =
    let number = c.in_ok-number.number in
    let index = c.loop-index.index in
    let values = c.loop-index.values in
    let stored = to_z-of_z w64 number (search rules) in
    let below : index < c.args.count = omega (arith, c.loop-index-test.true, c.from-index-end.ensures) in
    let within : index < length values = omega (arith, c.requires.few, c.loop-index.invariant.eight) in
    record {
      whole =
          rw (stored, take_more_set values index number within)
          (goes_on signed_at (take index values) c.args.count index c.loop-index.rest.now number c.in_ok-number.after.now (numbers_at c.args.count c.args.bytes.now) below c.in_ok-number.ensures.reads c.loop-index.invariant.whole);
      zeros = rw stored (zeros_after index values number c.loop-index.invariant.zeros);
      eight = rw stored (omega (arith, length-set values index number, c.loop-index.invariant.eight));
    }
