-- Answers to the open goals of `put_all`.
use Rattle.std.proofs.Common.{◌≤◌, ◌-◌, length, drop, take, arith, length-take, ◌∙◌}
use Rattle.farm_ports.proofs.Parts.{adds_on}
use Rattle.farm_ports.proofs.whole_texts.put_all.Goals as goal

pub loop-done-preserved : goal.loop-done-preserved
loop-done-preserved g c =
    let put = c.in_ok-done.ensures in
    let rest_within : c.in_ok-done.field-0 ≤ length (take (length c.args.text.now - c.loop-done.done) (drop c.loop-done.done c.args.text.now)) =
    put.bytes.within in
    record {
      within = omega (arith, rest_within, length-take (length c.args.text.now - c.loop-done.done) (drop c.loop-done.done c.args.text.now));
      added = adds_on _ _ _ c.args.text.now c.loop-done.done c.in_ok-done.field-0 c.loop-done.invariant.added put.bytes.added;
      stream = put.stream ∙ c.loop-done.invariant.stream;
      quiet = put.counts.quiet ∙ c.loop-done.invariant.quiet;
    }
