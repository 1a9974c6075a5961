-- Answers to the open goals of `send_whole`.
use Rattle.std.proofs.Common.{◌≤◌, ◌-◌, length, drop, take, arith, length-take, length-drop, ◌∙◌}
use Rattle.modbus_poll.proofs.SentPieces.{has_sent_more}
use Rattle.modbus_poll.proofs.sending.send_whole.Goals as goal

pub loop-done-preserved : goal.loop-done-preserved
loop-done-preserved g c =
    let put = c.in_ok-done.ensures in
    let done = c.loop-done.done in
    let request = c.args.request.now in
    let rest_within : c.in_ok-done.field-0 ≤ length (take (length request - done) (drop done request)) = put.call.within in
    record {
      within = omega (arith, rest_within, length-take (length request - done) (drop done request), length-drop done request);
      so_far = has_sent_more _ _ _ request done c.in_ok-done.field-0 c.loop-done-test.true c.loop-done.invariant.so_far put.call;
      quiet = put.counts.quiet ∙ c.loop-done.invariant.quiet;
    }
