-- Answers to the open goals of `receive`.
use Rattle.std.proofs.Common.{◌∙◌, refl, sym, arith, take, length-take, lit≤}
use Rattle.modbus_poll.proofs.ComePieces.{has_come_more, none_has_come}
use Rattle.modbus_poll.proofs.Needs.{needs_few}
use Rattle.modbus_poll.proofs.receiving.receive.Goals as goal

pub loop-needed-init : goal.loop-needed-init
loop-needed-init g c = record { within = lit≤ tt; so_far = none_has_come (g.L.Link.calls c.args.link.now) c.args.expect.now; quiet = refl }

pub receive_piece-requires-clause-room : goal.receive_piece-requires-clause-room
receive_piece-requires-clause-room g c =
    let few = needs_few c.args.expect.now (take c.loop-needed.len c.loop-needed.buffer) c.in-Need.needed c.requires.expect (sym c.in-Need.ensures.frame) in
    omega (arith, few.fits, length-take c.loop-needed.len c.loop-needed.buffer)

pub loop-needed-preserved : goal.loop-needed-preserved
loop-needed-preserved g c =
    let few = needs_few c.args.expect.now (take c.loop-needed.len c.loop-needed.buffer) c.in-Need.needed c.requires.expect (sym c.in-Need.ensures.frame) in
    let took = c.in_ok-len-in-Need.ensures in
    record {
      within = omega (arith, few.fits, took.piece.within, length-take c.loop-needed.len c.loop-needed.buffer);
      so_far = has_come_more _ _ _ c.args.expect.now c.loop-needed.buffer c.receive_piece.new.buffer c.loop-needed.len c.in-Need.needed c.in_ok-len-in-Need.field-0
          c.loop-needed.invariant.so_far (sym c.in-Need.ensures.frame) took.piece;
      quiet = took.counts.quiet ∙ c.loop-needed.invariant.quiet;
    }
