-- Answers to the open goals of `receive_piece`.
use Rattle.std.proofs.Common.{arith}
use Rattle.modbus_poll.proofs.ComePieces.{takes_piece}
use Rattle.modbus_poll.proofs.receiving.receive_piece.Goals as goal

pub returns-clause-piece : goal.returns-clause-piece
returns-clause-piece g c =
    takes_piece _ _ c.args.buffer.now c.recv.new.into c.args.offset _ c.args.most c.requires.some c.requires.room (omega arith) c.recv.result c.recv.ensures.call
