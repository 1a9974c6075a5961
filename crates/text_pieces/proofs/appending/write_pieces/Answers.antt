-- Answers to the open goals of `write_pieces`.
use Rattle.std.proofs.Common.{rules}
use Rattle.text_pieces.proofs.Lengths.{begins_before}
use Rattle.text_pieces.proofs.appending.write_pieces.Goals as goal

pub returns-in_err-write_piece : goal.returns-in_err-write_piece
returns-in_err-write_piece c =
    let before = begins_before c.args.out.now.items _ c.loop-piece.out.items c.write_piece.new.out.items c.loop-piece.invariant c.in_err-write_piece.ensures.piece.err in
    record { pieces = record { ok = search rules; err = search (rules, before) } }
