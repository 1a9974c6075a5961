-- Answers to the open goals of `pass_line_feed`.
use Rattle.batch_lines.proofs.Pieces.{in_hand_after}
use Rattle.batch_lines.proofs.reader.LineReader.pass_line_feed.Goals as goal

pub returns-clause-in_hand : goal.returns-clause-in_hand
returns-clause-in_hand c =
    let within = rw (← c.self.view_is) at c.requires.in_hand in
    rw (← c.self.view_is) (in_hand_after c.self.inside.piece.items c.self.inside.start c.self.inside.end 1 within)
