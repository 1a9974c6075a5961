-- Answers to the open goals of `cut_line`.
use Rattle.std.proofs.Common.{◌+◌, ◌∷◌, ap, drop, sym, ◌∙◌}
use Rattle.http_heads.specs.Lines.{lines_of}
use Rattle.http_heads.proofs.Cuts.{cut_none, cut_some, whole_rest}
use Rattle.http_heads.proofs.lines.cut_line.Goals as goal

pub returns-in_err-end-clause-lines : goal.returns-in_err-end-clause-lines
returns-in_err-end-clause-lines c =
    rw c.from_residual.ensures (cut_none c.args.bytes.now (sym c.line_feed.ensures ∙ c.in_err-end.was))

pub returns-clause-lines : goal.returns-clause-lines
returns-clause-lines c =
    let bytes = c.args.bytes.now in
    let end = c.in_ok-end.end in
    (cut_some bytes end (sym c.line_feed.ensures ∙ c.in_ok-end.was)).1
    ∙ ap (λ line. line ∷ lines_of (drop (end + 1) bytes)) (sym c.without_return.ensures)
    ∙ ap (λ rest. c.without_return.result.now ∷ lines_of rest) (sym (whole_rest (end + 1) bytes))
