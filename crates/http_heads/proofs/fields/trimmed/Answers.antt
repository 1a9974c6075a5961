-- Answers to the open goals of `trimmed`.
use Rattle.std.proofs.Common.{ap, reverse, ◌∙◌}
use Rattle.httparse.specs.Grammar.{skip_ows, trim_ows}
use Rattle.http_heads.proofs.fields.trimmed.Goals as goal

pub returns : goal.returns
unfolding trim_ows
returns c =
    c.without_blanks_behind.ensures ∙ ap (λ t. reverse (skip_ows (reverse t))) c.without_blanks_before.ensures
