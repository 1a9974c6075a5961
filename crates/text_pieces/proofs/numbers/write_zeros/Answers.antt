-- Answers to the open goals of `write_zeros`.
use Rattle.std.proofs.Common.{◌++◌, ap, ◌∙◌}
use Rattle.std.proofs.lemmas.List.{take-replicate}
use Rattle.text_pieces.proofs.numbers.write_zeros.Goals as goal

pub returns : goal.returns
returns c = record {
  zeros = record {
    ok = c.in_ok-extend_from_slice.ensures.items ∙ ap (λ t. c.args.out.now.items ++ t) (take-replicate c.args.count 256 48 c.requires);
    err = tt;
  };
}
