-- Answers to the open goals of `len_of_head`.
use Rattle.std.proofs.Common.{arith, length-append}
use Rattle.std.specs.List.{flat_map}
use Rattle.site_encoding.specs.Encoding.{row_bytes}
use Rattle.site_encoding.proofs.Sizes.{length-rounding}
use Rattle.site_encoding.proofs.encoding.heads.len_of_head.Goals as goal

pub returns-clause-len : goal.returns-clause-len
returns-clause-len c =
    let rounding = length-rounding c.args.rounding.now in
    let both = length-append c.args.name.now (flat_map row_bytes c.args.rounding.now) in
    omega arith
