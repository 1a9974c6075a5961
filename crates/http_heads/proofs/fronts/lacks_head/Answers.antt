-- Answers to the open goals of `lacks_head`.
use Rattle.std.proofs.Common.{inl, inr}
use Rattle.http_heads.proofs.HeadLimits.{never_now, none_lacks, whole_lacks}
use Rattle.http_heads.proofs.fronts.lacks_head.Goals as goal

pub returns-in-Whole : goal.returns-in-Whole
returns-in-Whole c =
    let is = rw c.in-Whole.is at c.requires in
    whole_lacks c.args.bytes.now c.in-Whole.head.len is.0 _ is.1.reads is.1.len

pub returns-in-Open : goal.returns-in-Open
returns-in-Open c =
    let bytes = c.args.bytes.now in
    elim c.in-Open.is [
      | inl is ↦ none_lacks bytes (rw is at c.requires).0
      | inr is ↦ none_lacks bytes (never_now bytes (rw is at c.requires))
    ]
