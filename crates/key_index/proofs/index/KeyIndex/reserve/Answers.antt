-- Answers to the open goals of `reserve`.
use Rattle.key_index.specs.Keys.{place_under}
use Rattle.key_index.proofs.index.KeyIndex.reserve.Goals as goal

pub returns-clause-places : goal.returns-clause-places
unfolding place_under
returns-clause-places c = λ account key. c.reserve.ensures.entries.2 (account, key)
