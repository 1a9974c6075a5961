-- Answers to the open goals of `enter`.
use Rattle.key_index.specs.Keys.{place_under}
use Rattle.key_index.proofs.index.KeyIndex.enter.Goals as goal

pub returns-clause-entered : goal.returns-clause-entered
unfolding place_under
returns-clause-entered c = λ account key. c.in-Ok.ensures.updates.0 (account, key)
