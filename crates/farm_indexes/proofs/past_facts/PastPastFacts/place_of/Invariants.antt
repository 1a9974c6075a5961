-- The invariants of the loops of `place_of`.
use Rattle.std.proofs.Common.{◌≡◌, ◌+◌, drop}
use Rattle.farm_history.specs.Places.{first_from}
use Rattle.farm_indexes.specs.Keys.{has_key}
use Rattle.farm_indexes.proofs.past_facts.PastPastFacts.place_of.Given as goal

abbrev pub invariant-loop-index : goal.invariant-loop-index
invariant-loop-index l =
    first_from (l.index + 1) (has_key l.account l.key) (drop l.index l.self.entries)
    ≡ first_from 1 (has_key l.account l.key) l.self.entries
