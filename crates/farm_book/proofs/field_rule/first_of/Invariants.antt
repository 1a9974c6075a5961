-- The invariants of the loops of `first_of`.
use Rattle.std.proofs.Common.{◌≡◌, ◌+◌, drop}
use Rattle.farm_history.specs.Places.{first_from}
use Rattle.farm_book.proofs.field_rule.first_of.Given as goal

abbrev pub invariant-loop-index : goal.invariant-loop-index
invariant-loop-index l = first_from (l.index + 1) (λ test. test) (drop l.index l.tests) ≡ first_from 1 (λ test. test) l.tests
