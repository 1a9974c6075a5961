-- The invariants of the loops of `ledger`.
use Rattle.history_lookups.specs.Ledgers.{AreBooksTo}
use Rattle.history_lookups.proofs.past.Past.ledger.Given as goal

-- so far the ledger has the books after the entries before this one
abbrev pub invariant-loop-index : goal.invariant-loop-index
invariant-loop-index l = AreBooksTo l.self l.index l.ledger
