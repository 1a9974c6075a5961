-- The invariants of the loops of `opened`.
use Rattle.std.proofs.Common.{◌≡◌, [], length, take}
use Rattle.farm_site.specs.declared.limits.TheConstants.{MOST_TANKS}
use Rattle.history_lookups.specs.Ledgers.{books_with}
use Rattle.history_lookups.proofs.ledger.Ledger.opened.Given as goal

-- so far each book is its tank's opening
abbrev pub invariant-loop-index : goal.invariant-loop-index
invariant-loop-index l = (length l.books ≡ MOST_TANKS) × (take l.index l.books ≡ books_with (take l.index l.tanks) [])
