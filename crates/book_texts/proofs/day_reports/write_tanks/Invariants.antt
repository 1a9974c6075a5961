-- The invariants of the loops of `write_tanks`.
use Rattle.std.proofs.Common.{◌≡◌, ◌++◌, take}
use Rattle.book_texts.specs.DayReports.{tanks_balance_lines}
use Rattle.book_texts.proofs.day_reports.write_tanks.Given as goal

-- the lines of the tanks so far follow what the buffer held
abbrev pub invariant-loop-index : goal.invariant-loop-index
invariant-loop-index l = l.out.items ≡ l.fn.out.items ++ tanks_balance_lines (take l.index l.tanks) (take l.index l.balances)
