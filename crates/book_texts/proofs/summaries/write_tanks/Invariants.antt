-- The invariants of the loops of `write_tanks`.
use Rattle.std.proofs.Common.{◌≡◌, ◌++◌, take}
use Rattle.book_texts.specs.Summaries.{tank_lines}
use Rattle.book_texts.proofs.summaries.write_tanks.Given as goal

-- the lines of the tanks so far follow what the buffer held
abbrev pub invariant-loop-tank : goal.invariant-loop-tank
invariant-loop-tank g l = l.out.items ≡ l.fn.out.items ++ tank_lines l.book.history (take l.tank-index l.tanks)
