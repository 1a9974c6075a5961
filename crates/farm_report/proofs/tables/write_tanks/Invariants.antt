-- The invariants of the loops of `write_tanks`.
use Rattle.std.proofs.Common.{◌≡◌, ◌++◌, take}
use Rattle.farm_report.specs.Issued.{issued_text}
use Rattle.farm_report.proofs.tables.write_tanks.Given as goal

-- the texts of the tanks so far stand after what the buffer held
abbrev pub invariant-loop-tank : goal.invariant-loop-tank
invariant-loop-tank l = l.out.items ≡ l.fn.out.items ++ issued_text (take l.tank-index l.tanks)
