-- The invariants of the loops of `keep`.
use Rattle.std.proofs.Common.{Some}
use Rattle.farm_history.specs.History.{History}
use Rattle.farm_indexes.specs.LastFigures.{AreLastOf, ArePaired}
use Rattle.farm_indexes.proofs.last_figures.LastFigures.keep.Given as goal

-- what was kept and what is kept now is so
abbrev pub invariant-loop-kept : goal.invariant-loop-kept
invariant-loop-kept l =
    (history : History) → AreLastOf history l.initial.kept-items → ArePaired history (Some l.pair) l.figures → AreLastOf history l.kept-items
