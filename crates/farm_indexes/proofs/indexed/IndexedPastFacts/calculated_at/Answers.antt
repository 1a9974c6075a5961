-- Answers to the open goals of `calculated_at`.
use Rattle.std.proofs.Common.{◌∙◌, ap}
use Rattle.farm_history.specs.Figures.{calculated_at}
use Rattle.farm_history.specs.History.{History}
use Rattle.farm_indexes.proofs.FiguresKept.{calculation_kept}
use Rattle.farm_indexes.proofs.indexed.IndexedPastFacts.calculated_at.Goals as goal

pub returns-in-Some-clause-calculated : goal.returns-in-Some-clause-calculated
returns-in-Some-clause-calculated c =
    let past = c.self.inside.past in
    let kept = c.in-Some.ensures.figures past c.self.invariant.1.figures in
    calculation_kept past c.args.pair.now c.in-Some.figures kept ∙ ap (λ (history : History). calculated_at history c.args.pair.now) c.self.view_is
