-- Answers to the open goals of `judged`.
use Rattle.std.proofs.Common.{rules, ◌∙◌, Option, subst, sym}
use Rattle.std.specs.Prelude.{IfSome}
use Rattle.farm_chain.specs.Volumes.{AreInRange}
use Rattle.farm_fixed.specs.declared.records.Quantities.{Quantities}
use Rattle.farm_history.specs.History.{History}
use Rattle.farm_book.specs.Calculated.{AreCalculatedOn}
use Rattle.farm_book.proofs.Figures.{figures_are}
use Rattle.farm_book.proofs.judging.judged.Goals as goal

pub returns-in-Ok-clause-figures : goal.returns-in-Ok-clause-figures
returns-in-Ok-clause-figures g c =
    let history : History = g.F.PastFacts.history c.args.facts.now in
    let command = c.args.entry.now.cmd in
    let are : AreCalculatedOn history command c.of-calculated.result = search rules in
    let figures = figures_are history command c.of-calculated.result are in
    record {
      first = c.figured.ensures.first ∙ figures.first;
      second = c.figured.ensures.second ∙ figures.second;
      first_range = subst (λ (found : Option Quantities). IfSome found AreInRange) (sym c.figured.ensures.first) figures.first_range;
      second_range = subst (λ (found : Option Quantities). IfSome found AreInRange) (sym c.figured.ensures.second) figures.second_range;
    }
