-- Answers to the open goals of `wrong_way`.
use Rattle.std.proofs.Common.{false, true, option_and_then}
use Rattle.farm_history.specs.Figures.{figures_of}
use Rattle.farm_book.proofs.Figures.{broken_wrong, figures_are}
use Rattle.farm_book.proofs.figure_rules.wrong_way.Goals as goal

pub returns-then-closes_wrong : goal.returns-then-closes_wrong
returns-then-closes_wrong g c =
    let history = g.F.PastFacts.history c.args.facts.now in
    let calculated = c.args.calculated.now in
    record {
      rule = broken_wrong history c.args.command.now c.in-Closing.movement c.in-Closing.first c.in-Closing.second
          (record { first = option_and_then figures_of calculated.first; second = option_and_then figures_of calculated.second })
          c.movement_at.result true c.in-Closing.is c.requires.open (figures_are history c.args.command.now calculated c.requires.calculated)
          c.movement_at.ensures.movement cc;
    }

pub returns : goal.returns
returns g c =
    let history = g.F.PastFacts.history c.args.facts.now in
    let calculated = c.args.calculated.now in
    record {
      rule = broken_wrong history c.args.command.now c.in-Closing.movement c.in-Closing.first c.in-Closing.second
          (record { first = option_and_then figures_of calculated.first; second = option_and_then figures_of calculated.second })
          c.movement_at.result false c.in-Closing.is c.requires.open (figures_are history c.args.command.now calculated c.requires.calculated)
          c.movement_at.ensures.movement cc;
    }
