-- Answers to the open goals of `used_place`.
use Rattle.std.proofs.Common.{◌∙◌, sym}
use Rattle.farm_history.specs.Rules.{has_same_key}
use Rattle.farm_book.proofs.Keys.{no_repeat, within_found}
use Rattle.farm_book.proofs.judging.used_place.Goals as goal

pub returns-clause-new : goal.returns-clause-new
returns-clause-new g c = λ none.
    no_repeat (g.F.PastFacts.history c.args.facts.now).entries c.args.entry.now (sym c.place_of.ensures.place ∙ none)

pub returns-clause-within : goal.returns-clause-within
returns-clause-within g c =
    within_found (has_same_key c.args.entry.now) (g.F.PastFacts.history c.args.facts.now).entries c.place_of.result c.place_of.ensures.place
