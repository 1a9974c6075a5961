-- Answers to the open goals of `of`.
use Rattle.std.proofs.Common.{◌≡◌, ◌++◌, ◌∙◌, Option, Some, None, refl, ap}
use Rattle.farm_history.specs.declared.plan.Named.{Named}
use Rattle.farm_history.specs.History.{History}
use Rattle.farm_indexes.specs.Figured.{first_figures, second_figures}
use Rattle.history_lookups.specs.Pairs.{listed_one}
use Rattle.farm_indexes.proofs.figured.Figured.of.Goals as goal

-- what is named first among both is the first
first_listed : (history : History) (first second : Option Named) → (first ≡ None → second ≡ None) →
    first_figures history (listed_one first) ≡ first_figures history (listed_one first ++ listed_one second)
first_listed history (Some pair) second order = refl
first_listed history None None order = refl
first_listed history None (Some pair) order = let bad : Some pair ≡ None = order refl in cc

-- what is named second is the second
second_listed : (history : History) (first second : Option Named) → (first ≡ None → second ≡ None) →
    first_figures history (listed_one second) ≡ second_figures history (listed_one first ++ listed_one second)
second_listed history (Some pair) second order = refl
second_listed history None None order = refl
second_listed history None (Some pair) order = let bad : Some pair ≡ None = order refl in cc

pub returns : goal.returns
returns c =
    let history = c.args.past.now in
    let pairs = c.named_by-pairs.result in
    let named = c.named_by-pairs.ensures.named in
    let order = c.named_by-pairs.ensures.in_order in
    record {
      figures = record {
        first = c.figures_on.ensures.figures ∙ first_listed history pairs.first pairs.second order ∙ ap (first_figures history) named;
        second = c.figures_on-2.ensures.figures ∙ second_listed history pairs.first pairs.second order ∙ ap (second_figures history) named;
        first_range = c.figures_on.ensures.range;
        second_range = c.figures_on-2.ensures.range;
      };
    }
