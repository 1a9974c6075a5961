-- Answers to the open goals of `new`.
use Rattle.std.proofs.Common.{◌∙◌, rules}
use Rattle.std.proofs.lemmas.Fn.{filter_same}
use Rattle.std.proofs.lemmas.List.Elements.{filter_passes}
use Rattle.farm_listeners.specs.Visits.{is_new}
use Rattle.farm_listeners.proofs.visits.Visits.new.Goals as goal

pub invariant_of-result : goal.invariant_of-result
invariant_of-result c =
    let kept = filter_same _ is_new _ (λ item b f k. search rules) _ _ c.retain.ensures.filtered in
    rw (c.into_iter.ensures.rest ∙ kept) (filter_passes is_new c.args.items.items)

pub returns-clause-items : goal.returns-clause-items
returns-clause-items c =
    c.into_iter.ensures.rest ∙ filter_same _ is_new _ (λ item b f k. search rules) _ _ c.retain.ensures.filtered
