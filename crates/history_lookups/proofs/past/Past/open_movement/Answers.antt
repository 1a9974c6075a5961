-- Answers to the open goals of `open_movement`.
use Rattle.std.proofs.Common.{rules, ◌≤◌, length, subst, sym}
use Rattle.farm_history.specs.History.{History, last_place}
use Rattle.history_lookups.proofs.EntriesAt.{opening_there}
use Rattle.history_lookups.proofs.past.Past.open_movement.Goals as goal

pub slice_bounds-is_ended-count : goal.slice_bounds-is_ended-count
slice_bounds-is_ended-count c =
    subst (λ (history : History). c.args.place ≤ last_place history) (sym c.self.view_is)
    (opening_there c.args.self.now c.args.place c.in_ok-plan.plan (sym c.in_ok-plan.ensures.opened))

pub slice_bounds-is_ended-start : goal.slice_bounds-is_ended-start
slice_bounds-is_ended-start c =
    let within : c.args.place ≤ length c.self.inside.entries.now =
    subst (λ (history : History). c.args.place ≤ last_place history) (sym c.self.view_is)
    (opening_there c.args.self.now c.args.place c.in_ok-plan.plan (sym c.in_ok-plan.ensures.opened)) in
    search rules
