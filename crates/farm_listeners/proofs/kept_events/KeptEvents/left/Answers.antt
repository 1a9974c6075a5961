-- Answers to the open goals of `left`.
use Rattle.std.proofs.Common.{◌<◌, ap, arith}
use Rattle.farm_listeners.proofs.Events.{adds_known, pushed}
use Rattle.farm_listeners.proofs.Steps.{in_step-left, events_of-left}
use Rattle.farm_listeners.proofs.kept_events.KeptEvents.left.Goals as goal

pub invariant_of-self : goal.invariant_of-self
invariant_of-self c =
    let room : 0 < c.args.self.now.room = c.has_room.ensures.0 c.if-not-has_room.false in
    let inside = ap (λ kept. kept.room) c.self.view_is in
    let kinds = pushed c.push.result _ _ _ c.push.ensures.items (c.push.ensures.succeeds (omega arith)) in
    let talks = pushed c.push-2.result _ _ _ c.push-2.ensures.items (c.push-2.ensures.succeeds (omega arith)) in
    rw (kinds, talks) (in_step-left c.self.inside.kinds.items c.self.inside.ports.items c.self.inside.talks.items c.self.invariant c.args.talk)

pub returns-clause-added : goal.returns-clause-added
returns-clause-added c =
    let room : 0 < c.args.self.now.room = c.has_room.ensures.0 c.if-not-has_room.false in
    let inside = ap (λ kept. kept.room) c.self.view_is in
    let kinds = pushed c.push.result _ _ _ c.push.ensures.items (c.push.ensures.succeeds (omega arith)) in
    let talks = pushed c.push-2.result _ _ _ c.push-2.ensures.items (c.push-2.ensures.succeeds (omega arith)) in
    rw (← c.self.view_is, kinds, talks) (adds_known _ _ _ _ (events_of-left c.self.inside.kinds.items c.self.inside.ports.items c.self.inside.talks.items c.self.invariant c.args.talk))
