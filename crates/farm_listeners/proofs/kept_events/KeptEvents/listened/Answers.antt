-- Answers to the open goals of `listened`.
use Rattle.std.proofs.Common.{◌<◌, ap, arith}
use Rattle.farm_listeners.proofs.Events.{adds_known, pushed}
use Rattle.farm_listeners.proofs.Steps.{in_step-listened, events_of-listened}
use Rattle.farm_listeners.proofs.kept_events.KeptEvents.listened.Goals as goal

pub invariant_of-self : goal.invariant_of-self
invariant_of-self c =
    let room : 0 < c.args.self.now.room = c.has_room.ensures.0 c.if-not-has_room.false in
    let inside = ap (λ kept. kept.room) c.self.view_is in
    let kinds = pushed c.push.result _ _ _ c.push.ensures.items (c.push.ensures.succeeds (omega arith)) in
    let ports = pushed c.push-2.result _ _ _ c.push-2.ensures.items (c.push-2.ensures.succeeds (omega arith)) in
    rw (kinds, ports) (in_step-listened c.self.inside.kinds.items c.self.inside.ports.items c.self.inside.talks.items c.self.invariant c.args.failed c.args.port)

pub returns-clause-added : goal.returns-clause-added
returns-clause-added c =
    let room : 0 < c.args.self.now.room = c.has_room.ensures.0 c.if-not-has_room.false in
    let inside = ap (λ kept. kept.room) c.self.view_is in
    let kinds = pushed c.push.result _ _ _ c.push.ensures.items (c.push.ensures.succeeds (omega arith)) in
    let ports = pushed c.push-2.result _ _ _ c.push-2.ensures.items (c.push-2.ensures.succeeds (omega arith)) in
    rw (← c.self.view_is, kinds, ports) (adds_known _ _ _ _ (events_of-listened c.self.inside.kinds.items c.self.inside.ports.items c.self.inside.talks.items c.self.invariant c.args.failed c.args.port))
