-- Answers to the open goals of `close`.
use Rattle.std.proofs.Common.{◌≡◌, ap, subst}
use Rattle.farm_turn.specs.Chronicles.{features}
use Rattle.farm_turn.specs.Sharing.{IsClosed}
use Rattle.farm_turn.proofs.Closing.{ends}
use Rattle.farm_turn.proofs.sharing.Turn.close.Goals as goal

pub unreachable-requires-in_default-found : goal.unreachable-requires-in_default-found
unreachable-requires-in_default-found g c =
    let t = g.V.Chronicle in
    let f = features t.past t.caller_of t.root t.tally t.mark in
    let e =
    ends f c.self.inside.table.shared.key.value c.args.passes.items c.in-Some.seat.me.0 _ _ _ c.take-found.result c.requires.all_passes c.in-Some.ensures.free (ap (λ me. me.0) c.in-Some.ensures.known)
    c.close_with-closed.ensures.values.2 c.take-found.ensures.value
    in
    c.in_default-found.not-Some e.value e.found_is

pub returns-clause-closed : goal.returns-clause-closed
returns-clause-closed g c =
    let t = g.V.Chronicle in
    let f = features t.past t.caller_of t.root t.tally t.mark in
    let e =
    ends f c.self.inside.table.shared.key.value c.args.passes.items c.in-Some.seat.me.0 _ _ _ c.take-found.result c.requires.all_passes c.in-Some.ensures.free (ap (λ me. me.0) c.in-Some.ensures.known)
    c.close_with-closed.ensures.values.2 c.take-found.ensures.value
    in
    let value : e.value ≡ c.in-Some-found.value = (let a = e.found_is in let b = c.in-Some-found.is in cc) in
    subst (λ v. IsClosed f c.args.self.opening c.args.passes.items v) value (subst (λ o. IsClosed f o c.args.passes.items e.value) (ap (λ s. s.opening) c.self.view_is) e.closed)
