-- Answers to the open goals of `joined_seat`.
use Rattle.std.proofs.Common.{◌≡◌, ◌∷◌, ap, false, Some, arith}
use Rattle.std.proofs.lemmas.List.Elements.{All-cons, All-pop}
use Rattle.farm_turn.specs.Chronicles.{features}
use Rattle.farm_turn.proofs.Allowed.{joins_pass}
use Rattle.farm_turn.proofs.Seats.{seat_joined, taken_off}
use Rattle.farm_turn.proofs.sharing.joined_seat.Goals as goal

pub join_seat-requires : goal.join_seat-requires
join_seat-requires g c =
    let t = g.V.Chronicle in
    let i = c.loop-pass.invariant in
    let turn = All-pop (λ p. p.turn ≡ c.args.shared.now.table_id) c.loop-pass.passes.items c.pop-in-loop-pass.new.self.items (Some c.in-Some.pass) c.in-Some.ensures.items i.5 in
    let front = c.into_seat-front.ensures.same_turn in
    let of_this_turn = turn.1 in (
      cc,
      i.2,
      ap (λ me. me.1) i.3,
      omega (arith, c.requires.sized.0),
      joins_pass (features t.past t.caller_of t.root t.tally t.mark) c.args.shared.now.key.value _ _ _ _,
    )

pub loop-pass-preserved : goal.loop-pass-preserved
loop-pass-preserved g c =
    let i = c.loop-pass.invariant in
    let before = c.loop-pass.passes.items in
    let left = c.pop-in-loop-pass.new.self.items in
    let items = c.in-Some.ensures.items in
    let turn = All-pop (λ p. p.turn ≡ c.args.shared.now.table_id) before left (Some c.in-Some.pass) items i.5 in
    let of_this_turn = turn.1 in
    let front = c.into_seat-front.ensures.same_turn in
    let j = c.join_seat.ensures in
    let table = j.0 in (
      c.in-Some.pass ∷ i.0,
      taken_off before left i.0 c.args.passes.items c.in-Some.pass items i.1,
      cc,
      seat_joined c.into_seat-front.result.me c.loop-pass.seat.me c.join_seat.new.seat.me c.in-Some.pass i.0 j.2 c.into_seat-front.ensures.one i.3,
      All-cons (λ p. p.known.holds ≡ false) c.in-Some.pass i.0 c.into_seat-front.ensures.free i.4,
      turn.0,
    )
