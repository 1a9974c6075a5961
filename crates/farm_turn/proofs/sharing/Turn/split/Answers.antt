-- Answers to the open goals of `split`.
use Rattle.std.proofs.Common.{ap, rules}
use Rattle.farm_turn.specs.Chronicles.{features}
use Rattle.farm_turn.specs.Views.{known_of}
use Rattle.farm_turn.proofs.Allowed.{splits_pass_at}
use Rattle.farm_turn.proofs.Seats.{seat_of_badge}
use Rattle.farm_turn.proofs.sharing.Turn.split.Goals as goal

pub split_seat-other-requires : goal.split_seat-other-requires
split_seat-other-requires g c =
    let t = g.V.Chronicle in
    let inside = c.pass.inside in
    let i = c.pass.invariant in
    let s = c.into_seat-seat.ensures in (
      search rules,
      search rules,
      splits_pass_at (features t.past t.caller_of t.root t.tally t.mark) c.self.inside.table.shared.key.value _ c.into_seat-seat.result.me.0 (known_of inside.badge.views)
          (ap (λ me. me.0) (seat_of_badge c.replace.result.views inside.badge.views c.into_seat-seat.result.me (known_of inside.badge.views) (ap (λ b. b.views) c.replace.ensures.value) i.0 s.2 s.3))
          i.5
          (search rules),
    )
