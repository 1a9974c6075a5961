-- Answers to the open goals of `take_turn`.
use Rattle.std.proofs.Common.{arith}
use Rattle.farm_turn.specs.Chronicles.{features}
use Rattle.farm_turn.specs.Sharing.{only}
use Rattle.farm_turn.proofs.Allowed.{takes_turn_at}
use Rattle.farm_turn.proofs.one_turn.take_turn.Goals as goal

pub compare_exchange-requires : goal.compare_exchange-requires
compare_exchange-requires g c =
    let t = g.V.Chronicle in (
      c.requires.fits,
      omega arith,
      takes_turn_at (features t.past t.caller_of t.root t.tally t.mark) c.args.shared.now.key.value _ _ c.args.seat.now.me (only c.args.seat.now.me) g.N.Rooted.root c.requires.sized.1 c.requires.one c.requires.enrolled c.requires.root,
    )
