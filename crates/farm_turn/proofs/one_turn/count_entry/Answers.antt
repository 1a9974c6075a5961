-- Answers to the open goals of `count_entry`.
use Rattle.std.proofs.Common.{arith}
use Rattle.farm_turn.specs.Chronicles.{features}
use Rattle.farm_turn.specs.Sharing.{only}
use Rattle.farm_turn.proofs.Allowed.{counts_entry_at}
use Rattle.farm_turn.proofs.one_turn.count_entry.Goals as goal

pub fetch_add-requires : goal.fetch_add-requires
fetch_add-requires g c =
    let t = g.V.Chronicle in
    let r = c.requires in (
      r.fits,
      omega arith,
      counts_entry_at (features t.past t.caller_of t.root t.tally t.mark) c.args.shared.now.key.value _ _ c.args.seat.now.me (only c.args.seat.now.me) _ g.N.Ran.past g.N.Ran.raised g.N.Ran.mark r.grows.0 c.args.count r.sized.1 r.one r.holds r.grows.1
          r.grows.2 r.count r.room r.mark,
    )
