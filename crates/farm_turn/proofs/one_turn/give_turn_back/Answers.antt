-- Answers to the open goals of `give_turn_back`.
use Rattle.std.proofs.Common.{rules, arith}
use Rattle.farm_turn.specs.Chronicles.{features}
use Rattle.farm_turn.specs.Sharing.{only}
use Rattle.farm_turn.proofs.Allowed.{gives_turn_at}
use Rattle.farm_turn.proofs.one_turn.give_turn_back.Goals as goal

pub swap-requires : goal.swap-requires
swap-requires g c =
    let t = g.V.Chronicle in
    let r = c.requires in
    let h = c.put_value_home.ensures in (
      search rules,
      omega arith,
      gives_turn_at (features t.past t.caller_of t.root t.tally t.mark) c.args.shared.now.key.value _ _ c.put_value_home.new.seat.me (only c.args.seat.now.me) c.args.value r.sized.1 h.home r.holds r.past r.root r.tally r.mark,
    )
