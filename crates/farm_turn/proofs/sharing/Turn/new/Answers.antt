-- Answers to the open goals of `new`.
use Rattle.std.proofs.Common.{◌∷◌, [], rules}
use Rattle.farm_turn.specs.Chronicles.{features}
use Rattle.farm_turn.proofs.Opening.{opens}
use Rattle.farm_turn.proofs.sharing.Turn.new.Goals as goal

pub new-requires : goal.new-requires
new-requires g c =
    let t = g.V.Chronicle in
    opens (features t.past t.caller_of t.root t.tally t.mark) c.of-opening.result.value (0 ∷ c.len-len.result ∷ []) c.in-Ok.slots.items (search rules) (search rules)
