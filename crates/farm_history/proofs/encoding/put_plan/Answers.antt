-- Answers to the open goals of `put_plan`.
use Rattle.std.proofs.Common.{◌∷◌, ◌++◌, sym, ap, ◌∙◌}
use Rattle.std.specs.Int.{w16, to_be_bytes}
use Rattle.farm_history.specs.Encoding.{gauged_bytes, plan_bytes}
use Rattle.farm_history.proofs.Joined.{two_joined, three_joined}
use Rattle.farm_history.proofs.encoding.put_plan.Goals as goal

pub returns-in-Outside-clause-plan : goal.returns-in-Outside-clause-plan
returns-in-Outside-clause-plan c =
    let fields = to_be_bytes w16 c.in-Outside.tank ++ (to_be_bytes w16 c.in-Outside.party ++ gauged_bytes c.in-Outside.gauged) in
    two_joined c.args.out.now _ _ _ _ c.put_way.ensures.way c.put_gauged.ensures.gauged
    ∙ ap (λ way. c.args.out.now ++ 4 ∷ way ∷ fields) c.way_byte.ensures.way
    ∙ ap (λ plan. c.args.out.now ++ 4 ∷ plan_bytes plan) (sym c.in-Outside.is)

pub returns-in-Transfer-clause-plan : goal.returns-in-Transfer-clause-plan
returns-in-Transfer-clause-plan c =
    three_joined c.args.out.now _ _ _ _ _ _ c.put_way-in-Transfer.ensures.way c.put_gauged-in-Transfer.ensures.gauged c.put_gauged-in-Transfer-2.ensures.gauged
    ∙ ap (λ plan. c.args.out.now ++ 4 ∷ plan_bytes plan) (sym c.in-Transfer.is)
