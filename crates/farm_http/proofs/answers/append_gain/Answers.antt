-- Answers to the open goals of `append_gain`.
use Rattle.std.proofs.Common.{List, ℕ, rules, subst, w64}
use Rattle.std.proofs.lemmas.Int.{to_z-of_z}
use Rattle.farm_base.specs.Appended.{Appends}
use Rattle.farm_http.proofs.Bodies.{gain_appended}
use Rattle.farm_http.proofs.answers.append_gain.Goals as goal

pub returns : goal.returns
returns c =
    let amount = c.args.amount.now in
    let kg = to_z-of_z w64 amount.kg (search rules) in
    let litres = to_z-of_z w64 amount.litres (search rules) in
    let text = gain_appended c.args.place amount c.from.result _ _ c.from.ensures kg litres in
    record { appended = subst (λ (t : List ℕ). Appends c.args.out.now.items c.append.new.out.items t c.append.result) text c.append.ensures.appended }
