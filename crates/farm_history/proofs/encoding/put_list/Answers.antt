-- Answers to the open goals of `put_list`.
use Rattle.std.proofs.Common.{ℕ, length, take, All, FitsSigned, subst, ap, arith, rules, length-append}
use Rattle.std.proofs.lemmas.List.{length-take}
use Rattle.std.specs.Int.{w64}
use Rattle.farm_history.proofs.Lengths.{length-flat_map-signed}
use Rattle.farm_history.proofs.ShortLists.{all_of_short}
use Rattle.farm_history.proofs.encoding.put_list.Goals as goal

pub returns-clause-at_most : goal.returns-clause-at_most
returns-clause-at_most c =
    let numbers = take c.from.result c.args.list.now.values in
    omega (arith, length-flat_map-signed numbers, length-take c.from.result c.args.list.now.values, c.from.ensures, c.requires.short.count, ap length c.push.ensures.pushed, ap length c.push_numbers.ensures.pushed, length-append {A = ℕ})

pub returns-clause-typed : goal.returns-clause-typed
returns-clause-typed c =
    let counted = subst (λ count. All (FitsSigned w64) (take count c.args.list.now.values)) c.from.ensures c.push_numbers.ensures.typed in
    (search rules, all_of_short c.args.list.now c.requires.short counted)
