-- Short lists whose numbers are of their type.
use Rattle.std.proofs.Common.{◌-◌, replicate, All, FitsSigned, subst, sym, rules, pos}
use Rattle.std.specs.Int.{w64}
use Rattle.std.proofs.lemmas.List.Elements.{All-append, All-replicate}
use Rattle.farm_history.specs.declared.few.Few.{Few}
use Rattle.farm_history.specs.Commands.{IsShortList, numbers_of}

-- where the numbers of a short list are of their type, so are the zeros after them
pub all_of_short : (few : Few) → IsShortList few → All (FitsSigned w64) (numbers_of few) → All (FitsSigned w64) few.values
all_of_short few short numbers =
    let zeros = All-replicate (FitsSigned w64) (8 - few.count) (pos 0) (search rules) in
    subst (All (FitsSigned w64)) (sym short.zeros) (All-append (FitsSigned w64) (numbers_of few) (replicate (8 - few.count) (pos 0)) numbers zeros)
