-- Answers to the open goals of `parts_around`.
use Rattle.std.proofs.Common.{◌≡◌, ℕ, ◌+◌, ◌∷◌, List, take, sym, subst, ◌∙◌}
use Rattle.farm_base.specs.Bytes.{parts_at}
use Rattle.calc_input.proofs.Parts.{parts_split, parts_whole, whole_rest}
use Rattle.calc_input.proofs.lines.parts_around.Goals as goal

pub returns-in-Some-clause-parts : goal.returns-in-Some-clause-parts
returns-in-Some-clause-parts c =
    let bytes = c.args.bytes.now in
    let end = c.in-Some.end in
    let P : List ℕ → Type 0 = λ rest. parts_at c.args.separator bytes ≡ take end bytes ∷ parts_at c.args.separator rest in
    subst P (sym (whole_rest (end + 1) bytes)) (parts_split c.args.separator bytes end (sym c.requires ∙ c.in-Some.is)).1

pub returns-in-None-clause-parts : goal.returns-in-None-clause-parts
returns-in-None-clause-parts c = parts_whole c.args.separator c.args.bytes.now (sym c.requires ∙ c.in-None.is)
