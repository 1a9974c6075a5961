-- Answers to the open goals of `finish`.
use Rattle.std.proofs.Common.{◌≡◌, ◌==◌, true, false, ap, subst, arith}
use Rattle.std.proofs.lemmas.Bool.Decides.{nat_tests}
use Rattle.std.specs.Result.{OkIff}
use Rattle.farm_vcf.specs.Grid.{IsGrid}
use Rattle.farm_vcf.specs.GrowingRows.{Grown, grid_of}
use Rattle.farm_vcf.proofs.GrowingRows.{finished, unfinished}
use Rattle.farm_vcf.proofs.growing.Growing.finish.Goals as goal

pub returns-then-self-ne0 : goal.returns-then-self-ne0
returns-then-self-ne0 c =
    let column : c.self.inside.column ≡ c.args.self.column = ap (λ (grown : Grown). grown.column) c.self.view_is in
    let short : (c.args.self.column == 0) ≡ false = grind (arith, nat_tests) in
    record { finishes = unfinished c.args.self short }

pub returns : goal.returns
returns c =
    let P : Grown → Type 0 = λ grown. OkIff c.from_grid.result (IsGrid (grid_of grown)) (grid_of grown) in
    let invariant : P c.args.self = subst P c.self.view_is c.from_grid.ensures.grid in
    let column : c.self.inside.column ≡ c.args.self.column = ap (λ (grown : Grown). grown.column) c.self.view_is in
    let zero : (c.args.self.column == 0) ≡ true = grind (arith, nat_tests) in
    record { finishes = finished c.args.self c.from_grid.result c.ok.result invariant c.ok.ensures.value zero }
