-- Answers to the open goals of `begin`.
use Rattle.std.proofs.Common.{◌≡◌, ◌∷◌, List, rules, subst, sym}
use Rattle.farm_vcf.specs.declared.rows.Listed.{Listed}
use Rattle.farm_vcf.specs.GrowingRows.{Grown, begun, grown_on}
use Rattle.farm_vcf.specs.Rows.{grid_of_rows}
use Rattle.farm_vcf.proofs.GrowingRows.{grid_grows}
use Rattle.farm_vcf.proofs.growing.Growing.begin.Goals as goal

pub returns-clause-grows : goal.returns-clause-grows
returns-clause-grows c =
    let made : Grown = record {
      densities = c.push.new.self.items;
      temperatures = c.push-2.new.self.items;
      factors = c.push-3.new.self.items;
      density = c.args.row.density;
      temperature = c.args.row.temperature;
      column = 0;
    } in
    let is : made ≡ begun c.args.row = search rules in
    let P : Grown → Type 0 = λ grown. (rows : List Listed) → grid_of_rows (c.args.row ∷ rows) ≡ grown_on grown rows in
    subst P (sym is) (grid_grows c.args.row)
