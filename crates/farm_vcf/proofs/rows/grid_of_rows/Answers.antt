-- Answers to the open goals of `grid_of_rows`.
use Rattle.farm_vcf.proofs.Blocks.{no_rows, some_rows}
use Rattle.farm_vcf.proofs.Meanings.{answer_of_rows}
use Rattle.farm_vcf.proofs.rows.grid_of_rows.Goals as goal

pub returns-in-empty-clause-grid : goal.returns-in-empty-clause-grid
returns-in-empty-clause-grid c = no_rows c.args.rows.now c.in-empty.len_below

pub returns-in-len1-up-clause-meaning : goal.returns-in-len1-up-clause-meaning
returns-in-len1-up-clause-meaning c =
    let parts = some_rows c.first-item.result c.args.rows.now c.first-item.is c.in-len1-up.len_at_least in
    answer_of_rows c.args.rows.now c.grid_from.result (rw parts c.grid_from.ensures)
