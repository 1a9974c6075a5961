-- Answers to the open goals of `table_of`.
use Rattle.std.proofs.Common.{[], ◌∷◌, refl}
use Rattle.calc_input.proofs.VolumeRows.{rows_are_table, rows_taken}
use Rattle.calc_input.proofs.forms.table_of.Goals as goal

pub unwrap-requires : goal.unwrap-requires
unwrap-requires c =
    rows_taken c.from_rows.result c.in_ok-rows.rows.items c.from_rows.ensures.first
    (rows_are_table c.args.count _ c.in_ok-rows.rows.items c.requires.least c.requires.most (c.in_ok-rows.ensures.rows ([] ∷ c.args.lines.now) refl))
