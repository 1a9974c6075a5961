-- After the last row the lines are those of all rows.
use Rattle.std.proofs.Common.{◌≡◌, ◌++◌, ◌∙◌, ap, arith, codes}
use Rattle.sample_site.specs.Files.{table_lines, table_text}
use Rattle.sample_site.proofs.table.table_text.Goals as goal

pub returns : goal.returns
unfolding table_text
returns c =
    let all : c.loop-row.row ≡ 1501 = omega arith in
    record { text = c.loop-row.invariant ∙ ap (λ rows. codes "mm,litres\n" ++ table_lines rows) all }
