-- The lines so far stand after the header.
use Rattle.std.proofs.Common.{◌≡◌, ◌++◌, codes}
use Rattle.sample_site.specs.Files.{table_lines}
use Rattle.sample_site.proofs.table.table_text.Given as goal

abbrev pub invariant-loop-row : goal.invariant-loop-row
invariant-loop-row l = l.text.items ≡ codes "mm,litres\n" ++ table_lines l.row
