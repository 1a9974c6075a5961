-- The invariants of the loops of `courses_at`.
use Rattle.std.proofs.Common.{◌≡◌, [], drop, map}
use Rattle.toml.specs.View.{view}
use Rattle.site_keys.specs.Keys.{inner}
use Rattle.site_keys.specs.Lists.{read_from}
use Rattle.site_tables.specs.Strappings.{course_of}
use Rattle.site_tables.proofs.strappings.courses_at.Given as goal

abbrev pub invariant-loop-table : goal.invariant-loop-table
invariant-loop-table l = read_from (λ table. course_of (inner l.keys table)) l.courses.items (map view (drop l.table-index l.values)) ≡ read_from (λ table. course_of (inner l.keys table)) [] (map view l.values)
