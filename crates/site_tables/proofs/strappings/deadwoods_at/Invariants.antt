-- The invariants of the loops of `deadwoods_at`.
use Rattle.std.proofs.Common.{◌≡◌, [], drop, map}
use Rattle.toml.specs.View.{view}
use Rattle.site_keys.specs.Keys.{inner}
use Rattle.site_keys.specs.Lists.{read_from}
use Rattle.site_tables.specs.Strappings.{deadwood_of}
use Rattle.site_tables.proofs.strappings.deadwoods_at.Given as goal

abbrev pub invariant-loop-table : goal.invariant-loop-table
invariant-loop-table l = read_from (λ table. deadwood_of (inner l.keys table)) l.deadwoods.items (map view (drop l.table-index l.values)) ≡ read_from (λ table. deadwood_of (inner l.keys table)) [] (map view l.values)
