-- The invariants of the loops of `points_of`.
use Rattle.std.proofs.Common.{◌≡◌, [], drop, map}
use Rattle.toml.specs.View.{view}
use Rattle.site_keys.specs.Lists.{read_from}
use Rattle.site_tables.specs.Strappings.{point_of}
use Rattle.site_tables.proofs.strappings.points_of.Given as goal

abbrev pub invariant-loop-value : goal.invariant-loop-value
invariant-loop-value l = read_from (point_of l.item) l.points.items (map view (drop l.value-index l.values)) ≡ read_from (point_of l.item) [] (map view l.values)
