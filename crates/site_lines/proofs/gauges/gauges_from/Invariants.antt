-- The invariants of the loops of `gauges_from`.
use Rattle.std.proofs.Common.{◌≡◌, true, ◌++◌, [], drop, length, map}
use Rattle.std.specs.List.{list_all}
use Rattle.toml.specs.View.{view}
use Rattle.gauge_maps.specs.Maps.{is_gauge_map}
use Rattle.farm_site.specs.Lines.{are_gauged, tanks_gauged}
use Rattle.site_lines.specs.Gauges.{gauges_from}
use Rattle.site_lines.proofs.gauges.gauges_from.Given as goal

abbrev pub invariant-loop-table : goal.invariant-loop-table
invariant-loop-table g l = record {
  gauged : l.gauged.items ≡ l.fn.gauged.items ++ tanks_gauged l.gauges.items;
  gauges : gauges_from l.item (map g.T.Numbered.numbered l.tanks) l.fn.gauged.items l.gauges.items (map view (drop l.table-index l.tables))
      ≡ gauges_from l.item (map g.T.Numbered.numbered l.tanks) l.fn.gauged.items [] (map view l.tables);
  count : length l.gauges.items ≡ l.table-index;
  sound : list_all is_gauge_map l.gauges.items ≡ true;
  tanks : are_gauged (map g.T.Numbered.numbered l.tanks) l.gauged.items ≡ true;
}
