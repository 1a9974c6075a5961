-- The invariants of the loops of `lines_from`.
use Rattle.std.proofs.Common.{◌≡◌, ◌+◌, true, ◌++◌, [], drop, length, map}
use Rattle.std.specs.List.{list_all}
use Rattle.toml.specs.View.{view}
use Rattle.gauge_maps.specs.Maps.{is_line_map}
use Rattle.farm_site.specs.Lines.{are_gauged, all_gauged}
use Rattle.site_lines.specs.Lines.{lines_from}
use Rattle.site_lines.proofs.lines.lines_from.Given as goal

abbrev pub invariant-loop-index : goal.invariant-loop-index
invariant-loop-index g l = record {
  lines : lines_from (map g.T.Numbered.numbered l.tanks) (l.index + 1) l.gauged.items l.lines.items (map view (drop l.index l.tables))
      ≡ lines_from (map g.T.Numbered.numbered l.tanks) 1 l.fn.gauged.items [] (map view l.tables);
  count : length l.lines.items ≡ l.index;
  sound : list_all is_line_map l.lines.items ≡ true;
  gauged : l.gauged.items ≡ l.fn.gauged.items ++ all_gauged l.lines.items;
  tanks : are_gauged (map g.T.Numbered.numbered l.tanks) l.gauged.items ≡ true;
}
