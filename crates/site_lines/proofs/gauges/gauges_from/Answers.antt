-- Answers to the open goals of `gauges_from`.
use Rattle.std.proofs.Common.{◌≡◌, ◌++◌, ◌∷◌, [], Ok, map, rules, arith}
use Rattle.toml.specs.View.{view}
use Rattle.gauge_maps.specs.Maps.{is_gauge_map}
use Rattle.site_keys.specs.Keys.{keys_of}
use Rattle.site_lines.specs.Gauges.{gauge_of}
use Rattle.farm_site.specs.Lines.{tanks_gauged}
use Rattle.site_lines.proofs.LineFacts.{all_more, gauged_more, gauges_more, tanks_gauged_more}
use Rattle.site_lines.proofs.gauges.gauges_from.Goals as goal

pub loop-table-preserved : goal.loop-table-preserved
loop-table-preserved g c =
    let tanks : c.push.new.self.items ≡ c.loop-table.gauged.items ++ c.in_ok-gauge.gauge.tank ∷ [] = search rules in
    let gauges : c.push-in-loop-table.new.self.items ≡ c.loop-table.gauges.items ++ c.in_ok-gauge.gauge ∷ [] = search rules in
    let site = map g.T.Numbered.numbered c.args.tanks.now in
    let read : Ok c.in_ok-gauge.gauge ≡ gauge_of site (c.args.gauged.now.items ++ tanks_gauged c.loop-table.gauges.items) (keys_of c.args.item (view c.table-item.result)) =
    rw (← c.loop-table.invariant.gauged, ← c.deref.ensures.value) c.in_ok-gauge.ensures.gauge in
    let known = c.in_ok-gauge.ensures.known in
    let new = rw c.deref.ensures.value at c.in_ok-gauge.ensures.new in
    record {
      gauged = rw (tanks, gauges, c.loop-table.invariant.gauged) (tanks_gauged_more c.args.gauged.now.items c.loop-table.gauges.items c.in_ok-gauge.gauge);
      gauges = rw (
        gauges,
        gauges_more c.args.item site c.args.gauged.now.items c.loop-table.gauges.items c.args.tables.now c.loop-table.table-index
            c.table-item.result c.in_ok-gauge.gauge (omega arith) c.table-item.is read,
      ) c.loop-table.invariant.gauges;
      count = search rules;
      sound = rw gauges (all_more is_gauge_map c.loop-table.gauges.items c.in_ok-gauge.gauge c.loop-table.invariant.sound c.in_ok-gauge.ensures.sound);
      tanks = rw tanks (gauged_more site c.loop-table.gauged.items c.in_ok-gauge.gauge.tank c.loop-table.invariant.tanks known new);
    }
