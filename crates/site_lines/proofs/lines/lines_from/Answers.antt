-- Answers to the open goals of `lines_from`.
use Rattle.std.proofs.Common.{◌≡◌, ◌+◌, ◌++◌, ◌∷◌, [], map, rules, arith}
use Rattle.std.proofs.lemmas.List.{append_assoc}
use Rattle.gauge_maps.specs.Maps.{is_line_map}
use Rattle.farm_site.specs.Lines.{tanks_gauged, all_gauged}
use Rattle.site_lines.proofs.LineFacts.{all_more, all_gauged_more, lines_more}
use Rattle.site_lines.proofs.lines.lines_from.Goals as goal

pub loop-index-preserved : goal.loop-index-preserved
loop-index-preserved g c =
    let lines : c.push.new.self.items ≡ c.loop-index.lines.items ++ c.in_ok-line.line ∷ [] = search rules in
    let line = c.in_ok-line.line in
    let site = map g.T.Numbered.numbered c.args.tanks.now in
    record {
      lines = rw (
        c.in_ok-line.ensures.gauged,
        lines,
        lines_more site (c.loop-index.index + 1) c.loop-index.gauged.items c.loop-index.lines.items c.args.tables.now
            c.loop-index.index c.index-tables-index.result line (omega arith) c.index-tables-index.is c.in_ok-line.ensures.line,
      ) c.loop-index.invariant.lines;
      count = search rules;
      sound = rw lines (all_more is_line_map c.loop-index.lines.items line c.loop-index.invariant.sound c.in_ok-line.ensures.sound);
      gauged = rw (c.in_ok-line.ensures.gauged, lines, c.loop-index.invariant.gauged, all_gauged_more c.loop-index.lines.items line)
          (append_assoc c.args.gauged.now.items (all_gauged c.loop-index.lines.items) (tanks_gauged line.gauges));
      tanks = search rules;
    }
