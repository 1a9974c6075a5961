-- Answers to the open goals of `twelve_rows`.
use Rattle.std.proofs.Common.{◌≡◌, ◌+◌, ◌<◌, length, Ok, ◌∙◌, arith}
use Rattle.std.proofs.lemmas.List.{length-set}
use Rattle.toml.specs.View.{view}
use Rattle.site_toml.specs.Rounding.{row_of_value}
use Rattle.site_toml.proofs.RoundingRows.{good_filled, rows_filled}
use Rattle.site_toml.proofs.rounding.twelve_rows.Goals as goal

pub loop-index-preserved : goal.loop-index-preserved
loop-index-preserved c =
    let room : c.loop-index.index < length c.loop-index.rows = omega (arith, c.loop-index.invariant) in
    let read : row_of_value c.args.format (c.loop-index.index + 1) (view c.index-values-index.result) ≡ Ok c.in_ok-rows.field-0 = cc (c.row_of_value.ensures.row, c.in_ok-rows.was) in (
      length-set c.loop-index.rows c.loop-index.index c.in_ok-rows.field-0 ∙ c.loop-index.invariant.0,
      c.loop-index.invariant.1,
      good_filled c.loop-index.rows c.loop-index.index c.in_ok-rows.field-0 room c.loop-index.invariant.2 c.in_ok-rows.ensures.allowed,
      rows_filled c.args.format c.loop-index.rows c.args.values.now c.loop-index.index c.index-values-index.result c.in_ok-rows.field-0 room (omega arith) c.index-values-index.is read
          ∙ c.loop-index.invariant.3,
    )
