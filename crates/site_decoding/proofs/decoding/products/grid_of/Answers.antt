-- Answers to the open goals of `grid_of`.
use Rattle.std.proofs.Common.{sym, ap, Ok, ◌∙◌}
use Rattle.farm_vcf.specs.Grid.{grid_from}
use Rattle.site_decoding.proofs.Grids.{grid_refused, grid_taken}
use Rattle.site_decoding.proofs.decoding.products.grid_of.Goals as goal

pub returns-in-Ok : goal.returns-in-Ok
returns-in-Ok c =
    let grid = grid_from c.args.densities.items c.args.temperatures.items c.args.factors.items in
    let h = c.in-Ok.ensures.grid in
    record { grid = ap Ok h.1 ∙ sym (grid_taken grid h.0) }

pub returns-in-Err : goal.returns-in-Err
returns-in-Err c =
    let grid = grid_from c.args.densities.items c.args.temperatures.items c.args.factors.items in
    record { grid = sym (grid_refused grid c.in-Err.ensures.grid) }
