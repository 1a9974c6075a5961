-- Answers to the open goals of `drill`.
use Rattle.std.specs.declared.alloc.Global.{Global}
use Rattle.std.specs.Prelude.{Vec}
use Rattle.std.proofs.Common.{ℕ}
use Rattle.farm_run.proofs.DrillRuns.{drill_run}
use Rattle.farm_run.proofs.drill_run.drill.Goals as goal

pub returns : goal.returns
returns g c = record {
  drill_run =
      drill_run c.args.options.seed c.args.options.count _ _ (λ (text : Vec ℕ Global). text.items) c.drilled-text.result c.drilled-text.ensures.summary
      c.drilled-text.ensures.looked_up c.put_text.ensures.puts;
  never_falls = c.put_text.ensures.never_falls;
}
