-- Answers to the open goals of `create`.
use Rattle.std.proofs.Common.{refl}
use Rattle.farm_site.specs.Sites.{described}
use Rattle.farm_desk.proofs.Made.{untouched_safe}
use Rattle.farm_run.proofs.InitRuns.{lacking, not_made}
use Rattle.farm_run.proofs.init_run.create.Goals as goal

pub returns-in-Err-clause-site_init : goal.returns-in-Err-clause-site_init
returns-in-Err-clause-site_init g c =
    rw c.in-Err.ensures.given_back
    (lacking (described c.args.site) _ _ _ _ _ refl (untouched_safe _ _ _) c.in-Err.ensures.lacks_memory)

pub returns-in-Err-create-clause-site_init : goal.returns-in-Err-create-clause-site_init
returns-in-Err-create-clause-site_init g c =
    rw (c.into_inner-in-Err-create.ensures.disk, ← c.in-Ok.ensures.moved, ← c.in-Ok.ensures.output_kept)
    (not_made (described c.args.site) _ (λ boxed. g.D.Disk.trace boxed.disk.value) c.in-Ok.disk c.in-Err-create.disk _ c.in-Err-create.fault _ _ refl c.in-Err-create.ensures.refused
    c.in-Err-create.ensures.counts.failed c.in-Err-create.ensures.counts.quiet c.in-Err-create.ensures.crash_safe c.report_create.ensures.reports)
