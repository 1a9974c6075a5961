-- Answers to the open goals of `line_laws`.
use Rattle.line_posts.proofs.Continuing.{line_run_on}
use Rattle.line_posts.proofs.laws.line_laws.Goals as goal

pub returns : goal.returns
returns g c = record {
  continues = λ line wanted old new next follows run.
      line_run_on g.A.DeskAccess.may_follow c.access_laws.ensures.followers (g.C.Clock.may_give c.args.clock.now) g.A.DeskAccess.limit line wanted old new next follows run;
}
