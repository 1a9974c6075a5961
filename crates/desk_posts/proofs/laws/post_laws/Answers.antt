-- Answers to the open goals of `post_laws`.
use Rattle.desk_posts.proofs.Standing.{conversation_stands}
use Rattle.desk_posts.proofs.laws.post_laws.Goals as goal

pub returns : goal.returns
returns g c = record {
  stands = conversation_stands g.A.DeskAccess.may_follow c.access_laws.ensures.followers (g.C.Clock.may_give c.args.clock.now) g.A.DeskAccess.limit;
}
