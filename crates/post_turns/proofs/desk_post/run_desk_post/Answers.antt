-- Answers to the open goals of `run_desk_post`.
use Rattle.std.proofs.Common.{◌∙◌, Some, refl, sym}
use Rattle.shared_posts.proofs.Running.{has_run}
use Rattle.post_turns.specs.Running.{Converses}
use Rattle.post_turns.proofs.desk_post.run_desk_post.Goals as goal

pub returns : goal.returns
returns g c =
    let does = Converses g.L.Listener.events g.L.Listener.faults (g.C.Clock.may_give c.args.clock.now) g.row.LIMIT c.args.port in record {
      ran = has_run does c.args.turn.now c.in-Some.field-0 c.new-access.result c.run_post-end.new.access c.args.post.now c.run_post-end.new.listener _
          (Some c.run_post-end.result) c.into_pass.result (sym c.take.ensures.value ∙ c.in-Some.is)
          c.new-access.ensures.turn c.new-access.ensures.pass c.new-access.ensures.caller c.new-access.ensures.faulted
          c.run_post-end.ensures.conversation.exchanged.stays.caller
          (record { end = c.run_post-end.result; ended = refl; conversation = c.run_post-end.ensures.conversation }) c.run_post-end.ensures.keeps
          c.into_pass.ensures.pass c.into_pass.ensures.stands;
    }
