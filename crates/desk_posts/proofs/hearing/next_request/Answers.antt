-- Answers to the open goals of `next_request`.
use Rattle.std.proofs.Common.{◌∙◌, refl}
use Rattle.desk_posts.proofs.Takings.{read_end, read_more, taken_none}
use Rattle.desk_posts.proofs.hearing.next_request.Goals as goal

pub loop-heard-init : goal.loop-heard-init
loop-heard-init g c = record { taken = taken_none (g.S.Port.stream c.args.source.now) c.args.room.now; held = refl; quiet = refl }

pub returns-then-branch-eq0-clause-hears : goal.returns-then-branch-eq0-clause-hears
returns-then-branch-eq0-clause-hears g c =
    read_end (g.S.Port.stream c.args.source.now) (g.S.Port.stream c.loop-heard.source) (g.S.Port.stream c.take_more.new.source) c.args.room.now c.loop-heard.room
    c.take_more.new.self 81920 c.in_ok-take_more.field-0 c.loop-heard.invariant.taken c.in-Need.ensures.heard c.in_ok-take_more.ensures.taken c.if-branch-eq0.true

pub loop-heard-preserved : goal.loop-heard-preserved
loop-heard-preserved g c = record {
  taken = read_more (g.S.Port.stream c.args.source.now) (g.S.Port.stream c.loop-heard.source) (g.S.Port.stream c.take_more.new.source) c.args.room.now
      c.loop-heard.room c.take_more.new.self 81920 c.in_ok-take_more.field-0 c.loop-heard.invariant.taken c.in-Need.ensures.heard c.in_ok-take_more.ensures.taken
      c.if-branch-eq0.false;
  held = c.take_more.ensures.held ∙ c.loop-heard.invariant.held;
  quiet = c.in_ok-take_more.ensures.counts.quiet ∙ c.loop-heard.invariant.quiet;
}
