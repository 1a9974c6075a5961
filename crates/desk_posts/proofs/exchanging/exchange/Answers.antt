-- Answers to the open goals of `exchange`.
use Rattle.std.proofs.Common.{refl}
use Rattle.http_requests.specs.Asking.{AskedIsFirst}
use Rattle.desk_posts.proofs.Answering.{exchange_of, is_answer, on_history, puts_page}
use Rattle.desk_posts.proofs.exchanging.exchange.Goals as goal

pub put_page-requires : goal.put_page-requires
put_page-requires g c =
    let first : AskedIsFirst = c.request_laws.ensures.first in
    record {
      answer = is_answer g.A.DeskAccess.may_follow (g.C.Clock.may_give c.args.clock.now) g.A.DeskAccess.limit first c.args.room.now c.args.heard
          c.meant_page-page.result (g.A.DeskAccess.state c.args.access.now) (g.A.DeskAccess.state c.meant_page-page.new.access) c.requires.heard
          c.meant_page-page.ensures.meant;
    }

pub returns-clause-answered : goal.returns-clause-answered
returns-clause-answered g c =
    let old = g.A.DeskAccess.state c.args.access.now in
    let new = g.A.DeskAccess.state c.meant_page-page.new.access in
    let shows = c.put_page.ensures.shows in
    let on = on_history g.A.DeskAccess.may_follow (g.C.Clock.may_give c.args.clock.now) g.A.DeskAccess.limit c.access_laws.ensures.followers.itself
    c.access_laws.ensures.followers.continues c.args.heard c.meant_page-page.result shows.page old new c.meant_page-page.ensures.meant shows.shown in
    let exchange = exchange_of c.args.heard on.answer shows.page on.before new.seen in
    record {
      exchange = exchange;
      heard_is = refl;
      after_is = refl;
      answered = on.answered;
      exchanged = on.exchanged;
      put = puts_page (g.P.Port.held c.args.conn.now) (g.P.Port.held c.put_page.new.sink) exchange c.ends_after-last.result c.put_page.result
          c.ends_after-last.ensures.last shows.put;
    }
