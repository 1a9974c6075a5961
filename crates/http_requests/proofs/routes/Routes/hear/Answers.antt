-- Answers to the open goals of `hear`.
use Rattle.http_requests.proofs.Answering.{got_heard, need_is_short, only_broken, only_got, only_need}
use Rattle.http_requests.proofs.routes.Routes.hear.Goals as goal

pub returns-in-Need-clause-only : goal.returns-in-Need-clause-only
returns-in-Need-clause-only c = only_need c.args.bytes.now c.in-Need.ensures.only

pub returns-in-Need-clause-room : goal.returns-in-Need-clause-room
returns-in-Need-clause-room c = λ e. need_is_short c.args.bytes.now c.in-Need.ensures.front

pub returns-in-Broken-clause-only : goal.returns-in-Broken-clause-only
returns-in-Broken-clause-only c = only_broken c.args.bytes.now c.in-Broken.status c.in-Broken.ensures.only

pub returns-in-Whole-clause-heard : goal.returns-in-Whole-clause-heard
returns-in-Whole-clause-heard c =
    got_heard c.args.bytes.now c.in-Whole.request c.got.result c.in-Whole.ensures.front c.got.ensures.got

pub returns-in-Whole-clause-only : goal.returns-in-Whole-clause-only
returns-in-Whole-clause-only c =
    only_got c.args.bytes.now c.in-Whole.request c.got.result c.in-Whole.ensures.only c.got.ensures.got
