-- Answers to the open goals of `ask`.
use Rattle.std.proofs.Common.{rules}
use Rattle.modbus_poll.proofs.Ways.{decides, fails}
use Rattle.modbus_poll.proofs.poller.Poller.ask.Goals as goal

pub returns-in-Ok-clause-asks : goal.returns-in-Ok-clause-asks
returns-in-Ok-clause-asks g c =
    decides (g.L.Link.calls c.args.link.now) (g.L.Link.calls c.connect.new.link) (g.L.Link.calls c.exchange.new.link) c.args.self.now c.gauge-gauge.result
    c.expect_of.result c.self.inside.next c.number_after-number.result c.polled_of.result c.in-Ok.frame
    (record { its_turn = c.gauge-gauge.ensures.at; connects = c.in_default.ensures.calls; expect_is = search rules; index_is = search rules; number_is = search rules })
    c.in-Ok.ensures.calls c.polled_of.ensures

pub returns-in-Err-exchange-clause-asks : goal.returns-in-Err-exchange-clause-asks
returns-in-Err-exchange-clause-asks g c =
    fails (g.L.Link.calls c.args.link.now) (g.L.Link.calls c.connect.new.link) (g.L.Link.calls c.exchange.new.link) c.args.self.now c.gauge-gauge.result
    c.expect_of.result c.self.inside.next c.number_after-number.result
    (record { its_turn = c.gauge-gauge.ensures.at; connects = c.in_default.ensures.calls; expect_is = search rules; index_is = search rules; number_is = search rules })
    c.in-Err-exchange.ensures.calls
