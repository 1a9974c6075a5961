-- Answers to the open goals of `recover`.
use Rattle.std.proofs.Common.{◌≡◌, sym, ◌∙◌, subst}
use Rattle.farm_base.specs.Known.{WhereKnown}
use Rattle.farm_disk.specs.Images.{present}
use Rattle.farm_journal.specs.Recovery.{IsRecovered}
use Rattle.farm_journal.proofs.Recovered.{recovered_where, stands_of, within_offsets}
use Rattle.farm_journal.proofs.journal.Journal.recover.Goals as goal

pub at_rest-requires : goal.at_rest-requires
at_rest-requires g c =
    record {
      offsets = within_offsets g.T.Taker.accepts (g.T.Taker.taken c.take_all.new.taker) (g.D.Disk.trace c.take_all.new.window.disk)
          c.offset-gate.result c.take_all.new.window.offset c.in-Ok-take_all.count c.offset-gate.ensures c.in-Ok-take_all.ensures.taken;
    }

pub returns-in-Ok-take_all-clause-recovered : goal.returns-in-Ok-take_all-clause-recovered
returns-in-Ok-take_all-clause-recovered g c =
    let disk : c.at_rest.result.disk ≡ c.take_all.new.window.disk = c.at_rest.ensures.disk ∙ c.into_disk.ensures in
    subst (λ disk. WhereKnown (g.D.Disk.trace disk) (λ states. IsRecovered g.T.Taker.accepts (g.T.Taker.taken c.take_all.new.taker) (present states).seen))
    (sym disk)
    (recovered_where g.T.Taker.accepts (g.T.Taker.taken c.take_all.new.taker) (g.D.Disk.trace c.take_all.new.window.disk)
    c.take_all.new.window.offset c.in-Ok-take_all.count c.in-Ok-take_all.ensures.taken)

pub returns-in-Ok-take_all-clause-stands : goal.returns-in-Ok-take_all-clause-stands
returns-in-Ok-take_all-clause-stands g c =
    stands_of g.D.Disk.trace g.T.Taker.accepts (g.T.Taker.taken c.take_all.new.taker) c.at_rest.result c.take_all.new.window.disk
    c.take_all.new.window.offset c.in-Ok-take_all.count (c.at_rest.ensures.disk ∙ c.into_disk.ensures)
    (c.at_rest.ensures.gate ∙ c.offset-gate.ensures) c.at_rest.ensures.count c.at_rest.ensures.next_gate
    c.in-Ok-take_all.ensures.taken c.in-Ok-take_all.ensures.synced
