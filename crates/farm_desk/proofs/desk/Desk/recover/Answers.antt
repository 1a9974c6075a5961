-- Answers to the open goals of `recover`.
use Rattle.std.proofs.Common.{sym, subst, rules}
use Rattle.farm_base.specs.Known.{WhereKnown}
use Rattle.farm_disk.specs.Images.{present}
use Rattle.farm_history.specs.History.{History}
use Rattle.journaled_book.specs.Histories.{Recovers}
use Rattle.farm_desk.proofs.Made.{recovered_records, where_recovered, where_refused}
use Rattle.farm_desk.proofs.desk.Desk.recover.Goals as goal

pub of_records-requires : goal.of_records-requires
of_records-requires g c =
    let kept =
    recovered_records g.D.Disk.trace g.row.LIMIT c.recover.new.taker c.into_book.result.history c.in-Ok-recover.journal
    c.into_book.ensures.history c.into_book.ensures.recordable c.in-Ok-recover.ensures.stands in
    (search rules, (search rules, (c.requires.limit, kept)))

pub returns-in-Ok-recover-clause-recovered : goal.returns-in-Ok-recover-clause-recovered
returns-in-Ok-recover-clause-recovered g c =
    subst (λ disk. WhereKnown (g.D.Disk.trace disk) (λ states. Recovers g.row.LIMIT c.of_records.result.history (present states).seen)) (sym c.of_records.ensures.disk)
    (subst (λ (history : History). WhereKnown (g.D.Disk.trace c.in-Ok-recover.journal.disk) (λ states. Recovers g.row.LIMIT history (present states).seen))
    (sym c.of_records.ensures.history)
    (where_recovered g.row.LIMIT c.recover.new.taker c.into_book.result.history (g.D.Disk.trace c.in-Ok-recover.journal.disk)
    c.into_book.ensures.history c.into_book.ensures.recordable c.in-Ok-recover.ensures.recovered))

pub returns-in-Err-recover-clause-refused : goal.returns-in-Err-recover-clause-refused
returns-in-Err-recover-clause-refused g c =
    where_refused g.row.LIMIT c.recover.new.taker (g.D.Disk.trace c.in-Err-recover.refusal.0) c.in-Err-recover.refusal.1
    c.refusals.ensures.refused c.in-Err-recover.ensures.refused
