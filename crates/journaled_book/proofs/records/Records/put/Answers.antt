-- Answers to the open goals of `put`.
use Rattle.farm_journal.specs.Layout.{IsJournalOf}
use Rattle.site_encoding.specs.Encoding.{site_encoding}
use Rattle.journaled_book.specs.Histories.{Recovers, entry_encodings}
use Rattle.journaled_book.proofs.Traces.{since_weaker}
use Rattle.journaled_book.proofs.records.Records.put.Goals as goal

pub returns-clause-images : goal.returns-clause-images
returns-clause-images g c =
    let history = c.args.self.now.book.history in
    since_weaker (IsJournalOf (site_encoding history.site) (entry_encodings history)) (Recovers g.row.LIMIT history) _ _
    (λ image is. record { journal = is; recordable = c.requires.kept.recordable })
    (c.put_body.ensures.images (site_encoding history.site) (entry_encodings history) c.requires.kept.keeps)
