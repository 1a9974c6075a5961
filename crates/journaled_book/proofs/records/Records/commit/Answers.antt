-- Answers to the open goals of `commit`.
use Rattle.std.proofs.Common.{rules, true, sym, subst}
use Rattle.farm_history.specs.History.{History}
use Rattle.journaled_book.specs.Records.{AreRecords}
use Rattle.journaled_book.proofs.Settling.{entered_in_doubt}
use Rattle.journaled_book.proofs.Keeping.{settled_since}
use Rattle.journaled_book.proofs.records.Records.commit.Goals as goal

pub settle-requires : goal.settle-requires
settle-requires g c = (
  search rules,
  subst (λ (history : History). AreRecords g.D.Disk.trace g.row.LIMIT true history c.args.self.now.journal) (sym c.commit-reply.ensures.entered)
      (entered_in_doubt g.D.Disk.trace g.row.LIMIT c.args.self.now.book.history c.args.entry c.args.self.now.journal c.requires.recordable
      c.requires.next c.requires.typed c.requires.pending),
)

pub returns-in_err-settle-clause-images : goal.returns-in_err-settle-clause-images
returns-in_err-settle-clause-images g c =
    settled_since g.row.LIMIT c.args.self.now.book.history c.args.entry _ c.settle.new.self.book _ _ c.commit-reply.ensures.entered
    c.settle.ensures.book c.settle.ensures.images

pub returns-clause-images : goal.returns-clause-images
returns-clause-images g c =
    settled_since g.row.LIMIT c.args.self.now.book.history c.args.entry _ c.settle.new.self.book _ _ c.commit-reply.ensures.entered
    c.settle.ensures.book c.settle.ensures.images
