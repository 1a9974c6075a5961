-- Answers to the open goals of `settle`.
use Rattle.journaled_book.proofs.Settling.{records_since, settled_images, settled_keeps}
use Rattle.journaled_book.proofs.records.Records.settle.Goals as goal

pub returns-in_err-open_gate-clause-images : goal.returns-in_err-open_gate-clause-images
returns-in_err-open_gate-clause-images g c =
    settled_images g.D.Disk.trace g.row.LIMIT c.args.self.now.doubt c.args.self.now.book.history c.args.self.now.journal _ _ c.if-self.true c.requires.kept
    c.open_gate.ensures.images

pub returns-in_ok-open_gate-clause-kept : goal.returns-in_ok-open_gate-clause-kept
returns-in_ok-open_gate-clause-kept g c =
    settled_keeps g.D.Disk.trace g.row.LIMIT c.args.self.now.doubt c.args.self.now.book.history c.args.self.now.journal c.open_gate.new.self c.if-self.true
    c.requires.kept c.in_ok-open_gate.ensures.stands

pub returns-in_ok-open_gate-clause-images : goal.returns-in_ok-open_gate-clause-images
returns-in_ok-open_gate-clause-images g c =
    settled_images g.D.Disk.trace g.row.LIMIT c.args.self.now.doubt c.args.self.now.book.history c.args.self.now.journal _ _ c.if-self.true c.requires.kept
    c.open_gate.ensures.images

pub returns-else-self-clause-images : goal.returns-else-self-clause-images
returns-else-self-clause-images g c =
    records_since g.D.Disk.trace g.row.LIMIT c.args.self.now.doubt c.args.self.now.book.history c.args.self.now.journal c.requires.kept
