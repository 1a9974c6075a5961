-- Answers to the open goals of `judge_and_enter`.
use Rattle.std.proofs.Common.{◌∙◌, ap, refl, rules}
use Rattle.farm_book.specs.Kept.{Kept}
use Rattle.journaled_book.proofs.Answered.{entered_extends, entered_images, put_images, taken_extends, taken_images}
use Rattle.journaled_book.proofs.Traces.{extends_same}
use Rattle.journaled_book.proofs.records.Records.judge_and_enter.Goals as goal

pub returns-in_err-take_memory-in-Accept-clause-images :
    goal.returns-in_err-take_memory-in-Accept-clause-images
returns-in_err-take_memory-in-Accept-clause-images g c =
    taken_images g.D.Disk.trace g.row.LIMIT c.args.self.now.book.history c.take_memory.new.self.book.history c.args.self.now.journal.disk
    c.take_memory.new.self.journal.disk c.take_memory.ensures.history c.take_memory.ensures.disk c.take_memory.new.self.doubt
    c.take_memory.new.self.journal (c.take_memory.ensures.doubt ∙ c.requires.certain) refl c.take_memory.ensures.kept

pub returns-in_err-take_memory-in-Accept-clause-moves : goal.returns-in_err-take_memory-in-Accept-clause-moves
returns-in_err-take_memory-in-Accept-clause-moves g c =
    record {
      extends = taken_extends g.D.Disk.trace g.row.LIMIT c.args.self.now.book.history c.take_memory.new.self.book.history c.args.self.now.journal.disk
          c.take_memory.new.self.journal.disk c.take_memory.ensures.history c.take_memory.ensures.disk;
      moment = search rules;
    }

pub returns-in_err-put-in-Accept-clause-images : goal.returns-in_err-put-in-Accept-clause-images
returns-in_err-put-in-Accept-clause-images g c =
    put_images g.D.Disk.trace g.row.LIMIT c.args.self.now.book.history c.take_memory.new.self.book.history c.args.self.now.journal.disk
    c.take_memory.new.self.journal.disk c.take_memory.ensures.history c.take_memory.ensures.disk c.put.new.self.book.history c.put.new.self.journal.disk
    (ap (λ (kept : Kept). kept.history) c.put.ensures.book) c.put.ensures.images

pub returns-in_err-commit-in-Accept-clause-images :
    goal.returns-in_err-commit-in-Accept-clause-images
returns-in_err-commit-in-Accept-clause-images g c =
    entered_images g.D.Disk.trace g.row.LIMIT c.args.self.now.book.history c.take_memory.new.self.book.history c.args.self.now.journal.disk
    c.take_memory.new.self.journal.disk c.take_memory.ensures.history c.take_memory.ensures.disk c.args.entry c.put.new.self.book.history
    c.commit.new.self.book.history c.put.new.self.journal.disk c.commit.new.self.journal.disk (ap (λ (kept : Kept). kept.history) c.put.ensures.book)
    c.commit.ensures.entered c.commit.ensures.moves.extends c.put.ensures.images c.commit.ensures.images

pub returns-in_err-commit-in-Accept-clause-moves : goal.returns-in_err-commit-in-Accept-clause-moves
returns-in_err-commit-in-Accept-clause-moves g c =
    record {
      extends = entered_extends g.D.Disk.trace g.row.LIMIT c.args.self.now.book.history c.take_memory.new.self.book.history c.args.self.now.journal.disk
          c.take_memory.new.self.journal.disk c.take_memory.ensures.history c.take_memory.ensures.disk c.put.new.self.journal.disk c.commit.new.self.journal.disk
          c.put.ensures.moves.extends c.commit.ensures.moves.extends;
      moment = search rules;
    }

pub returns-in-Repeat-clause-images : goal.returns-in-Repeat-clause-images
returns-in-Repeat-clause-images g c =
    taken_images g.D.Disk.trace g.row.LIMIT c.args.self.now.book.history c.args.self.now.book.history c.args.self.now.journal.disk
    c.args.self.now.journal.disk refl refl c.args.self.now.doubt c.args.self.now.journal c.requires.certain refl c.requires.kept

pub returns-in-Repeat-clause-moves : goal.returns-in-Repeat-clause-moves
returns-in-Repeat-clause-moves g c =
    record {
      extends = extends_same (g.D.Disk.trace c.args.self.now.journal.disk);
      moment = search rules;
    }

pub returns-in-Refused-clause-images : goal.returns-in-Refused-clause-images
returns-in-Refused-clause-images g c =
    taken_images g.D.Disk.trace g.row.LIMIT c.args.self.now.book.history c.args.self.now.book.history c.args.self.now.journal.disk
    c.args.self.now.journal.disk refl refl c.args.self.now.doubt c.args.self.now.journal c.requires.certain refl c.requires.kept

pub returns-in-Refused-clause-moves : goal.returns-in-Refused-clause-moves
returns-in-Refused-clause-moves g c =
    record {
      extends = extends_same (g.D.Disk.trace c.args.self.now.journal.disk);
      moment = search rules;
    }

pub returns-in_ok-commit-in-Accept-clause-images : goal.returns-in_ok-commit-in-Accept-clause-images
returns-in_ok-commit-in-Accept-clause-images g c =
    entered_images g.D.Disk.trace g.row.LIMIT c.args.self.now.book.history c.take_memory.new.self.book.history c.args.self.now.journal.disk
    c.take_memory.new.self.journal.disk c.take_memory.ensures.history c.take_memory.ensures.disk c.args.entry c.put.new.self.book.history
    c.commit.new.self.book.history c.put.new.self.journal.disk c.commit.new.self.journal.disk (ap (λ (kept : Kept). kept.history) c.put.ensures.book)
    c.commit.ensures.entered c.commit.ensures.moves.extends c.put.ensures.images c.commit.ensures.images

pub returns-in_ok-commit-in-Accept-clause-moves : goal.returns-in_ok-commit-in-Accept-clause-moves
returns-in_ok-commit-in-Accept-clause-moves g c =
    record {
      extends = entered_extends g.D.Disk.trace g.row.LIMIT c.args.self.now.book.history c.take_memory.new.self.book.history c.args.self.now.journal.disk
          c.take_memory.new.self.journal.disk c.take_memory.ensures.history c.take_memory.ensures.disk c.put.new.self.journal.disk c.commit.new.self.journal.disk
          c.put.ensures.moves.extends c.commit.ensures.moves.extends;
      moment = search rules;
    }
