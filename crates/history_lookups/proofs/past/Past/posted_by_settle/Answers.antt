-- Answers to the open goals of `posted_by_settle`.
use Rattle.std.proofs.Common.{◌+◌, [], ◌∷◌, sym, subst}
use Rattle.farm_stock.specs.declared.posting.Kind.TheVariants.{Gain}
use Rattle.farm_stock.specs.declared.posting.Posting.{Posting}
use Rattle.farm_history.specs.History.{History, last_place}
use Rattle.farm_history.specs.Postings.{unnamed}
use Rattle.history_lookups.specs.Ledgers.{AreBooksOf, AreBounded, books_after}
use Rattle.history_lookups.proofs.BooksBounded.{gain_bounded, none_bounded}
use Rattle.history_lookups.proofs.FoundBooks.{ledger_rises}
use Rattle.history_lookups.proofs.past.Past.posted_by_settle.Goals as goal

pub returns-in-Some-clause-bounded : goal.returns-in-Some-clause-bounded
returns-in-Some-clause-bounded c =
    let ledger = c.args.ledger.now in
    let entries = last_place c.args.self.now in
    let books = subst (λ (history : History). AreBooksOf history ledger) (sym c.self.view_is) c.requires.books in
    let rises = ledger_rises c.self.inside.site.now c.self.inside.entries.now ledger books in
    subst (λ (posting : Posting). AreBounded (entries + 1) (books_after (posting ∷ []) ledger)) (sym c.unnamed.ensures.posting)
    (gain_bounded entries ledger (unnamed c.args.tank Gain c.in-Some.gain) rises c.in-Some.ensures.held c.requires.books.bounded)

pub returns-in-None-clause-bounded : goal.returns-in-None-clause-bounded
returns-in-None-clause-bounded c =
    none_bounded (last_place c.args.self.now) c.args.ledger.now c.requires.books.bounded
