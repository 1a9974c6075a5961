-- Answers to the open goals of `enter`.
use Rattle.std.proofs.Common.{◌≡◌, ◌+◌, ℕ, length, Some, if◌then◌else◌, ap, sym, subst}
use Rattle.key_index.specs.Keys.{is_under, place_under}
use Rattle.farm_history.specs.History.{History, last_place}
use Rattle.farm_history.proofs.Repeats.{new_key}
use Rattle.history_lookups.specs.Ledgers.{AreBounded, books_after, listed_postings}
use Rattle.farm_indexes.proofs.Books.{books_more}
use Rattle.farm_indexes.proofs.Keys.{more_indexed}
use Rattle.farm_indexes.proofs.indexes.Indexes.enter.Goals as goal

pub returns-clause-indexes : goal.returns-clause-indexes
returns-clause-indexes c =
    let history = c.args.past.now in
    let entry = c.args.entry.now in
    let old = c.args.self.now in
    let counted : length c.past.inside.entries.now ≡ length history.entries = ap (λ (past : History). length past.entries) c.past.view_is in
    let entered : (account key : ℕ) → place_under c.enter.new.self account key ≡
    (if is_under entry.account entry.key account key then Some (length history.entries + 1) else place_under old.keys account key) =
    λ account key. subst (λ (n : ℕ). place_under c.enter.new.self account key ≡ (if is_under entry.account entry.key account key then Some (n + 1) else place_under old.keys account key)) counted (c.enter.ensures.entered account key) in
    let fresh = new_key c.requires.follows.limit history entry c.requires.follows.next.accepted in
    record {
      keys = record {
        places = more_indexed history.entries entry (place_under old.keys) (place_under c.enter.new.self) c.requires.indexes.keys.places entered fresh;
      };
      notes = c.enter-2.ensures.notes;
      states = c.enter-3.ensures.states;
      moves = c.enter-4.ensures.moves;
      figures = c.enter-5.ensures.last;
      books =
          books_more history entry old.ledger c.post.new.self (listed_postings c.args.posted.now) c.requires.indexes.books
          c.requires.posted.listed c.post.ensures.posted
          (subst (λ books. AreBounded (last_place history + 1) (books_after (listed_postings c.args.posted.now) books))
          (sym c.requires.indexes.books.of_tanks) c.requires.posted.bounded);
    }
