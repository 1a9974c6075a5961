-- Answers to the open goals of `new`.
use Rattle.std.proofs.Common.{[], List, ap, sym, ◌∙◌, subst}
use Rattle.farm_site.specs.Sites.{described}
use Rattle.farm_site.specs.declared.items.Tank.{Tank}
use Rattle.farm_stock.specs.declared.book.TankBook.{TankBook}
use Rattle.history_lookups.specs.Ledgers.{AreBooksTo, books_with}
use Rattle.history_lookups.specs.Pasts.{history_of}
use Rattle.history_lookups.proofs.BooksTo.{books_at_start}
use Rattle.farm_indexes.proofs.indexes.Indexes.new.Goals as goal

pub returns : goal.returns
returns c =
    let site = c.args.site.now in
    let opened = c.opened.ensures.opened ∙ ap (λ (tanks : List Tank). books_with tanks []) c.get.ensures.items in
    record {
      indexes = record {
        keys = record { places = c.new-4.ensures.empty };
        notes = c.new-5.ensures.notes (described site);
        states = c.in_ok-states.ensures.states;
        moves = c.in_ok-moves.ensures.moves;
        figures = c.in_ok-figures.ensures.figures;
        books = subst (λ (books : List TankBook). AreBooksTo (history_of site []) 0 books) (sym opened) (books_at_start site []);
      };
    }
