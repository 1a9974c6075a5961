-- Answers to the open goals of `commit`.
use Rattle.std.proofs.Common.{rules, ◌≡◌, ◌∙◌, ℕ, option_map, sym, subst}
use Rattle.farm_stock.specs.Books.{plus}
use Rattle.farm_stock.specs.Postings.{amount_of, at_tank}
use Rattle.farm_history.specs.Conservation.{Moves}
use Rattle.farm_history.specs.Desk.{reply_at}
use Rattle.farm_history.specs.History.{History, last_place, with_entry}
use Rattle.farm_history.specs.Postings.{postings_at}
use Rattle.farm_history.specs.Stocks.{book_of, total_of}
use Rattle.farm_history.proofs.Books.{books_grow}
use Rattle.farm_history.proofs.Repeats.{new_key}
use Rattle.farm_history.proofs.Totals.{totals_grow}
use Rattle.farm_book.specs.Replies.{IsGainReply, IsTicketReply, IssuesAt, SettlesAt}
use Rattle.farm_book.proofs.Entered.{entered_issues, entered_issues_none, entered_settles, entered_settles_none}
use Rattle.farm_book.proofs.Replies.{replied_gain, replied_place, replied_ticket}
use Rattle.farm_book.proofs.book.Book.commit.Goals as goal
use Rattle.farm_book.proofs.book.Book.commit.Goals.{After-reply_with}
use Rattle.farm_book.proofs.book.Book.commit.Given.{Over}

-- what holds at the last place of the history with the entry holds at that of the book
there : (g : Over) (c : After-reply_with g) (P : History → ℕ → Type 0) →
    let more = with_entry c.args.self.now.history c.args.entry in
    P more (last_place more) → P c.take_in.new.self.history (last_place c.take_in.new.self.history)
there g c P holds = subst (λ (history : History). P history (last_place history)) (sym c.take_in.ensures.entered) holds

-- the reply is that at the last place
replied : (g : Over) (c : After-reply_with g) →
    let new = c.take_in.new.self.history in c.reply_with.result ≡ reply_at new (last_place new)
replied g c = search rules

pub returns-clause-ticket : goal.returns-clause-ticket
returns-clause-ticket g c = λ issues.
    let new = c.take_in.new.self.history in
    let at = there g c IssuesAt (entered_issues c.args.self.now.history c.args.entry issues) in
    subst (IsTicketReply new (last_place new)) (sym (replied g c))
    (replied_ticket g.row.LIMIT new (last_place new) c.take_in.ensures.sound at)

pub returns-clause-gain : goal.returns-clause-gain
returns-clause-gain g c = λ settles.
    let new = c.take_in.new.self.history in
    let at = there g c SettlesAt (entered_settles c.args.self.now.history c.args.entry settles) in
    subst (IsGainReply new (last_place new)) (sym (replied g c))
    (replied_gain g.row.LIMIT new (last_place new) c.take_in.ensures.sound at)

pub returns-clause-placed : goal.returns-clause-placed
returns-clause-placed g c = λ none no_settle.
    let new = c.take_in.new.self.history in
    let no_ticket = there g c (λ history place. ¬ (IssuesAt history place)) (entered_issues_none c.args.self.now.history c.args.entry none) in
    let no_gain = there g c (λ history place. ¬ (SettlesAt history place)) (entered_settles_none c.args.self.now.history c.args.entry no_settle) in
    replied g c ∙ replied_place new (last_place new) no_ticket no_gain

pub returns-clause-once : goal.returns-clause-once
returns-clause-once g c = new_key g.row.LIMIT c.args.self.now.history c.args.entry c.requires.next.accepted

pub returns-clause-books : goal.returns-clause-books
returns-clause-books g c = λ tank.
    let old : History = c.args.self.now.history in
    let Grows : History → Type 0 = λ new.
    book_of new tank ≡ option_map (λ book. plus book (amount_of (at_tank tank (postings_at new (last_place new))))) (book_of old tank) in
    subst Grows (sym c.take_in.ensures.entered) (books_grow old c.args.entry tank)

pub returns-clause-total : goal.returns-clause-total
returns-clause-total g c =
    let old : History = c.args.self.now.history in
    let Grows : History → Type 0 = λ new. Moves (postings_at new (last_place new)) (total_of old) (total_of new) in
    subst Grows (sym c.take_in.ensures.entered) (totals_grow old c.args.entry c.take_in.ensures.rising)
