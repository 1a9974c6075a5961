-- Answers to the open goals of `gain_after`.
use Rattle.std.proofs.Common.{Some, ap, sym, ◌∙◌, subst}
use Rattle.farm_history.specs.Figures.{figures_at}
use Rattle.farm_history.specs.Postings.{less}
use Rattle.history_lookups.specs.Bounds.{IsAtMost, IsGainOf, most_posted}
use Rattle.history_lookups.proofs.FoundBooks.{found_small, gain_is, gain_makes_held, gain_small, no_gain}
use Rattle.history_lookups.proofs.past.Past.gain_after.Goals as goal

pub returns-in_err-book-clause-gain : goal.returns-in_err-book-clause-gain
returns-in_err-book-clause-gain c =
    let history = c.args.self.now in
    c.from_residual.ensures ∙ sym (no_gain history c.args.tank c.args.gauged.now c.args.ledger.now c.requires.books (sym c.in_err-book.ensures.book))

pub less-requires-clause-other : goal.less-requires-clause-other
less-requires-clause-other c =
    let history = c.args.self.now in
    found_small history c.args.tank c.args.ledger.now c.in_ok-book.book c.requires.readable c.requires.books (sym c.in_ok-book.ensures.book)

pub returns-clause-gain : goal.returns-clause-gain
returns-clause-gain c =
    let history = c.args.self.now in
    let known = sym (c.in_ok-figures.ensures.figures ∙ ap (figures_at history) c.named.ensures.named) in
    ap Some (c.less.ensures.amount ∙ ap (λ held. less held c.in_ok-book.book) c.amount_held.ensures.amount)
    ∙ sym (gain_is history c.args.tank c.args.gauged.now c.args.ledger.now c.in_ok-book.book c.in_ok-figures.figures c.requires.books
    (sym c.in_ok-book.ensures.book) known)

pub returns-clause-small : goal.returns-clause-small
returns-clause-small c =
    let history = c.args.self.now in
    let is = c.less.ensures.amount ∙ ap (λ held. less held c.in_ok-book.book) c.amount_held.ensures.amount in
    subst (IsAtMost most_posted) (sym is)
    (gain_small history c.args.tank c.args.ledger.now c.in_ok-book.book c.in_ok-figures.figures c.requires.readable c.requires.books
    (sym c.in_ok-book.ensures.book) c.in_ok-figures.ensures.range)

pub returns-clause-held : goal.returns-clause-held
returns-clause-held c =
    let is = c.less.ensures.amount ∙ ap (λ held. less held c.in_ok-book.book) c.amount_held.ensures.amount in
    subst (IsGainOf c.args.tank c.args.ledger.now) (sym is)
    (gain_makes_held c.args.tank c.args.ledger.now c.in_ok-book.book c.in_ok-figures.figures (sym c.in_ok-book.ensures.book)
    c.in_ok-figures.ensures.range)
