-- Answers to the open goals of `reply_at`.
use Rattle.std.proofs.Common.{◌∙◌, subst, sym}
use Rattle.farm_book.specs.Replies.{IsGainReply, IsTicketReply}
use Rattle.farm_book.proofs.Replies.{replied_gain, replied_place, replied_ticket}
use Rattle.farm_book.proofs.book.Book.reply_at.Goals as goal

pub returns-clause-ticket : goal.returns-clause-ticket
returns-clause-ticket g c = λ at.
    let history = c.args.self.now.history in
    subst (IsTicketReply history c.args.place) (sym c.reply_with.ensures.reply)
    (replied_ticket g.row.LIMIT history c.args.place c.facts.ensures.sound at)

pub returns-clause-gain : goal.returns-clause-gain
returns-clause-gain g c = λ at.
    let history = c.args.self.now.history in
    subst (IsGainReply history c.args.place) (sym c.reply_with.ensures.reply)
    (replied_gain g.row.LIMIT history c.args.place c.facts.ensures.sound at)

pub returns-clause-placed : goal.returns-clause-placed
returns-clause-placed g c = λ none no_gain.
    c.reply_with.ensures.reply ∙ replied_place c.args.self.now.history c.args.place none no_gain
