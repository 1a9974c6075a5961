-- What is answered for the entry at a place: its ticket, its gain, or the place alone.
use Rattle.std.proofs.Common.{◌≡◌, ◌∙◌, ◌⊎◌, inl, inr, ℕ, true, Option, Some, None, refl, ap, ap₂, subst, sym}
use Rattle.std.specs.Prelude.{IsTrue}
use Rattle.farm_fixed.specs.declared.records.Amount.{Amount}
use Rattle.farm_ticket.specs.Tickets.{Ticket}
use Rattle.farm_history.specs.declared.command.Command.{Command}
use Rattle.farm_history.specs.declared.command.Command.TheVariants.{Settle}
use Rattle.farm_history.specs.declared.entry.Entry.{Entry}
use Rattle.farm_history.specs.declared.plan.Gauged.{Gauged}
use Rattle.farm_history.specs.declared.reply.Reply.{Reply}
use Rattle.farm_history.specs.declared.reply.Reply.TheVariants as replies
use Rattle.farm_history.specs.Commands.{is_settle, issues_ticket}
use Rattle.farm_history.specs.Desk.{reply_at, reply_of}
use Rattle.farm_history.specs.History.{History, before}
use Rattle.farm_history.specs.Issued.{IsClosingTicket, IsReversingTicket}
use Rattle.farm_history.specs.Stocks.{gain_at}
use Rattle.farm_history.specs.Tickets.{ticket_at}
use Rattle.farm_history.proofs.Gains.{gains_mean, gains_stand}
use Rattle.farm_history.proofs.TicketsMean.{tickets_mean}
use Rattle.farm_history.proofs.TicketsStand.{tickets_stand}
use Rattle.farm_book.specs.Kept.{IsSound}
use Rattle.farm_book.specs.Replies.{IsGainReply, IsTicketReply, IssuesAt, SettlesAt}

-- what is there isn't missing
some_isnt_none : {A : Type 0} (here : A) → Some here ≡ None → ⊥
some_isnt_none here is = cc

-- a command that issues a ticket is a Closing or a Reverse
issued_issues : (history : History) (place : ℕ) (command : Command) (ticket : Ticket) →
    IsClosingTicket history place command ticket ⊎ IsReversingTicket history place command ticket → IsTrue (issues_ticket command)
issued_issues history place command ticket (inl closing) = ap issues_ticket closing.given
issued_issues history place command ticket (inr reversing) = ap issues_ticket reversing.given

-- at the place of a ticket one stands
pub issues_there : (history : History) (place : ℕ) (ticket : Ticket) → ticket_at history place ≡ Some ticket → IssuesAt history place
issues_there history place ticket is =
    let at = tickets_mean history place ticket is in
    record { entry = at.entry; there = at.there; issues = issued_issues (before history place) place at.entry.cmd ticket at.issued }

-- a place without a ticket in a sound history is one where none stands
pub none_there : (limit : ℕ) (history : History) (place : ℕ) → IsSound limit history → ticket_at history place ≡ None → ¬ (IssuesAt history place)
none_there limit history place sound none = λ at.
    let found = tickets_stand limit history place at.entry sound.computable sound.legal at.there at.issues in
    some_isnt_none found.0 (sym found.1 ∙ none)

-- the ticket of a place is answered with that ticket
pub ticket_given : (history : History) (place : ℕ) (ticket : Ticket) → ticket_at history place ≡ Some ticket →
    IsTicketReply history place (replies.Ticket ticket)
ticket_given history place ticket is = record { ticket = ticket; answered = refl; issued = tickets_mean history place ticket is }

-- at the place of a gain a Settle stands
pub settles_there : (history : History) (place : ℕ) (gain : Amount) → gain_at history place ≡ Some gain → SettlesAt history place
settles_there history place gain is =
    let at = gains_mean history place gain is in
    record { entry = at.entry; there = at.there; settles = ap is_settle at.settle }

-- a command that settles a book is a Settle
settle_given : (command : Command) → IsTrue (is_settle command) → (tank : ℕ) × (gauged : Gauged) × (command ≡ Settle tank gauged)
settle_given (Settle tank gauged) settles = (tank, gauged, refl)
settle_given command settles = cc

-- a place without a gain in a sound history is one where no Settle stands
pub no_settle_there : (limit : ℕ) (history : History) (place : ℕ) → IsSound limit history → gain_at history place ≡ None → ¬ (SettlesAt history place)
no_settle_there limit history place sound none = λ at.
    let given = settle_given at.entry.cmd at.settles in
    let found = gains_stand limit history place at.entry given.0 given.1 sound.computable sound.legal at.there given.2 in
    some_isnt_none found.0 (sym found.1 ∙ none)

-- the gain of a place is answered with that gain
pub gain_given : (history : History) (place : ℕ) (gain : Amount) → gain_at history place ≡ Some gain →
    IsGainReply history place (replies.Gain place gain)
gain_given history place gain is = record { gain = gain; answered = refl; measured = gains_mean history place gain is }

-- no command settles a book and issues a ticket
one_reply : (command : Command) → IsTrue (is_settle command) → IsTrue (issues_ticket command) → ⊥
one_reply (Settle tank gauged) settles issues = cc
one_reply command settles issues = cc

-- so where a ticket was issued no Settle stands
pub issues_no_gain : (history : History) (place : ℕ) → IssuesAt history place → ¬ (SettlesAt history place)
issues_no_gain history place issued = λ settled.
    let one : Some issued.entry ≡ Some settled.entry = sym issued.there ∙ settled.there in
    let same : issued.entry ≡ settled.entry = cc in
    let issues : issues_ticket settled.entry.cmd ≡ true = sym (ap (λ (entry : Entry). issues_ticket entry.cmd) same) ∙ issued.issues in
    one_reply settled.entry.cmd settled.settles issues

-- where a ticket was issued, the reply is that ticket
pub replied_ticket : (limit : ℕ) (history : History) (place : ℕ) → IsSound limit history → IssuesAt history place →
    IsTicketReply history place (reply_at history place)
unfolding reply_at
replied_ticket limit history place sound at = by (ticket_at history place) refl
  where
    by : (found : Option Ticket) → ticket_at history place ≡ found → IsTicketReply history place (reply_at history place)
    by None none = absurd (none_there limit history place sound none at)
    by (Some ticket) is =
        subst (λ (found : Option Ticket). IsTicketReply history place (reply_of found (gain_at history place) place)) (sym is)
        (ticket_given history place ticket is)

-- where a Settle stands, it is its place and its gain
pub replied_gain : (limit : ℕ) (history : History) (place : ℕ) → IsSound limit history → SettlesAt history place →
    IsGainReply history place (reply_at history place)
unfolding reply_at
replied_gain limit history place sound at = by (ticket_at history place) (gain_at history place) refl refl
  where
    by : (found : Option Ticket) (gain : Option Amount) → ticket_at history place ≡ found → gain_at history place ≡ gain →
        IsGainReply history place (reply_at history place)
    by (Some ticket) gain is gained = absurd (issues_no_gain history place (issues_there history place ticket is) at)
    by None None none no_gain = absurd (no_settle_there limit history place sound no_gain at)
    by None (Some gain) none is =
        subst (λ (reply : Reply). IsGainReply history place reply) (sym (ap₂ (λ ticket gain. reply_of ticket gain place) none is))
        (gain_given history place gain is)

-- where neither is, it is the place alone
pub replied_place : (history : History) (place : ℕ) → ¬ (IssuesAt history place) → ¬ (SettlesAt history place) →
    reply_at history place ≡ replies.Placed place
unfolding reply_at
replied_place history place unissued unsettled = by (ticket_at history place) (gain_at history place) refl refl
  where
    by : (found : Option Ticket) (gain : Option Amount) → ticket_at history place ≡ found → gain_at history place ≡ gain →
        reply_at history place ≡ replies.Placed place
    by (Some ticket) gain is gained = absurd (unissued (issues_there history place ticket is))
    by None (Some gain) none is = absurd (unsettled (settles_there history place gain is))
    by None None none no_gain = ap₂ (λ ticket gain. reply_of ticket gain place) none no_gain
