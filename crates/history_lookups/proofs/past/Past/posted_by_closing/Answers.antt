-- Answers to the open goals of `posted_by_closing`.
use Rattle.std.proofs.Common.{sym, subst}
use Rattle.history_lookups.specs.Bounds.{AreSmallPostings}
use Rattle.history_lookups.proofs.TicketPostings.{ticket_small}
use Rattle.history_lookups.proofs.past.Past.posted_by_closing.Goals as goal

pub returns-in-Some-clause-small : goal.returns-in-Some-clause-small
returns-in-Some-clause-small c = subst AreSmallPostings (sym c.postings_of_ticket.ensures.posted) (ticket_small c.in-Some.ticket c.in-Some.ensures.small)
