-- The bodies of answers: JSON without blanks, its members in sorted order.
use Rattle.std.specs.Prelude.{◌≡◌, ◌⊎◌, ◌↔◌, ℕ, List, codes, IsSome}
use Rattle.serde_json.specs.Data.{Members, member, no_members, object}
use Rattle.serde_json.specs.Written.{compact_text}
use Rattle.farm_fixed.specs.declared.records.Amount.{Amount}
use Rattle.farm_history.specs.declared.reply.Reply.TheVariants.{Gain, Placed, Refused, Stock, Ticket, Total}
use Rattle.farm_history.specs.RuleTable.{rule_number, rule_value}
use Rattle.farm_http.specs.Objects.{numbered, signed}
use Rattle.farm_http.specs.Tickets.{ticket_members}
use Rattle.farm_http.specs.declared.page.Page.{Page}
use Rattle.farm_http.specs.declared.page.Page.TheVariants as pages

-- the members of an amount, with those after it
abbrev pub amount_members : Amount → Members → Members
amount_members amount members = signed (codes "kg") amount.kg (signed (codes "litres") amount.litres members)

-- the members of an answer
abbrev pub members_of : Page → Members
members_of (pages.Reply (Placed place)) = numbered (codes "place") place no_members
members_of (pages.Reply (Refused rule)) = numbered (codes "rule") (rule_number rule) (numbered (codes "value") (rule_value rule) no_members)
members_of (pages.Reply (Ticket ticket)) = ticket_members ticket
members_of (pages.Reply (Gain place amount)) =
    member (codes "gain") (object (amount_members amount no_members)) (numbered (codes "place") place no_members)
members_of (pages.Reply (Stock tank amount reading sample)) =
    amount_members amount (numbered (codes "reading") reading (numbered (codes "sample") sample (numbered (codes "tank") tank no_members)))
members_of (pages.Reply (Total entries amount)) = numbered (codes "entries") entries (amount_members amount no_members)
members_of (pages.Status status allow) = numbered (codes "error") status no_members

-- the text of an answer's body
unfoldable pub body_text : Page → List ℕ
body_text page = compact_text (object (members_of page))

-- a status that a request is answered with which the desk wasn't asked
abbrev pub IsErrorStatus : ℕ → Type 0
IsErrorStatus status =
    (status ≡ 400) ⊎ (status ≡ 404) ⊎ (status ≡ 405) ⊎ (status ≡ 411) ⊎ (status ≡ 413) ⊎ (status ≡ 431) ⊎ (status ≡ 503) ⊎ (status ≡ 507)

-- a page that may be answered: a reply, or one of those statuses, which names a method exactly where the method is at fault
abbrev pub IsAnswer : Page → Type 0
IsAnswer (pages.Reply reply) = Unit {0}
IsAnswer (pages.Status status allow) = IsErrorStatus status × (IsSome allow ↔ (status ≡ 405))
