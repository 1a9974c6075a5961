-- The bodies of answers, byte by byte.
use Rattle.std.specs.Prelude.{◌≡◌, ◌++◌, ℕ, suc, List, [], ◌∷◌, codes, decimal, Option, Some, None, ℤ, pos, negsuc}
use Rattle.std.specs.List.{concat}
use Rattle.farm_fixed.specs.declared.records.Amount.{Amount}
use Rattle.farm_fixed.specs.declared.records.Quantities.{Quantities}
use Rattle.farm_history.specs.declared.reply.Reply.{Reply}
use Rattle.farm_history.specs.declared.reply.Reply.TheVariants.{Gain, Placed, Refused, Stock, Ticket, Total}
use Rattle.farm_history.specs.declared.rule.Rule.{Rule}
use Rattle.farm_history.specs.RuleTable.{rule_number, rule_value}
use Rattle.farm_ticket.specs.declared.side.Moved.{Moved}
use Rattle.farm_ticket.specs.declared.side.Side.{Side}
use Rattle.farm_ticket.specs.Tickets as tickets
use Rattle.farm_http.specs.PageTexts.{body_text}
use Rattle.farm_http.specs.Tickets.{way_word}
use Rattle.farm_http.specs.declared.page.Allow.{Allow}
use Rattle.farm_http.specs.declared.page.Page.TheVariants as pages

-- a whole number: its decimal digits, after a minus where it is below zero (negsuc n is -(n + 1))
abbrev pub integer_text : ℤ → List ℕ
integer_text (pos n) = decimal n
integer_text (negsuc n) = codes "-" ++ decimal (suc n)

-- an amount
abbrev pub amount_text : Amount → List ℕ
amount_text amount = concat (codes "{\"kg\":" ∷ integer_text amount.kg ∷ codes ",\"litres\":" ∷ integer_text amount.litres ∷ codes "}" ∷ [])

-- the ten figures
abbrev pub figures_text : Quantities → List ℕ
figures_text q =
    concat (codes "{\"ctsh\":" ∷ integer_text q.ctsh ∷ codes ",\"fra\":" ∷ integer_text q.fra ∷ codes ",\"fw\":" ∷ integer_text q.fw ∷
    codes ",\"gov\":" ∷ integer_text q.gov ∷ codes ",\"gsv\":" ∷ integer_text q.gsv ∷ codes ",\"mass\":" ∷ integer_text q.mass ∷
    codes ",\"nsv\":" ∷ integer_text q.nsv ∷ codes ",\"swv\":" ∷ integer_text q.swv ∷ codes ",\"tov\":" ∷ integer_text q.tov ∷
    codes ",\"vcf\":" ∷ integer_text q.vcf ∷ codes "}" ∷ [])

-- what moved
abbrev pub moved_text : Moved → List ℕ
moved_text m =
    concat (codes "{\"gsv\":" ∷ integer_text m.gsv ∷ codes ",\"kg\":" ∷ integer_text m.mass ∷ codes ",\"nsv\":" ∷ integer_text m.nsv ∷
    codes ",\"swv\":" ∷ integer_text m.swv ∷ codes "}" ∷ [])

-- a side
abbrev pub side_text : Side → List ℕ
side_text side =
    concat (codes "{\"closing\":" ∷ figures_text side.closing ∷ codes ",\"moved\":" ∷ moved_text side.moved ∷ codes ",\"opening\":" ∷
    figures_text side.opening ∷ codes ",\"tank\":" ∷ decimal side.tank ∷ codes ",\"way\":\"" ∷ way_word side.way ∷ codes "\"}" ∷ [])

-- the sides of a ticket: the first, and the second after it where there is one
abbrev pub sides_text : Side → Option Side → List ℕ
sides_text first None = concat (codes "[" ∷ side_text first ∷ codes "]" ∷ [])
sides_text first (Some second) = concat (codes "[" ∷ side_text first ∷ codes "," ∷ side_text second ∷ codes "]" ∷ [])

-- a ticket
abbrev pub ticket_text : tickets.Ticket → List ℕ
ticket_text ticket =
    concat (codes "{\"movement\":" ∷ decimal ticket.movement ∷ codes ",\"number\":" ∷ decimal ticket.number ∷ codes ",\"party\":" ∷
    decimal ticket.party ∷ codes ",\"place\":" ∷ decimal ticket.place ∷ codes ",\"reverses\":" ∷ decimal ticket.reverses ∷
    codes ",\"sides\":" ∷ sides_text ticket.first ticket.second ∷ codes "}" ∷ [])

-- the text of a place
abbrev pub place_text : ℕ → List ℕ
place_text place = concat (codes "{\"place\":" ∷ decimal place ∷ codes "}" ∷ [])

-- the text of a refusal
abbrev pub refusal_text : Rule → List ℕ
refusal_text rule = concat (codes "{\"rule\":" ∷ decimal (rule_number rule) ∷ codes ",\"value\":" ∷ decimal (rule_value rule) ∷ codes "}" ∷ [])

-- the text of a gain
abbrev pub gain_text : ℕ → Amount → List ℕ
gain_text place amount = concat (codes "{\"gain\":" ∷ amount_text amount ∷ codes ",\"place\":" ∷ decimal place ∷ codes "}" ∷ [])

-- the text of a stock
abbrev pub stock_text : ℕ → Amount → ℕ → ℕ → List ℕ
stock_text tank amount reading sample =
    concat (codes "{\"kg\":" ∷ integer_text amount.kg ∷ codes ",\"litres\":" ∷ integer_text amount.litres ∷ codes ",\"reading\":" ∷
    decimal reading ∷ codes ",\"sample\":" ∷ decimal sample ∷ codes ",\"tank\":" ∷ decimal tank ∷ codes "}" ∷ [])

-- the text of a total
abbrev pub total_text : ℕ → Amount → List ℕ
total_text entries amount =
    concat (codes "{\"entries\":" ∷ decimal entries ∷ codes ",\"kg\":" ∷ integer_text amount.kg ∷ codes ",\"litres\":" ∷
    integer_text amount.litres ∷ codes "}" ∷ [])

-- the text of a status
abbrev pub status_text : ℕ → List ℕ
status_text status = concat (codes "{\"error\":" ∷ decimal status ∷ codes "}" ∷ [])

-- the text of a reply
abbrev pub reply_text : Reply → List ℕ
reply_text (Placed place) = place_text place
reply_text (Refused rule) = refusal_text rule
reply_text (Ticket ticket) = ticket_text ticket
reply_text (Gain place amount) = gain_text place amount
reply_text (Stock tank amount reading sample) = stock_text tank amount reading sample
reply_text (Total entries amount) = total_text entries amount

-- the body of a place
abbrev pub PlaceInBytes : Type 0
PlaceInBytes = (place : ℕ) → body_text (pages.Reply (Placed place)) ≡ place_text place

-- the body of a refusal
abbrev pub RefusalInBytes : Type 0
RefusalInBytes = (rule : Rule) → body_text (pages.Reply (Refused rule)) ≡ refusal_text rule

-- the body of a gain
abbrev pub GainInBytes : Type 0
GainInBytes = (place : ℕ) (amount : Amount) → body_text (pages.Reply (Gain place amount)) ≡ gain_text place amount

-- the body of a stock
abbrev pub StockInBytes : Type 0
StockInBytes = (tank : ℕ) (amount : Amount) (reading sample : ℕ) → body_text (pages.Reply (Stock tank amount reading sample)) ≡
    stock_text tank amount reading sample

-- the body of a total
abbrev pub TotalInBytes : Type 0
TotalInBytes = (entries : ℕ) (amount : Amount) → body_text (pages.Reply (Total entries amount)) ≡ total_text entries amount

-- the body of a ticket
abbrev pub TicketInBytes : Type 0
TicketInBytes = (ticket : tickets.Ticket) → body_text (pages.Reply (Ticket ticket)) ≡ ticket_text ticket

-- the body of a status
abbrev pub StatusInBytes : Type 0
StatusInBytes = (status : ℕ) (allow : Option Allow) → body_text (pages.Status status allow) ≡ status_text status
