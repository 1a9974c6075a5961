-- The bodies of answers in bytes are the texts of their objects.
use Rattle.std.proofs.Common.{◌≡◌, ℤ, pos, negsuc, ℕ, [], ◌∷◌, ◌++◌, Option, None, Some, codes, decimal, refl, sym, append_assoc}
use Rattle.std.specs.Fmt.{signed_decimal}
use Rattle.std.specs.List.{concat}
use Rattle.serde_json.proofs.OnLiterals.{serde_json_on_literals}
use Rattle.serde_json.specs.Data.{no_members, object}
use Rattle.serde_json.specs.Find.{of_integer}
use Rattle.serde_json.specs.Written.{compact_text, number_text}
use Rattle.farm_fixed.specs.declared.records.Amount.{Amount}
use Rattle.farm_fixed.specs.declared.records.Quantities.{Quantities}
use Rattle.farm_history.specs.declared.reply.Reply.{Reply}
use Rattle.farm_history.specs.declared.reply.Reply.TheVariants.{Gain, Placed, Refused, Stock, Ticket, Total}
use Rattle.farm_ticket.specs.declared.side.Moved.{Moved}
use Rattle.farm_ticket.specs.declared.side.Side.{Side}
use Rattle.farm_ticket.specs.declared.side.Way.{Way}
use Rattle.farm_ticket.specs.declared.side.Way.TheVariants.{Inward, Outward}
use Rattle.farm_http.specs.PageTexts.{amount_members, body_text}
use Rattle.farm_http.specs.Bodies.{GainInBytes, PlaceInBytes, RefusalInBytes, StatusInBytes, StockInBytes, TicketInBytes, TotalInBytes, amount_text, figures_text, gain_text, integer_text, moved_text, reply_text, side_text, sides_text, total_text}
use Rattle.farm_http.specs.declared.page.Page.TheVariants as pages
use Rattle.farm_http.specs.Tickets.{figures_value, moved_value, side_value, sides_value, ticket_members}

-- the text of a whole number
integer_is : (z : ℤ) → number_text (of_integer z) ≡ integer_text z
integer_is (pos n) = refl
integer_is (negsuc n) = refl

-- and of one that is appended
pub signed_is : (z : ℤ) → signed_decimal z ≡ integer_text z
signed_is (pos n) = refl
signed_is (negsuc n) = refl

-- the text of an amount
amount_is : (amount : Amount) → compact_text (object (amount_members amount no_members)) ≡ amount_text amount
unfolding serde_json_on_literals
amount_is amount = rw (integer_is amount.kg, integer_is amount.litres) refl

-- the text of the ten figures
figures_are : (q : Quantities) → compact_text (figures_value q) ≡ figures_text q
unfolding figures_value serde_json_on_literals
figures_are q =
    rw (integer_is q.ctsh, integer_is q.fra, integer_is q.fw, integer_is q.gov, integer_is q.gsv, integer_is q.mass, integer_is q.nsv, integer_is q.swv, integer_is q.tov, integer_is q.vcf)
    refl

-- the text of what moved
moved_is : (m : Moved) → compact_text (moved_value m) ≡ moved_text m
unfolding moved_value serde_json_on_literals
moved_is m = rw (integer_is m.gsv, integer_is m.mass, integer_is m.nsv, integer_is m.swv) refl

-- the text of a side
side_is : (side : Side) → compact_text (side_value side) ≡ side_text side
unfolding side_value serde_json_on_literals
side_is side = by side.opening side.closing side.moved side.tank side.way
  where
    by : (opening closing : Quantities) (moved : Moved) (tank : ℕ) (way : Way) →
        (let side : Side = record { tank = tank; way = way; opening = opening; closing = closing; moved = moved } in compact_text (side_value side) ≡ side_text side)
    by opening closing moved tank Inward = rw (figures_are closing, moved_is moved, figures_are opening) refl
    by opening closing moved tank Outward = rw (figures_are closing, moved_is moved, figures_are opening) refl

-- the text of the sides of a ticket
sides_are : (first : Side) (second : Option Side) → compact_text (sides_value first second) ≡ sides_text first second
sides_are first None = rw (side_is first) refl
sides_are first (Some second) = rw (side_is first, side_is second) refl

-- the body of a place
pub place_in_bytes : PlaceInBytes
unfolding body_text serde_json_on_literals
place_in_bytes place = refl

-- the body of a ticket
pub ticket_in_bytes : TicketInBytes
unfolding body_text ticket_members serde_json_on_literals
ticket_in_bytes ticket = rw (sides_are ticket.first ticket.second) refl

-- the body of a gain
pub gain_in_bytes : GainInBytes
unfolding body_text serde_json_on_literals
gain_in_bytes place amount = rw (integer_is amount.kg, integer_is amount.litres) refl

-- the body of a stock
pub stock_in_bytes : StockInBytes
unfolding body_text serde_json_on_literals
stock_in_bytes tank amount reading sample = rw (integer_is amount.kg, integer_is amount.litres) refl

-- the body of a total
pub total_in_bytes : TotalInBytes
unfolding body_text serde_json_on_literals
total_in_bytes entries amount = rw (integer_is amount.kg, integer_is amount.litres) refl

-- the body of a refusal
pub refusal_in_bytes : RefusalInBytes
unfolding body_text serde_json_on_literals
refusal_in_bytes rule = refl

-- the body of a status
pub status_in_bytes : StatusInBytes
unfolding body_text serde_json_on_literals
status_in_bytes status allow = refl

-- the body of a reply
pub reply_is : (reply : Reply) → reply_text reply ≡ body_text (pages.Reply reply)
reply_is (Placed place) = sym (place_in_bytes place)
reply_is (Refused rule) = sym (refusal_in_bytes rule)
reply_is (Ticket ticket) = sym (ticket_in_bytes ticket)
reply_is (Gain place amount) = sym (gain_in_bytes place amount)
reply_is (Stock tank amount reading sample) = sym (stock_in_bytes tank amount reading sample)
reply_is (Total entries amount) = sym (total_in_bytes entries amount)

-- the pieces of a total, whose numbers are read, are its text
pub total_appended : (entries : ℕ) (amount : Amount) (number : ℕ) (kg litres : ℤ) → number ≡ entries → kg ≡ amount.kg → litres ≡ amount.litres →
    concat (codes "{\"entries\":" ∷ decimal number ∷ codes ",\"kg\":" ∷ signed_decimal kg ∷ codes ",\"litres\":" ∷ signed_decimal litres ∷ codes "}" ∷ []) ≡ total_text entries amount
total_appended entries amount number kg litres is_number is_kg is_litres =
    rw (is_number, is_kg, is_litres, signed_is amount.kg, signed_is amount.litres) refl

-- and those of a gain
pub gain_appended : (place : ℕ) (amount : Amount) (number : ℕ) (kg litres : ℤ) → number ≡ place → kg ≡ amount.kg → litres ≡ amount.litres →
    concat (codes "{\"gain\":{\"kg\":" ∷ signed_decimal kg ∷ codes ",\"litres\":" ∷ signed_decimal litres ∷ codes "},\"place\":" ∷ decimal number ∷ codes "}" ∷ []) ≡ gain_text place amount
gain_appended place amount number kg litres is_number is_kg is_litres =
    rw (
      is_number,
      is_kg,
      is_litres,
      signed_is amount.kg,
      signed_is amount.litres,
      append_assoc (integer_text amount.kg) (codes ",\"litres\":" ++ integer_text amount.litres ++ codes "}") (codes ",\"place\":" ++ decimal place ++ codes "}"),
      append_assoc (integer_text amount.litres) (codes "}") (codes ",\"place\":" ++ decimal place ++ codes "}"),
    )
    refl
