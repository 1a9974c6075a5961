-- The report of a day: the balance of each tank of a site and that of all, and the tickets of the day. Amounts are in whole litres and
-- kilograms.
use Rattle.std.specs.Prelude.{◌≡◌, ℕ, zero, suc, ◌+◌, ◌-◌, List, [], ◌∷◌, ◌++◌, codes, decimal, length, Option, Some, None, ℤ}
use Rattle.std.specs.Fmt.{signed_decimal}
use Rattle.calendar_days.specs.DayTexts.{IsDayText, day_text}
use Rattle.farm_fixed.specs.declared.records.Amount.{Amount}
use Rattle.farm_ticket.specs.Line.{ticket_line}
use Rattle.farm_ticket.specs.Tickets.{Ticket}
use Rattle.farm_site.specs.declared.items.Tank.{Tank}
use Rattle.farm_history.specs.declared.entry.Entry.{Entry}
use Rattle.farm_history.specs.History.{History}
use Rattle.farm_history.specs.Tickets.{ticket_at}
use Rattle.day_balances.specs.Balances.{IsDayBalance, day_balances, total_of}
use Rattle.day_balances.specs.Days.{AreParted, count_before, count_through}
use Rattle.day_balances.specs.declared.balance.Balance.{Balance}

-- the line of an amount after a word
unfoldable pub amount_line : List ℕ → Amount → List ℕ
amount_line word amount = word ++ signed_decimal amount.litres ++ codes " " ++ signed_decimal amount.kg ++ codes "\n"

-- the six lines of a balance
unfoldable pub balance_lines : Balance → List ℕ
balance_lines balance =
    amount_line (codes "opening ") balance.opening ++ amount_line (codes "receipts ") balance.receipts
    ++ amount_line (codes "deliveries ") balance.deliveries ++ amount_line (codes "transfers ") balance.transfers
    ++ amount_line (codes "gains ") balance.gains ++ amount_line (codes "closing ") balance.closing

-- the lines of a tank with a balance
unfoldable pub tank_balance_lines : ℕ → Balance → List ℕ
tank_balance_lines tank balance = codes "tank " ++ decimal tank ++ codes "\n" ++ balance_lines balance

-- the lines of tanks, each with its balance
abbrev pub tanks_balance_lines : List Tank → List Balance → List ℕ
tanks_balance_lines [] balances = []
tanks_balance_lines (tank ∷ tanks) [] = []
tanks_balance_lines (tank ∷ tanks) (balance ∷ balances) = tank_balance_lines tank.number balance ++ tanks_balance_lines tanks balances

-- the lines of a site and of a day, as both are written
unfoldable pub head_lines : List ℕ → List ℕ → List ℕ
head_lines site day = codes "site " ++ site ++ codes "\nday " ++ day ++ codes "\n"

-- the line of a ticket, if there is one
abbrev pub line_of_ticket : Option Ticket → List ℕ
line_of_ticket None = []
line_of_ticket (Some ticket) = ticket_line ticket

-- the lines of the tickets of this many entries after a place, in their order
unfoldable pub ticket_lines : History → ℕ → ℕ → List ℕ
ticket_lines history place zero = []
ticket_lines history place (suc count) = ticket_lines history place count ++ line_of_ticket (ticket_at history (suc (place + count)))

-- the lines of the total
unfoldable pub total_lines : Balance → List ℕ
total_lines total = codes "total\n" ++ balance_lines total

-- the lines of balances and tickets after the head
unfoldable pub report_lines : History → List Balance → ℕ → ℕ → List ℕ
report_lines history balances before count =
    tanks_balance_lines history.site.tanks balances ++ total_lines (total_of balances) ++ ticket_lines history before count

-- the report of a day
unfoldable pub day_report_text : History → ℤ → List ℕ
day_report_text history day =
    head_lines history.site.name (day_text day)
    ++ report_lines history (day_balances history day) (count_before day history.entries)
    (count_through day history.entries - count_before day history.entries)

-- these are the balances of tanks on a day, one each in their order
abbrev pub AreDayBalances : History → ℤ → List Tank → List Balance → Type 0
AreDayBalances history day [] [] = Unit {0}
AreDayBalances history day [] (balance ∷ balances) = ⊥
AreDayBalances history day (tank ∷ tanks) [] = ⊥
AreDayBalances history day (tank ∷ tanks) (balance ∷ balances) = IsDayBalance history day tank.number balance × AreDayBalances history day tanks balances

-- A text is the report of a day in the words of the rule: the site and the day as it is written, each tank with its balance on the day, the
-- sums of these, and the tickets of the entries of the day.
pub record IsDayReport (history : History) (day : ℤ) (text : List ℕ) : Type 0 where
  pub written : List ℕ
  pub of_day : IsDayText written day
  pub balances : List Balance
  pub each : AreDayBalances history day history.site.tanks balances
  pub earlier : List Entry
  pub entries : List Entry
  pub later : List Entry
  pub parted : AreParted day history.entries earlier entries later
  pub lines : text ≡ head_lines history.site.name written ++ report_lines history balances (length earlier) (length entries)
