-- What a line of a batch asks for, and what the body of a request does.
use Rattle.std.specs.Prelude.{◌≡◌, ◌||◌, ℕ, Bool, true, false, if◌then◌else◌, List, codes, Option, Some, None, is_some, option_and_then, option_map}
use Rattle.std.specs.Str.{bytes_eq}
use Rattle.serde_json.specs.Data.{Data}
use Rattle.farm_base.specs.Options.{◌>>=◌}
use Rattle.farm_history.specs.declared.ask.Ask.{Ask}
use Rattle.farm_history.specs.declared.ask.Ask.TheVariants.{Do, Look}
use Rattle.farm_history.specs.declared.command.Command.{Command}
use Rattle.farm_history.specs.declared.command.Command.TheVariants.{Gauge, Dip, Sample, Opening, Closing, Cancel, Reverse, Settle, Stop}
use Rattle.farm_history.specs.declared.plan.Gauged.{Gauged}
use Rattle.farm_history.specs.declared.plan.Plan.TheVariants.{Outside, Transfer}
use Rattle.farm_history.specs.declared.query.Query.TheVariants as queries
use Rattle.farm_ticket.specs.declared.side.Way.{Way}
use Rattle.farm_ticket.specs.declared.side.Way.TheVariants.{Inward, Outward}
use Rattle.farm_http.specs.Members.{few_at, natural_at, text_at, value_of, whole_at}
use Rattle.serde_json.specs.Find.{get}
use Rattle.farm_http.specs.declared.requests.LineAsked.{LineAsked}
use Rattle.farm_http.specs.declared.requests.LineAsked.TheVariants as lines
use Rattle.farm_http.specs.Limits.{most_account, most_key, most_party_number, most_place, most_tank_number}

-- the number of a tank
unfoldable pub tank_at : List ℕ → Data → Option ℕ
tank_at name value = natural_at name 0 most_tank_number value

-- a place of the history
unfoldable pub place_at : List ℕ → Data → Option ℕ
place_at name value = natural_at name 0 most_place value

-- what is named for a tank: the place of a reading and that of a sample
unfoldable pub gauged_at : List ℕ → List ℕ → Data → Option Gauged
gauged_at reading_name sample_name value = do
  reading ← place_at reading_name value
  sample ← place_at sample_name value
  Some (record { reading = reading; sample = sample })

-- whether a dip's tapes are outages, by its kind
unfoldable pub is_outage : List ℕ → Option Bool
is_outage kind = if bytes_eq kind (codes "outage") then Some true else (if bytes_eq kind (codes "innage") then Some false else None)

-- a gauge's reading
unfoldable pub gauge_of : Data → Option Command
gauge_of value = do
  tank ← tank_at (codes "tank") value
  level ← whole_at (codes "level") value
  water ← whole_at (codes "water") value
  temperature ← whole_at (codes "temperature") value
  ambient ← whole_at (codes "ambient") value
  Some (Gauge tank level water temperature ambient)

-- a dip
unfoldable pub dip_of : Data → Option Command
dip_of value = do
  tank ← tank_at (codes "tank") value
  kind ← text_at (codes "kind") value
  outage ← is_outage kind
  tapes ← few_at (codes "tapes") value
  water ← few_at (codes "water") value
  temperatures ← few_at (codes "temperatures") value
  ambient ← whole_at (codes "ambient") value
  Some (Dip tank outage tapes water temperatures ambient)

-- a sample
unfoldable pub sample_of : Data → Option Command
sample_of value = do
  tank ← tank_at (codes "tank") value
  density ← whole_at (codes "density") value
  sw ← whole_at (codes "sw") value
  Some (Sample tank density sw)

-- a receipt or a delivery that is opened
unfoldable pub outside_of : Way → Data → Option Command
outside_of way value = do
  tank ← tank_at (codes "tank") value
  party ← natural_at (codes "party") 0 most_party_number value
  gauged ← gauged_at (codes "reading") (codes "sample") value
  Some (Opening (Outside way tank party gauged))

-- a transfer that is opened
unfoldable pub transfer_of : Data → Option Command
transfer_of value = do
  from ← tank_at (codes "from") value
  to ← tank_at (codes "to") value
  from_gauged ← gauged_at (codes "from_reading") (codes "from_sample") value
  to_gauged ← gauged_at (codes "to_reading") (codes "to_sample") value
  Some (Opening (Transfer from to from_gauged to_gauged))

-- a movement that is opened, by its way
unfoldable pub opening_by : List ℕ → Data → Option Command
opening_by way value =
    if bytes_eq way (codes "receipt") then outside_of Inward value
    else (if bytes_eq way (codes "delivery") then outside_of Outward value
    else (if bytes_eq way (codes "transfer") then transfer_of value else None))

-- a movement that is opened
unfoldable pub opening_of : Data → Option Command
opening_of value = do
  way ← text_at (codes "way") value
  opening_by way value

-- an object has one of the members of a second tank
abbrev pub names_second : Data → Bool
names_second value = is_some (get (codes "to_reading") value) || is_some (get (codes "to_sample") value)

-- what a Closing names for a second tank: nothing where both members are missing
unfoldable pub second_of : Data → Option (Option Gauged)
second_of value =
    if names_second value then option_map Some (gauged_at (codes "to_reading") (codes "to_sample") value) else Some None

-- a movement that is closed
unfoldable pub closing_of : Data → Option Command
closing_of value = do
  movement ← place_at (codes "movement") value
  first ← gauged_at (codes "reading") (codes "sample") value
  second ← second_of value
  Some (Closing movement first second)

-- a movement that is cancelled
unfoldable pub cancel_of : Data → Option Command
cancel_of value = option_map Cancel (place_at (codes "movement") value)

-- a ticket that is reversed
unfoldable pub reverse_of : Data → Option Command
reverse_of value = option_map Reverse (place_at (codes "ticket") value)

-- a tank whose book is settled
unfoldable pub settle_of : Data → Option Command
settle_of value = do
  tank ← tank_at (codes "tank") value
  gauged ← gauged_at (codes "reading") (codes "sample") value
  Some (Settle tank gauged)

-- the command that is to be done, by its word
unfoldable pub command_of : List ℕ → Data → Option Command
command_of word value =
    if bytes_eq word (codes "gauge") then gauge_of value
    else (if bytes_eq word (codes "dip") then dip_of value
    else (if bytes_eq word (codes "sample") then sample_of value
    else (if bytes_eq word (codes "open") then opening_of value
    else (if bytes_eq word (codes "close") then closing_of value
    else (if bytes_eq word (codes "cancel") then cancel_of value
    else (if bytes_eq word (codes "reverse") then reverse_of value
    else (if bytes_eq word (codes "settle") then settle_of value
    else (if bytes_eq word (codes "stop") then Some Stop else None))))))))

-- a command that is to be done: an account from 1 to 999,999, a key from 0 to 2^63 - 1, and the command of the word
unfoldable pub do_of : List ℕ → Data → Option Ask
do_of word value = do
  account ← natural_at (codes "account") 1 most_account value
  key ← natural_at (codes "key") 0 most_key value
  command ← command_of word value
  Some (Do account key command)

-- a ticket that is looked up
unfoldable pub ticket_look_of : Data → Option Ask
ticket_look_of value = option_map (λ place. Look (queries.Ticket place)) (place_at (codes "place") value)

-- the book of a tank that is looked up
unfoldable pub stock_look_of : Data → Option Ask
stock_look_of value = option_map (λ tank. Look (queries.Stock tank)) (tank_at (codes "tank") value)

-- what an object asks for, by its word; a look-up needs no account and no key
unfoldable pub ask_by : List ℕ → Data → Option Ask
ask_by word value =
    if bytes_eq word (codes "ticket") then ticket_look_of value
    else (if bytes_eq word (codes "stock") then stock_look_of value
    else (if bytes_eq word (codes "total") then Some (Look queries.Total) else do_of word value))

-- what a value asks for
unfoldable pub ask_of_value : Data → Option Ask
ask_of_value value = do
  word ← text_at (codes "do") value
  ask_by word value

-- what a line asks for; nothing where it is no such object
unfoldable pub ask_of_line : List ℕ → Option Ask
ask_of_line bytes = option_and_then ask_of_value (value_of bytes)

-- what a body asks for whose command is known by a word; nothing where it is no such object
unfoldable pub ask_of_posted : List ℕ → List ℕ → Option Ask
ask_of_posted word bytes = option_and_then (do_of word) (value_of bytes)

-- what is answered to something that is asked for, and to nothing
abbrev pub asked_of : Option Ask → LineAsked
asked_of (Some ask) = lines.Ask ask
asked_of None = lines.Bad

-- a line was read as what it asks for, or as bad; out of memory may come at any time
abbrev pub IsLineRead : List ℕ → LineAsked → Type 0
IsLineRead bytes (lines.Ask ask) = ask_of_line bytes ≡ Some ask
IsLineRead bytes lines.Bad = ask_of_line bytes ≡ None
IsLineRead bytes lines.NoMemory = Unit {0}

-- a body was read as what it asks for under a word, or as bad; out of memory may come at any time
abbrev pub IsPostedRead : List ℕ → List ℕ → LineAsked → Type 0
IsPostedRead word bytes (lines.Ask ask) = ask_of_posted word bytes ≡ Some ask
IsPostedRead word bytes lines.Bad = ask_of_posted word bytes ≡ None
IsPostedRead word bytes lines.NoMemory = Unit {0}
