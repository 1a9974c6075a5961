-- One poll of a gauge: whose turn it is, the calls on the link, the answer, and what the poller keeps afterwards.
use Rattle.std.specs.Prelude.{◌≡◌, ◌⊎◌, ℕ, ◌+◌, ◌<◌, ◌==◌, Bool, true, false, if◌then◌else◌, List, [], ◌∷◌, ◌++◌, length, Option, Some, None, Result, Ok, Err, IsTrue, replicate, slice_index_or, slice_set}
use Rattle.std.specs.List.{concat}
use Rattle.farm_ports.specs.declared.links.LinkCall.{LinkCall}
use Rattle.farm_ports.specs.declared.links.LinkCall.TheVariants.{Connect, Sent, Received}
use Rattle.farm_ports.specs.Links.{AddsCalls}
use Rattle.modbus_frame.specs.declared.expect.Expect.{Expect}
use Rattle.modbus_frame.specs.declared.frame.Frame.{Frame}
use Rattle.modbus_frame.specs.declared.frame.Frame.TheVariants as frame
use Rattle.modbus_frame.specs.Fields.{IsDecided, frame_answer}
use Rattle.modbus_frame.specs.Requests.{request_frame}
use Rattle.gauge_maps.specs.declared.map.GaugeMap.{GaugeMap}
use Rattle.gauge_maps.specs.declared.map.LineMap.{LineMap}
use Rattle.modbus_poll.specs.declared.polled.Polled.{Polled}
use Rattle.modbus_poll.specs.declared.polled.Polled.TheVariants.{Value, NotValid, Exception, Wrong, LinkFault}
use Rattle.modbus_poll.specs.declared.raw.Raw.{Raw}
use Rattle.modbus_poll.specs.Decoding.{is_valid, raw_reading}
use Rattle.gauge_maps.specs.Maps.{is_line_map}
use Rattle.modbus_poll.specs.Pieces.{IsPartlySent, IsSent, ReceivesAsNeeded, received, sent}

-- what a poller keeps: its line, the index of the gauge whose turn is next, the number of the next transaction, whether it is connected,
-- and what was last submitted of each gauge
pub record PollerState : Type 0 where
  pub line : LineMap
  pub next : ℕ
  pub number : ℕ
  pub connected : Bool
  pub last : List (Option Raw)

-- the line is one that a site may have, there is room for what was submitted of each gauge, and the next gauge is one of them
pub record IsSound (state : PollerState) : Type 0 where
  pub line : IsTrue (is_line_map state.line)
  pub as_many : length state.last ≡ length state.line.gauges
  pub inside : state.next < length state.line.gauges

-- before the first poll
abbrev pub fresh : LineMap → PollerState
fresh line = record { line = line; next = 0; number = 1; connected = false; last = replicate (length line.gauges) None }

-- a gauge stands at this index of a line, from 0
pub record IsGaugeAt (line : LineMap) (index : ℕ) (gauge : GaugeMap) : Type 0 where
  pub inside : index < length line.gauges
  pub here : (default : GaugeMap) → slice_index_or line.gauges index default ≡ gauge

-- what was last submitted of the gauge at an index
abbrev pub last_of : PollerState → ℕ → Option Raw
last_of state index = slice_index_or state.last index None

-- a reading of the gauge at an index was submitted
abbrev pub with_submitted : PollerState → ℕ → Raw → PollerState
with_submitted old index raw =
    record { line = old.line; next = old.next; number = old.number; connected = old.connected; last = slice_set old.last index (Some raw) }

-- the number of the transaction after this one: 0 after 65,535
abbrev pub number_after : ℕ → ℕ
number_after number = if number == 65535 then 0 else number + 1

-- the index after this one among a number of items: the first after the last
abbrev pub index_after : ℕ → ℕ → ℕ
index_after index count = if index + 1 == count then 0 else index + 1

-- what is asked of a gauge in a transaction
abbrev pub expect_of : GaugeMap → ℕ → Expect
expect_of gauge number = record {
  transaction = number;
  unit = gauge.unit;
  function = gauge.function;
  start = gauge.start;
  quantity = gauge.quantity;
}

-- registers as a poll's answer: the reading, or that it isn't valid
abbrev pub valued : GaugeMap → ℕ → List ℕ → Polled
valued gauge index words = if is_valid gauge.valid words then Value index (raw_reading gauge words) else NotValid index

-- a response as a poll's answer; one that isn't decided is a fault of the link
abbrev pub polled_of : GaugeMap → ℕ → Frame → Polled
polled_of gauge index (frame.Words registers used) = valued gauge index registers.words
polled_of gauge index (frame.Exception code used) = Exception index code
polled_of gauge index (frame.Wrong field) = Wrong index field
polled_of gauge index (frame.Need count) = LinkFault index

-- the index of the gauge that an answer is about
abbrev pub index_of : Polled → ℕ
index_of (Value index raw) = index
index_of (NotValid index) = index
index_of (Exception index code) = index
index_of (Wrong index field) = index
index_of (LinkFault index) = index

-- an answer leaves the connection as it is: a wrong response and a fault of the link drop it
abbrev pub keeps_connection : Polled → Bool
keeps_connection (Value index raw) = true
keeps_connection (NotValid index) = true
keeps_connection (Exception index code) = true
keeps_connection (Wrong index field) = false
keeps_connection (LinkFault index) = false

-- the link failed
abbrev pub IsLinkFault : Polled → Type 0
IsLinkFault answer = answer ≡ LinkFault (index_of answer)

-- the poller after a poll: the next gauge has its turn
abbrev pub turned : PollerState → ℕ → Bool → PollerState
turned old number connected =
    record { line = old.line; next = index_after old.next (length old.line.gauges); number = number; connected = connected; last = old.last }

-- a poll begins with a connect where the poller isn't connected
abbrev pub connects_of : PollerState → List LinkCall
connects_of old = if old.connected then [] else Connect old.line.host old.line.port false ∷ []

-- a poller is connected after its connect, where it had to make one
abbrev pub ConnectsFirst : {T E : Type 0} → Option (List LinkCall) → Option (List LinkCall) → PollerState → Result T E → Type 0
ConnectsFirst before after old (Ok done) = AddsCalls before after (connects_of old)
ConnectsFirst before after old (Err e) = (old.connected ≡ false) × AddsCalls before after (Connect old.line.host old.line.port true ∷ [])

-- the connect failed: nothing is sent, and no number is taken
pub record FailsToConnect (old : PollerState) (number : ℕ) (calls : List LinkCall) (answer : Polled) : Type 0 where
  pub was : old.connected ≡ false
  pub calls_are : calls ≡ Connect old.line.host old.line.port true ∷ []
  pub answer_is : answer ≡ LinkFault old.next
  pub number_is : number ≡ old.number

-- a send failed: a prefix of the request went out, and the number is spent
pub record FailsToSend (old : PollerState) (expect : Expect) (number : ℕ) (calls : List LinkCall) (answer : Polled) : Type 0 where
  pub pieces : List (List ℕ)
  pub front : IsPartlySent (request_frame expect) pieces
  pub calls_are : calls ≡ connects_of old ++ sent pieces ++ Sent [] true ∷ []
  pub answer_is : answer ≡ LinkFault old.next
  pub number_is : number ≡ number_after old.number

-- a receive failed before it was decided what the response is: the request went out whole, and the number is spent
pub record FailsToReceive (old : PollerState) (expect : Expect) (number : ℕ) (calls : List LinkCall) (answer : Polled) : Type 0 where
  pub pieces : List (List ℕ)
  pub whole : IsSent (request_frame expect) pieces
  pub came : List (List ℕ)
  pub as_needed : ReceivesAsNeeded expect came
  pub needed : ℕ
  pub undecided : frame_answer expect (concat came) ≡ frame.Need needed
  pub calls_are : calls ≡ connects_of old ++ sent pieces ++ received came ++ Received [] true ∷ []
  pub answer_is : answer ≡ LinkFault old.next
  pub number_is : number ≡ number_after old.number

-- it was decided what the response is, and the answer follows from it
pub record Decides (old : PollerState) (gauge : GaugeMap) (expect : Expect) (number : ℕ) (calls : List LinkCall) (answer : Polled) : Type 0 where
  pub pieces : List (List ℕ)
  pub whole : IsSent (request_frame expect) pieces
  pub came : List (List ℕ)
  pub as_needed : ReceivesAsNeeded expect came
  pub decided : IsDecided (frame_answer expect (concat came))
  pub calls_are : calls ≡ connects_of old ++ sent pieces ++ received came
  pub answer_is : answer ≡ polled_of gauge old.next (frame_answer expect (concat came))
  pub number_is : number ≡ number_after old.number

-- the gauge whose turn it is is asked with the next number: the calls, the answer, and the number that is next afterwards
pub record IsAsked (old : PollerState) (number : ℕ) (calls : List LinkCall) (answer : Polled) : Type 0 where
  pub gauge : GaugeMap
  pub its_turn : IsGaugeAt old.line old.next gauge
  pub way : FailsToConnect old number calls answer ⊎ FailsToSend old (expect_of gauge old.number) number calls answer
      ⊎ FailsToReceive old (expect_of gauge old.number) number calls answer ⊎ Decides old gauge (expect_of gauge old.number) number calls answer

-- the gauge whose turn it is was asked, with calls that the link took
pub record Asks (before after : Option (List LinkCall)) (old : PollerState) (answered : Polled × ℕ) : Type 0 where
  pub calls : List LinkCall
  pub added : AddsCalls before after calls
  pub asked : IsAsked old answered.1 calls answered.0

-- one poll: the gauge is asked, and the next one has its turn
pub record IsPoll (old new : PollerState) (calls : List LinkCall) (answer : Polled) : Type 0 where
  pub number : ℕ
  pub asked : IsAsked old number calls answer
  pub state : new ≡ turned old number (keeps_connection answer)

-- one poll whose calls the link took
pub record Polls (before after : Option (List LinkCall)) (old new : PollerState) (answer : Polled) : Type 0 where
  pub calls : List LinkCall
  pub added : AddsCalls before after calls
  pub poll : IsPoll old new calls answer
