-- The course of a connection: what was taken from it, and what was heard and answered, in their order.
use Rattle.std.specs.Prelude.{◌≡◌, ◌≢◌, ◌⊎◌, ℕ, ◌+◌, ◌<◌, ◌≤◌, true, false, All, List, [], ◌∷◌, ◌++◌, drop, length, take, ℤ}
use Rattle.farm_base.specs.Known.{WhereKnown}
use Rattle.farm_history.specs.History.{History}
use Rattle.farm_listeners.specs.Listeners.{Connection}
use Rattle.http_requests.specs.Hearing.{IsHeard}
use Rattle.http_requests.specs.declared.heard.Heard.TheVariants.{Need}
use Rattle.desk_posts.specs.Exchanges.{Exchange, IsExchange, ends_after, page_of, pages_of, sees_stop, size_of}
use Rattle.desk_posts.specs.Limits.{most_requests}

-- a step of a connection's course: bytes that a take brought, or an exchange
pub data Act : Type 0 where
  Took : (bytes : List ℕ) → Act
  Exchanged : (exchange : Exchange) → Act

-- the bytes that were taken
abbrev pub bytes_of : List Act → List ℕ
bytes_of [] = []
bytes_of (Took bytes ∷ acts) = bytes ++ bytes_of acts
bytes_of (Exchanged exchange ∷ acts) = bytes_of acts

-- the exchanges
abbrev pub exchanges_of : List Act → List Exchange
exchanges_of [] = []
exchanges_of (Took bytes ∷ acts) = exchanges_of acts
exchanges_of (Exchanged exchange ∷ acts) = exchange ∷ exchanges_of acts

-- Requests are cut from the bytes in hand as the acts say, and these bytes are left in hand: a request is heard of the bytes in hand, and
-- only if none is, more are taken. A take that brought nothing isn't among the acts.
unfoldable pub Cuts : List ℕ → List Act → List ℕ → Type 0
Cuts in_hand [] left = left ≡ in_hand
Cuts in_hand (Took bytes ∷ acts) left = IsHeard in_hand Need × (bytes ≢ []) × Cuts (in_hand ++ bytes) acts left
Cuts in_hand (Exchanged exchange ∷ acts) left = IsHeard in_hand exchange.heard × Cuts (drop (size_of exchange.heard) in_hand) acts left

-- after this exchange a connection stays open: the request wasn't the last one, and no Stop is seen
pub record StaysOpen (opened : ℕ) (history : History) (exchange : Exchange) : Type 0 where
  pub not_last : ends_after exchange.heard ≡ false
  pub no_stop : sees_stop opened history exchange ≡ false

-- a connection stayed open after each of these exchanges, and they are fewer than a connection may have
pub record StayedOpen (opened : ℕ) (history : History) (exchanges : List Exchange) : Type 0 where
  pub each : All (StaysOpen opened history) exchanges
  pub fewer : length exchanges < most_requests

-- with this exchange a connection ends: the request is the last one, a Stop is seen, or it is the last that a connection may have
abbrev pub EndsWith : ℕ → History → List Exchange → Exchange → Type 0
EndsWith opened history before last =
    (ends_after last.heard ≡ true) ⊎ (sees_stop opened history last ≡ true) ⊎ (length before + 1 ≡ most_requests)

-- the pages of all exchanges were put, whole
abbrev pub PutsAll : Connection → List Exchange → Type 0
PutsAll conn exchanges = WhereKnown conn.held (λ bytes. bytes ≡ pages_of exchanges)

-- the last page was put to a prefix, and those before it whole
abbrev pub PutsToPrefix : Connection → List Exchange → Exchange → Type 0
PutsToPrefix conn before last = WhereKnown conn.held (λ bytes. (count : ℕ) × (bytes ≡ pages_of before ++ take count (page_of last)))

-- A connection ended as soon as it had a cause to. Its input ended with no whole request in hand; or it failed as bytes were to be taken;
-- or an exchange ended it, whose page was put whole, or to a prefix since it failed. It stayed open after each exchange before.
pub data IsEnded (opened : ℕ) (history : History) (conn : Connection) (acts : List Act) (in_hand : List ℕ) : Type 0 where
  at_end : StayedOpen opened history (exchanges_of acts) → PutsAll conn (exchanges_of acts) → IsHeard in_hand Need →
      WhereKnown conn.stream (λ stream. stream.left ≡ []) → conn.faults ≡ 0 → IsEnded opened history conn acts in_hand
  not_taken : StayedOpen opened history (exchanges_of acts) → PutsAll conn (exchanges_of acts) → IsHeard in_hand Need →
      1 ≤ conn.faults → IsEnded opened history conn acts in_hand
  answered : (before : List Act) (last : Exchange) → acts ≡ before ++ Exchanged last ∷ [] → StayedOpen opened history (exchanges_of before) →
      EndsWith opened history (exchanges_of before) last → PutsAll conn (exchanges_of acts) → conn.faults ≡ 0 → IsEnded opened history conn acts in_hand
  not_put : (before : List Act) (last : Exchange) → acts ≡ before ++ Exchanged last ∷ [] → StayedOpen opened history (exchanges_of before) →
      PutsToPrefix conn (exchanges_of before) last → 1 ≤ conn.faults → IsEnded opened history conn acts in_hand

-- A connection was served, of which this was known as it was handed back, on a history: requests are cut from the bytes that were taken,
-- each is answered on the history, and the connection ended as soon as it had a cause to.
pub record IsServed (may_give : ℤ → Type 0) (limit caller opened : ℕ) (history : History) (conn : Connection) (acts : List Act) : Type 0 where
  pub taken : WhereKnown conn.stream (λ stream. stream.taken ≡ bytes_of acts)
  pub in_hand : List ℕ
  pub cut : Cuts [] acts in_hand
  pub answered : All (λ exchange. IsExchange may_give limit caller history exchange.heard exchange) (exchanges_of acts)
  pub ended : IsEnded opened history conn acts in_hand
