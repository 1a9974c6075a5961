-- What desk posts and gauge lines did, each on what its own caller had seen.
use Rattle.std.specs.Prelude.{◌≡◌, ℕ, ◌+◌, ◌<◌, List, length, slice_index_or, Option, Some, ℤ}
use Rattle.farm_base.specs.Counts.{count_of}
use Rattle.farm_listeners.specs.Listeners.{Event}
use Rattle.farm_ports.specs.declared.links.LinkCall.{LinkCall}
use Rattle.farm_desk.specs.States.{Continues}
use Rattle.desk_access.specs.Access.{CallerState}
use Rattle.desk_posts.specs.Conversations.{IsConversation}
use Rattle.desk_posts.specs.declared.posts.PostEnd.{PostEnd}
use Rattle.line_posts.specs.Runs.{IsLineRun}
use Rattle.line_posts.specs.States.{LineState, line_state}
use Rattle.modbus_poll.specs.Polls.{PollerState, fresh}
use Rattle.gauge_maps.specs.declared.map.LineMap.{LineMap}

-- A desk post had a conversation on its port, and ended.
pub record Converses {L : Type 0} (events : L → Option (List Event)) (faults : L → ℕ) (may_give : ℤ → Type 0) (limit port : ℕ)
    (listener : L) (before : CallerState) (listener' : L) (after : CallerState) (ending : Option PostEnd) : Type 0 where
  pub end : PostEnd
  pub ended : ending ≡ Some end
  pub conversation : IsConversation Continues may_give limit port (events listener) (events listener') (count_of faults listener listener') before after end

-- a desk post, by its index from 0, had a conversation on its port: posts have ports from the first one on, in their order
abbrev pub ConversesAs : {L : Type 0} → (L → Option (List Event)) → (L → ℕ) → (ℤ → Type 0) → ℕ → ℕ → ℕ → L → CallerState → L → CallerState →
    Option PostEnd → Type 0
ConversesAs events faults may_give limit first_port index = Converses events faults may_give limit (first_port + index)

-- how a line stands, by its link, its poller and its caller's access
abbrev pub line_of : {M : Type 0} → (M → Option (List LinkCall)) → (M → ℕ) → M → PollerState → CallerState → LineState
line_of calls faults link poller access = line_state calls faults (λ state. state) link poller access

-- a line stands at this index of a site's lines, from 0
pub record IsLineAt (lines : List LineMap) (index : ℕ) (map : LineMap) : Type 0 where
  pub inside : index < length lines
  pub here : (default : LineMap) → slice_index_or lines index default ≡ map

-- what the line of this index works with: its poller, before the first poll
abbrev pub HasLine : List LineMap → ℕ → Option PollerState → Type 0
HasLine lines index work = (map : LineMap) × IsLineAt lines index map × (work ≡ Some (fresh map))

-- A line of the site, by its index from 0, ran its rounds, from before its first poll on: it is numbered from 1.
pub record RunsLine {M : Type 0} (calls : M → Option (List LinkCall)) (faults : M → ℕ) (may_give : ℤ → Type 0) (limit rounds : ℕ) (lines : List LineMap)
    (index : ℕ) (link : M) (before : CallerState) (link' : M) (after : CallerState) (ending : Option PostEnd) : Type 0 where
  pub map : LineMap
  pub its : IsLineAt lines index map
  pub poller : PollerState
  pub run : IsLineRun Continues may_give limit (index + 1) rounds (line_of calls faults link (fresh map) before) (line_of calls faults link' poller after)
