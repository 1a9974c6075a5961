-- Where requests stand on a history, and how they follow one another on it.
use Rattle.std.specs.Prelude.{ℕ, ◌≤◌, List, [], ◌∷◌, drop, flat_map, take}
use Rattle.farm_history.specs.History.{History}
use Rattle.farm_history.specs.declared.entry.Entry.{Entry}
use Rattle.journaled_book.specs.Histories.{front_of}

-- Where a request stands on a history: how many entries the history had on which it was judged, and how many it left.
pub record Span : Type 0 where
  pub before : ℕ
  pub after : ℕ

-- the entries that a request entered: those after the ones on which it was judged, up to what it left
abbrev pub entered_by : {X : Type 0} → (X → Span) → History → X → List Entry
entered_by span history request = drop (span request).before (take (span request).after history.entries)

-- the entries that requests entered, in their order
abbrev pub entered_in : {X : Type 0} → (X → Span) → History → List X → List Entry
entered_in span history requests = flat_map (entered_by span history) requests

-- Requests follow one another on a history, from one number of its entries to another: each is judged on a history that may follow the one
-- that the request before left, and leaves no shorter one.
unfoldable pub Follow : {X : Type 0} → (X → Span) → (History → History → Type 0) → History → ℕ → List X → ℕ → Type 0
Follow span may_follow history from [] to = (from ≤ to) × may_follow (front_of history from) (front_of history to)
Follow span may_follow history from (request ∷ requests) to =
    (from ≤ (span request).before) × may_follow (front_of history from) (front_of history (span request).before)
    × ((span request).before ≤ (span request).after) × Follow span may_follow history (span request).after requests to
