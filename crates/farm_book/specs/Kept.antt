-- What a book keeps, as callers see it.
use Rattle.std.specs.Prelude.{ℕ, ◌+◌, ◌≤◌}
use Rattle.farm_indexes.specs.Indexing.{AreIndexesOf, room}
use Rattle.farm_indexes.specs.declared.indexes.Indexes.{Indexes}
use Rattle.farm_history.specs.Limits.{most_limit, stops_beyond_limit}
use Rattle.farm_history.specs.History.{History, last_place}
use Rattle.farm_history.specs.Sites.{AreComputable, AreRising}
use Rattle.farm_history.specs.Verdicts.{IsLegal}

-- a history, and for how many entries more there is room
pub record Kept : Type 0 where
  pub history : History
  pub spare : ℕ

-- A history is one that a book may have: it is legal, its limit isn't above the greatest, it has no more entries than it may have, and
-- the tanks of its site stand in rising order, each with a capacity table and one of the site's products.
pub record IsSound (limit : ℕ) (history : History) : Type 0 where
  pub limit_within : limit ≤ most_limit
  pub legal : IsLegal limit history
  pub few : last_place history ≤ limit + stops_beyond_limit
  pub computable : AreComputable history.site
  pub rising : AreRising history.site

-- What holds of every book: its history is sound, its indexes are those of the history, and there is the room that it says, among the
-- entries and in the indexes.
pub record IsKept (limit : ℕ) (history : History) (indexes : Indexes) (spare free : ℕ) : Type 0 where
  pub sound : IsSound limit history
  pub indexed : AreIndexesOf history indexes
  pub room_of_entries : spare ≤ free
  pub room_of_indexes : spare ≤ room indexes
