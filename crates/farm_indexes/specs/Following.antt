-- When an entry may come to a history.
use Rattle.std.specs.Prelude.{ℕ}
use Rattle.farm_history.specs.declared.entry.Entry.{Entry}
use Rattle.farm_history.specs.History.{History}
use Rattle.farm_history.specs.Sites.{AreComputable}
use Rattle.farm_history.specs.Verdicts.{IsLegal, IsNext}

-- a history is legal, for some number of entries that it may have, and the tanks of its site can be computed
pub record IsOrderly (history : History) : Type 0 where
  pub limit : ℕ
  pub legal : IsLegal limit history
  pub computable : AreComputable history.site

-- an entry may come next after such a history
pub record MayFollow (history : History) (entry : Entry) : Type 0 where
  pub limit : ℕ
  pub legal : IsLegal limit history
  pub next : IsNext limit history entry
  pub computable : AreComputable history.site
