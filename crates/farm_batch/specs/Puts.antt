-- What is put of answers that wait, one after another.
use Rattle.std.specs.Prelude.{◌≡◌, ◌++◌, [], List, ℕ, Option, Result, Ok, Err}
use Rattle.farm_base.specs.Known.{Adds}

-- of these answers a prefix was put, and the rest is left
pub record PutsPrefix (old new : Option (List ℕ)) (answers left : List ℕ) : Type 0 where
  pub put : List ℕ
  pub added : Adds old new put
  pub split : answers ≡ put ++ left

-- Of these answers a prefix was put, and the rest waits; or a put failed, nothing waits, and what wasn't put is lost.
abbrev pub PutsOn : {T E : Type 0} → Option (List ℕ) → Option (List ℕ) → List ℕ → List ℕ → Result T E → Type 0
PutsOn old new answers waiting (Ok done) = PutsPrefix old new answers waiting
PutsOn old new answers waiting (Err e) = (waiting ≡ []) × (lost : List ℕ) × PutsPrefix old new answers lost
