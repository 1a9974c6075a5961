-- When bytes are those of an entry that may come next, and what entering it leaves.
use Rattle.std.specs.Prelude.{◌≡◌, ℕ, List}
use Rattle.farm_history.specs.declared.entry.Entry.{Entry}
use Rattle.farm_history.specs.Encoding.{IsTyped, entry_encoding}
use Rattle.farm_history.specs.History.{History, with_entry}
use Rattle.farm_history.specs.Verdicts.{IsNext}

-- bytes are those of an entry that may come next after a history
pub record IsNextEncoding (limit : ℕ) (history : History) (bytes : List ℕ) : Type 0 where
  pub entry : Entry
  pub typed : IsTyped entry
  pub encoded : bytes ≡ entry_encoding entry
  pub next : IsNext limit history entry

-- such an entry came to the history
pub record Enters (limit : ℕ) (old new : History) (bytes : List ℕ) : Type 0 where
  pub is_next : IsNextEncoding limit old bytes
  pub grown : new ≡ with_entry old is_next.entry
