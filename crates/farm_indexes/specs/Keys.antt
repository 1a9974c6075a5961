-- The index of accounts and keys.
use Rattle.std.specs.Prelude.{◌≡◌, ℕ, ◌==◌, ◌&&◌, Bool, List}
use Rattle.key_index.specs.Keys.{place_under}
use Rattle.key_index.specs.declared.index.KeyIndex.{KeyIndex}
use Rattle.farm_history.specs.declared.entry.Entry.{Entry}
use Rattle.farm_history.specs.Places.{first_place}

-- an entry has this account and key
abbrev pub has_key : ℕ → ℕ → Entry → Bool
has_key account key entry = entry.account == account && entry.key == key

-- an index has the first place of each account and key of these entries, and no other key
pub record AreIndexed (keys : KeyIndex) (entries : List Entry) : Type 0 where
  pub places : (account key : ℕ) → place_under keys account key ≡ first_place (has_key account key) entries
