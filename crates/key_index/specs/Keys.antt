-- What an index of keys says.
use Rattle.std.specs.Prelude.{ℕ, ◌==◌, ◌&&◌, Bool, Option}
use Rattle.std.specs.HashMap.{get, spare}
use Rattle.key_index.specs.declared.index.KeyIndex.{KeyIndex}

-- another account and key are these
abbrev pub is_under : ℕ → ℕ → ℕ → ℕ → Bool
is_under account key other_account other_key = account == other_account && key == other_key

-- the place that an account and a key have
unfoldable pub place_under : KeyIndex → ℕ → ℕ → Option ℕ
place_under index account key = get (λ first second. first.0 == second.0 && first.1 == second.1) index.places (account, key)

-- for how many keys more there is memory
unfoldable pub room : KeyIndex → ℕ
room index = spare index.places
