-- What a listing accepts.
use Rattle.std.specs.Prelude.{◌&&◌, Bool, not, List, ℕ, bytes_eq, codes, length, nat_le}
use Rattle.farm_journal.specs.Limits.{max_bodies}

-- any bytes but "bad", as long as there are places
abbrev pub accepted : List (List ℕ) → List ℕ → Bool
accepted taken bytes = nat_le (length taken) max_bodies && not (bytes_eq bytes (codes "bad"))
