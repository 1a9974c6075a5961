-- How many bodies an open journal has, by what was taken of it.
use Rattle.std.proofs.Common.{◌≡◌, ℕ, ◌+◌, List, [], ◌∷◌, length, Option, arith}
use Rattle.farm_disk.specs.Images.{State}
use Rattle.farm_journal.specs.Standing.{JournalState, StandsOf}

-- one fewer than was taken of it, since the header comes first
pub count_of : {D : Type 0} (trace : D → Option (List State)) (taken : List (List ℕ)) (journal : JournalState D) →
    StandsOf trace taken journal → journal.count + 1 ≡ length taken
count_of trace [] journal stands = absurd stands
count_of trace (header ∷ bodies) journal stands = omega (arith, stands.count)
