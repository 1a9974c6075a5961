-- Entries at places of a history: they are there, and in range.
use Rattle.std.proofs.Common.{◌≡◌, ℕ, ◌-◌, ◌≤◌, Bool, true, false, List, Option, Some, None, refl, arith, subst}
use Rattle.std.specs.Prelude.{◌==◌, if◌then◌else◌, All, option_and_then, slice_get}
use Rattle.std.proofs.lemmas.Bool.Decides.{nat_tests}
use Rattle.std.proofs.lemmas.List.Elements.{All-get_or}
use Rattle.std.proofs.lemmas.Option.{get_or_from_slice_get, slice_get_within}
use Rattle.farm_history.specs.declared.entry.Entry.{Entry}
use Rattle.farm_history.specs.declared.plan.Plan.{Plan}
use Rattle.farm_history.specs.Commands.{plan_of}
use Rattle.farm_history.specs.Movements.{opened_at}
use Rattle.farm_history.specs.History.{History, entry_at, last_place}
use Rattle.history_lookups.specs.Pasts.{IsInRange, IsReadable}

-- a place other than 0, where something is found one before it
found_place : (zero : Bool) (found : Option Entry) (entry : Entry) → (if zero then None else found) ≡ Some entry → (zero ≡ false) × (found ≡ Some entry)
found_place true found entry is = cc
found_place false found entry is = (refl, is)

-- a place that isn't 0 is at least 1
not_zero : (place : ℕ) → (place == 0) ≡ false → 1 ≤ place
not_zero place is = grind (arith, nat_tests)

-- the place of an entry is one of the history
pub place_there : (history : History) (place : ℕ) (entry : Entry) → entry_at history place ≡ Some entry → (1 ≤ place) × (place ≤ last_place history)
place_there history place entry is =
    let found = found_place (place == 0) (slice_get history.entries (place - 1)) entry is in
    let low = not_zero place found.0 in
    let within = slice_get_within history.entries (place - 1) entry found.1 in
    (low, omega arith)

-- an entry is there where a plan is found in it
plan_there : (history : History) (place : ℕ) (found : Option Entry) (plan : Plan) → entry_at history place ≡ found →
    option_and_then (λ entry. plan_of entry.cmd) found ≡ Some plan → place ≤ last_place history
plan_there history place None plan at is = cc
plan_there history place (Some entry) plan at is = (place_there history place entry at).1

-- the place of an Opening is one of the history
pub opening_there : (history : History) (place : ℕ) (plan : Plan) → opened_at history place ≡ Some plan → place ≤ last_place history
unfolding opened_at
opening_there history place plan is = plan_there history place (entry_at history place) plan refl is

-- each entry of a list at a place is in range
range_at : (entries : List Entry) (index : ℕ) (entry : Entry) → slice_get entries index ≡ Some entry → All IsInRange entries → IsInRange entry
range_at entries index entry is all =
    let within = slice_get_within entries index entry is in
    let there = get_or_from_slice_get entries index entry entry is in
    subst (λ (e : Entry). IsInRange e) there (All-get_or IsInRange entries index entry within all)

-- and so is each entry of a history
pub entry_in_range : (history : History) (place : ℕ) (entry : Entry) → IsReadable history → entry_at history place ≡ Some entry → IsInRange entry
entry_in_range history place entry readable is =
    range_at history.entries (place - 1) entry (found_place (place == 0) (slice_get history.entries (place - 1)) entry is).1 readable.in_range
