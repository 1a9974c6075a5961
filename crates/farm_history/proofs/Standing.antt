-- Where an entry stands whose command passes a test: the test says so exactly there.
use Rattle.std.proofs.Common.{◌≡◌, ℕ, Bool, true, Option, Some, None, refl, ap, ◌∙◌}
use Rattle.farm_history.specs.declared.command.Command.{Command}
use Rattle.farm_history.specs.declared.entry.Entry.{Entry}
use Rattle.farm_history.specs.Breaking.{StandsAt}
use Rattle.farm_history.specs.History.{History, entry_at}
use Rattle.farm_history.specs.MovementRules.{is_there}

-- where the test of the entry at a place passes, such an entry stands there
pub stands_from : (history : History) (place : ℕ) (test : Command → Bool) (Holds : Command → Type 0) →
    ((command : Command) → test command ≡ true → Holds command) →
    is_there test (entry_at history place) ≡ true → StandsAt history place Holds
stands_from history place test Holds from = by (entry_at history place) refl
  where
    by : (o : Option Entry) → entry_at history place ≡ o → is_there test o ≡ true → StandsAt history place Holds
    by None is passes = cc
    by (Some entry) is passes = record { entry = entry; there = is; passes = from entry.cmd passes }

-- where such an entry stands, the test passes
pub stands_to : (history : History) (place : ℕ) (test : Command → Bool) (Holds : Command → Type 0) →
    ((command : Command) → Holds command → test command ≡ true) →
    StandsAt history place Holds → is_there test (entry_at history place) ≡ true
stands_to history place test Holds to stands = ap (is_there test) stands.there ∙ to stands.entry.cmd stands.passes
