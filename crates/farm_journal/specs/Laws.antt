-- What follows from the definitions for every journal.
use Rattle.std.specs.Prelude.{◌≡◌, ◌⊎◌, ℕ, List, Option}
use Rattle.farm_disk.specs.Images.{State}
use Rattle.farm_disk.specs.Runs.{EachNow}
use Rattle.farm_journal.specs.Layout.{IsJournalOf}
use Rattle.farm_journal.specs.Recovery.{Accepts, IsDamagedAt, IsNotJournal, IsRecovered}
use Rattle.farm_journal.specs.Standing.{IsAnImage, JournalState, Stands}

-- bytes are a journal of one header and one list of bodies at most
abbrev pub OneMeaning : Type 0
OneMeaning = (header other_header : List ℕ) (bodies other_bodies : List (List ℕ)) (bytes : List ℕ) →
    IsJournalOf header bodies bytes → IsJournalOf other_header other_bodies bytes →
    (header ≡ other_header) × (bodies ≡ other_bodies)

-- bytes that are a journal of what one taker accepts aren't damaged for it, whatever was taken, and aren't no journal
abbrev pub WholeIsNotRefused : Type 0
WholeIsNotRefused = (accepts : Accepts) (taken other : List (List ℕ)) (bytes : List ℕ) (place : ℕ) →
    IsRecovered accepts taken bytes → (IsNotJournal bytes ⊎ IsDamagedAt accepts other bytes place) → ⊥

-- bytes are damaged at one place at most
abbrev pub OneDamage : Type 0
OneDamage = (accepts : Accepts) (taken other : List (List ℕ)) (bytes : List ℕ) (place other_place : ℕ) →
    IsDamagedAt accepts taken bytes place → IsDamagedAt accepts other bytes other_place → place ≡ other_place

-- an open journal leaves, whatever a crash does, its bodies, and with a body pending these or these and that one
abbrev pub StandsOnEach : {D : Type 0} → (D → Option (List State)) → Type 0
StandsOnEach {D = D} trace = (header : List ℕ) (bodies : List (List ℕ)) (pending : Option (List ℕ)) (journal : JournalState D) →
    Stands trace header bodies pending journal → EachNow (trace journal.disk) (IsAnImage header bodies pending)
