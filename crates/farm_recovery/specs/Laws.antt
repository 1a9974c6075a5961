-- What follows from the definitions for the bytes of every journal.
use Rattle.std.specs.Prelude.{◌≡◌, ℕ, List}
use Rattle.farm_history.specs.History.{History}
use Rattle.farm_journal.specs.Recovery.{IsNotJournal}
use Rattle.journaled_book.specs.Histories.{Recovers}
use Rattle.farm_recovery.specs.Recovery.{IsDamagedAt}

-- bytes encode one history at most
abbrev pub OneHistory : Type 0
OneHistory = (limit : ℕ) (first second : History) (bytes : List ℕ) → Recovers limit first bytes → Recovers limit second bytes → first ≡ second

-- bytes that encode a history are a journal, and aren't damaged
abbrev pub RecoveredIsNotRefused : Type 0
RecoveredIsNotRefused = (limit place : ℕ) (history : History) (bytes : List ℕ) → Recovers limit history bytes →
    (IsNotJournal bytes → ⊥) × (IsDamagedAt limit place bytes → ⊥)
