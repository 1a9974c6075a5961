-- How a journal and a book agree.
use Rattle.std.specs.Prelude.{◌≡◌, ℕ, ◌+◌, ◌≤◌, Bool, true, false, List, [], ◌∷◌, ◌++◌, length, map, Option, Some, None}
use Rattle.farm_disk.specs.Images.{State}
use Rattle.farm_book.specs.Kept.{Kept}
use Rattle.farm_history.specs.Encoding.{IsTyped, entry_encoding}
use Rattle.farm_history.specs.History.{History, last_place}
use Rattle.farm_history.specs.Limits.{most_limit, most_entry_bytes, stops_beyond_limit}
use Rattle.farm_history.specs.declared.entry.Entry.{Entry}
use Rattle.farm_journal.specs.Standing.{JournalState, Stands}
use Rattle.site_encoding.specs.Encoding.{site_encoding}
use Rattle.journaled_book.specs.Histories.{IsRecordable, entry_encodings}

-- The last entry is in doubt: a journal has the entries before it, and its body is pending.
pub record IsLastPending {D : Type 0} (trace : D → Option (List State)) (history : History) (journal : JournalState D) : Type 0 where
  pub front : List Entry
  pub last : Entry
  pub split : history.entries ≡ front ++ last ∷ []
  pub stands : Stands trace (site_encoding history.site) (map entry_encoding front) (Some (entry_encoding last)) journal

-- a journal has the entries of a history, by whether the last one is in doubt
abbrev pub Keeps : {D : Type 0} → (D → Option (List State)) → Bool → History → JournalState D → Type 0
Keeps trace false history journal = Stands trace (site_encoding history.site) (entry_encodings history) None journal
Keeps trace true history journal = IsLastPending trace history journal

-- A journal and a history that it keeps.
pub record AreRecords {D : Type 0} (trace : D → Option (List State)) (limit : ℕ) (doubt : Bool) (history : History) (journal : JournalState D) : Type 0 where
  pub keeps : Keeps trace doubt history journal
  pub recordable : IsRecordable limit history

-- All memory that an entry needs was taken: there is room for it in the book and in the journal, and these are its bytes.
pub record IsReady (limit : ℕ) (entry : Entry) (book : Kept) (bytes : List ℕ) (room : ℕ) : Type 0 where
  pub spare : 1 ≤ book.spare
  pub bytes_are : bytes ≡ entry_encoding entry
  pub room_is : length bytes ≤ room
  pub few : length bytes ≤ most_entry_bytes
  pub typed : IsTyped entry
  pub limit_within : limit ≤ most_limit
  pub places : last_place book.history ≤ limit + stops_beyond_limit
