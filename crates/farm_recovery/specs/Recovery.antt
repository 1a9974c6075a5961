-- Why the bytes of a journal encode no history.
use Rattle.std.specs.Prelude.{◌≡◌, ◌⊎◌, ℕ, ◌+◌, zero, suc, List, [], ◌∷◌, length, take, drop, All}
use Rattle.farm_book.specs.Entering.{IsNextEncoding}
use Rattle.farm_history.specs.History.{History, last_place}
use Rattle.farm_journal.specs.declared.faults.RecoverFault.{RecoverFault}
use Rattle.farm_journal.specs.declared.faults.RecoverFault.TheVariants.{NotJournal, Damaged, DiskFault, NoMemory}
use Rattle.farm_journal.specs.Layout.{IsShort, counting}
use Rattle.farm_journal.specs.Recovery.{IsNotJournal, IsWhole, after_signature, counted_in}
use Rattle.farm_site.specs.Described.{Described, IsSite}
use Rattle.site_encoding.specs.Encoding.{site_encoding}
use Rattle.journaled_book.specs.Histories.{IsRecordable, entry_encodings}

-- bytes are those of a site
pub record IsSiteEncoding (bytes : List ℕ) : Type 0 where
  pub site : Described
  pub sound : IsSite site
  pub encoded : bytes ≡ site_encoding site

-- The site's bytes are cut short or their length is over the limit, or they are no site's.
pub record IsSiteDamaged (bytes : List ℕ) : Type 0 where
  pub is_journal : IsNotJournal bytes → ⊥
  pub damaged : (IsWhole (after_signature bytes) → ⊥) ⊎
      (IsWhole (after_signature bytes) × (IsSiteEncoding (counted_in (after_signature bytes)) → ⊥))

-- What is expected after a history is damaged: the gate is missing; or it is open, and the record is cut short or its length is over the
-- limit, or its bytes are those of no entry that may come next.
abbrev pub IsEntryDamaged : ℕ → History → List ℕ → Type 0
IsEntryDamaged limit history [] = Unit {0}
IsEntryDamaged limit history (gate ∷ rest) =
    (gate ≡ 1) × ((IsWhole rest → ⊥) ⊎ (IsWhole rest × (IsNextEncoding limit history (counted_in rest) → ⊥)))

-- the bytes that a journal of a history begins with
abbrev pub counting_of : History → List ℕ
counting_of history = counting (site_encoding history.site) (entry_encodings history)

-- A journal is damaged after a history: it begins with what a journal of that history does, and what is expected next is damaged.
pub record IsDamagedAfter (limit : ℕ) (history : History) (bytes : List ℕ) : Type 0 where
  pub begins : take (length (counting_of history)) bytes ≡ counting_of history
  pub short_site : IsShort (site_encoding history.site)
  pub short_entries : All IsShort (entry_encodings history)
  pub recordable : IsRecordable limit history
  pub damaged : IsEntryDamaged limit history (drop (length (counting_of history)) bytes)

-- a journal is damaged at the entry of a place: it begins as that of the history of the entries before it, and what is expected next is damaged
pub record IsDamagedAtEntry (limit : ℕ) (place : ℕ) (bytes : List ℕ) : Type 0 where
  pub history : History
  pub place_is : place ≡ last_place history + 1
  pub after : IsDamagedAfter limit history bytes

-- a journal is damaged at a place: 0 is the site, 1 the first entry
abbrev pub IsDamagedAt : ℕ → ℕ → List ℕ → Type 0
IsDamagedAt limit zero bytes = IsSiteDamaged bytes
IsDamagedAt limit (suc place) bytes = IsDamagedAtEntry limit (suc place) bytes

-- what a refusal of recovery says of the bytes: a fault of the disk and a lack of memory say nothing
abbrev pub IsRefused : ℕ → List ℕ → RecoverFault → Type 0
IsRefused limit bytes NotJournal = IsNotJournal bytes
IsRefused limit bytes (Damaged place) = IsDamagedAt limit place bytes
IsRefused limit bytes DiskFault = Unit {0}
IsRefused limit bytes NoMemory = Unit {0}
