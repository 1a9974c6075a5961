-- Which history the bytes of a journal encode.
use Rattle.std.specs.Prelude.{◌≡◌, ◌⊎◌, ℕ, ◌-◌, ◌≤◌, Bool, true, false, List, take, map, All}
use Rattle.farm_history.specs.Encoding.{IsTyped, entry_encoding}
use Rattle.farm_history.specs.History.{History, last_place, with_entry}
use Rattle.farm_history.specs.declared.entry.Entry.{Entry}
use Rattle.farm_history.specs.Verdicts.{IsLegal}
use Rattle.farm_journal.specs.Layout.{IsJournalOf}
use Rattle.farm_site.specs.Described.{IsSite}
use Rattle.site_encoding.specs.Encoding.{site_encoding}

-- the bytes of the entries of a history, in their order
abbrev pub entry_encodings : History → List (List ℕ)
entry_encodings history = map entry_encoding history.entries

-- A journal may keep a history under a limit of entries: it is one of a site, and legal; and each number of its entries is one of its
-- type, as those of every entry in the program are.
pub record IsRecordable (limit : ℕ) (history : History) : Type 0 where
  pub site : IsSite history.site
  pub legal : IsLegal limit history
  pub typed : All IsTyped history.entries

-- Bytes encode a history: they are a journal of the site's bytes, and of the bytes of its entries.
pub record Recovers (limit : ℕ) (history : History) (bytes : List ℕ) : Type 0 where
  pub journal : IsJournalOf (site_encoding history.site) (entry_encodings history) bytes
  pub recordable : IsRecordable limit history

-- a prefix of a history: its first entries, this many
abbrev pub front_of : History → ℕ → History
front_of history count = record { site = history.site; entries = take count history.entries }

-- a history is what it was, or has one entry more
abbrev pub HasGrown : History → History → Type 0
HasGrown old new = (new ≡ old) ⊎ ((entry : Entry) × (new ≡ with_entry old entry))

-- bytes encode a prefix of a history that has at least this many entries
pub record RecoversFront (limit : ℕ) (history : History) (least : ℕ) (bytes : List ℕ) : Type 0 where
  pub count : ℕ
  pub least_is : least ≤ count
  pub most : count ≤ last_place history
  pub recovers : Recovers limit (front_of history count) bytes

-- bytes encode a history of at least this many entries
pub record RecoversAtLeast (limit : ℕ) (least : ℕ) (bytes : List ℕ) : Type 0 where
  pub history : History
  pub least_is : least ≤ last_place history
  pub recovers : Recovers limit history bytes

-- the number of entries that aren't in doubt, by whether the last one is
abbrev pub certain : Bool → History → ℕ
certain false history = last_place history
certain true history = last_place history - 1

-- bytes encode the whole history or, if its last entry is in doubt, that or the history without it
abbrev pub RecoversNow : ℕ → Bool → History → List ℕ → Type 0
RecoversNow limit false history bytes = Recovers limit history bytes
RecoversNow limit true history bytes = Recovers limit history bytes ⊎ Recovers limit (front_of history (last_place history - 1)) bytes
