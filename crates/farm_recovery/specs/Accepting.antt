-- What a desk that recovers its journal accepts next, computed from the bytes that it has taken.
use Rattle.std.specs.Prelude.{ℕ, ◌&&◌, Bool, false, List, [], ◌∷◌, Option, Some, None, Result, Ok, Err, is_ok}
use Rattle.std.specs.Int.RustNames.{int_le}
use Rattle.farm_history.specs.Decoding.{whole_entry}
use Rattle.farm_history.specs.History.{History, last_moment}
use Rattle.farm_history.specs.Verdicts.{is_accepted, verdict}
use Rattle.farm_history.specs.declared.entry.Entry.{Entry}
use Rattle.farm_journal.specs.Recovery.{Accepts}
use Rattle.site_decoding.specs.Sites.{whole_site}
use Rattle.farm_site.specs.Described.{Described}
use Rattle.site_encoding.specs.Encoding.{site_encoding}
use Rattle.site_decoding.specs.declared.fault.SiteBytesFault.{SiteBytesFault}
use Rattle.journaled_book.specs.Histories.{entry_encodings}

-- an entry and those after it
abbrev pub after : Result Entry ℕ → Option (List Entry) → Option (List Entry)
after (Ok entry) (Some entries) = Some (entry ∷ entries)
after (Ok entry) None = None
after (Err left) entries = None

-- the entries that these bytes encode; None if one isn't an entry's
abbrev pub entries_of : List (List ℕ) → Option (List Entry)
entries_of [] = Some []
entries_of (body ∷ bodies) = after (whole_entry body) (entries_of bodies)

-- the history of a site and entries
abbrev pub history_with : Result Described SiteBytesFault → Option (List Entry) → Option History
history_with (Ok site) (Some entries) = Some (record { site = site; entries = entries })
history_with (Ok site) None = None
history_with (Err fault) entries = None

-- an entry that was read may come next after a history that was read
abbrev pub is_next : ℕ → Option History → Result Entry ℕ → Bool
is_next limit (Some history) (Ok entry) = is_accepted (verdict limit history entry) && int_le (last_moment history) entry.at
is_next limit (Some history) (Err left) = false
is_next limit None entry = false

-- First a site's bytes are accepted, and then those of each entry that may come next.
abbrev pub accepted_next : ℕ → Accepts
accepted_next limit [] bytes = is_ok (whole_site bytes)
accepted_next limit (header ∷ bodies) bytes = is_next limit (history_with (whole_site header) (entries_of bodies)) (whole_entry bytes)

-- what a history was taken from, the site's bytes first; nothing if there is no history yet
abbrev pub taken_of : Option History → List (List ℕ)
taken_of None = []
taken_of (Some history) = site_encoding history.site ∷ entry_encodings history
