-- What is read of the bytes of a history is that history.
use Rattle.std.proofs.Common.{◌≡◌, ◌∙◌, ℕ, suc, List, [], ◌∷◌, get_or, take, drop, map, Some, Ok, All, refl, ap}
use Rattle.std.proofs.Math.Seq.{split_at}
use Rattle.std.proofs.lemmas.List.Elements.{All-head, All-tail}
use Rattle.farm_history.specs.declared.entry.Entry.{Entry}
use Rattle.farm_history.specs.Decoding.{whole_entry}
use Rattle.farm_history.specs.Encoding.{IsTyped, entry_encoding}
use Rattle.farm_history.specs.History.{History, IsWellFormed}
use Rattle.farm_history.specs.Verdicts.{IsLegal}
use Rattle.farm_history.proofs.EntryReader.{entry_only}
use Rattle.site_decoding.specs.Sites.{whole_site}
use Rattle.site_encoding.specs.Encoding.{site_encoding}
use Rattle.site_decoding.proofs.BytesRead.{PartsAreRead, site_only}
use Rattle.farm_recovery.specs.Accepting.{after, entries_of, history_with}
use Rattle.journaled_book.specs.Histories.{IsRecordable, entry_encodings}

-- each entry of a legal history is well formed
entries_well_formed : (limit : ℕ) (history : History) → IsLegal limit history → All IsWellFormed history.entries
entries_well_formed limit history legal = λ index default within.
    (legal (take index history.entries) (drop (suc index) history.entries) (get_or history.entries index default)
    (split_at history.entries index default within)).well_formed

-- the bytes of entries are read as them
entries_decoded : (entries : List Entry) → All IsTyped entries → All IsWellFormed entries → entries_of (map entry_encoding entries) ≡ Some entries
entries_decoded [] typed well_formed = refl
entries_decoded (entry ∷ entries) typed well_formed =
    let first : whole_entry (entry_encoding entry) ≡ Ok entry =
    entry_only (entry_encoding entry) entry (All-head IsTyped entry entries typed) (All-head IsWellFormed entry entries well_formed) refl in
    ap (λ read. after read (entries_of (map entry_encoding entries))) first
    ∙ ap (λ read. after (Ok entry) read)
    (entries_decoded entries (All-tail IsTyped entry entries typed) (All-tail IsWellFormed entry entries well_formed))

-- the bytes of a history that a journal may keep are read as it
pub decoded : PartsAreRead → (limit : ℕ) (history : History) → IsRecordable limit history →
    history_with (whole_site (site_encoding history.site)) (entries_of (entry_encodings history)) ≡ Some history
decoded laws limit history is =
    ap (λ read. history_with read (entries_of (entry_encodings history))) (site_only laws (site_encoding history.site) history.site is.site refl)
    ∙ ap (λ read. history_with (Ok history.site) read)
    (entries_decoded history.entries is.typed (entries_well_formed limit history is.legal))
