-- Bytes encode one history at most.
use Rattle.std.proofs.Common.{◌≡◌, ◌∙◌, ℕ, List, [], ◌∷◌, ◌++◌, map, Some, refl, sym, ap}
use Rattle.farm_history.specs.declared.entry.Entry.{Entry}
use Rattle.farm_history.specs.Encoding.{entry_encoding}
use Rattle.farm_history.specs.History.{History}
use Rattle.farm_journal.proofs.OneMeaning.{one_meaning}
use Rattle.site_decoding.specs.Sites.{whole_site}
use Rattle.site_encoding.specs.Encoding.{site_encoding}
use Rattle.site_decoding.proofs.BytesRead.{PartsAreRead}
use Rattle.farm_recovery.specs.Accepting.{entries_of, history_with}
use Rattle.journaled_book.specs.Histories.{IsRecordable, entry_encodings}
use Rattle.farm_recovery.specs.Laws.{OneHistory}
use Rattle.farm_recovery.proofs.Decoded.{decoded}

-- two histories with the same bytes are one
pub same_history : PartsAreRead → (limit : ℕ) (first second : History) → IsRecordable limit first → IsRecordable limit second →
    site_encoding first.site ≡ site_encoding second.site → entry_encodings first ≡ entry_encodings second → first ≡ second
same_history laws limit first second is other sites entries =
    let both : Some first ≡ Some second =
    sym (decoded laws limit first is)
    ∙ ap (λ header. history_with (whole_site header) (entries_of (entry_encodings first))) sites
    ∙ ap (λ bodies. history_with (whole_site (site_encoding second.site)) (entries_of bodies)) entries
    ∙ decoded laws limit second other in
    cc

-- bytes encode one history at most
pub one_history : PartsAreRead → OneHistory
one_history laws limit first second bytes is other =
    let same =
    one_meaning (site_encoding first.site) (site_encoding second.site) (entry_encodings first) (entry_encodings second) bytes is.journal other.journal in
    same_history laws limit first second is.recordable other.recordable same.0 same.1

-- the place of bytes among the bytes of entries: the entries before them, and the entry that is theirs
pub record IsAmong (entries : List Entry) (front : List (List ℕ)) (bytes : List ℕ) : Type 0 where
  pub before : List Entry
  pub entry : Entry
  pub after : List Entry
  pub split : entries ≡ before ++ entry ∷ after
  pub front_is : map entry_encoding before ≡ front
  pub bytes_are : bytes ≡ entry_encoding entry

-- bytes among those of entries are an entry's
pub among : (entries : List Entry) (front back : List (List ℕ)) (bytes : List ℕ) → map entry_encoding entries ≡ front ++ bytes ∷ back →
    IsAmong entries front bytes
among [] [] back bytes is = absurd cc
among [] (first ∷ front) back bytes is = absurd cc
among (entry ∷ entries) [] back bytes is =
    let same : bytes ≡ entry_encoding entry = cc in
    record { before = []; entry = entry; after = entries; split = refl; front_is = refl; bytes_are = same }
among (entry ∷ entries) (first ∷ front) back bytes is =
    let same : entry_encoding entry ≡ first = cc in
    let rest : map entry_encoding entries ≡ front ++ bytes ∷ back = cc in
    let later = among entries front back bytes rest in
    record {
      before = entry ∷ later.before;
      entry = later.entry;
      after = later.after;
      split = ap (λ entries. entry ∷ entries) later.split;
      front_is = ap (λ (code : List ℕ). code ∷ map entry_encoding later.before) same ∙ ap (λ (rest : List (List ℕ)). first ∷ rest) later.front_is;
      bytes_are = later.bytes_are;
    }
