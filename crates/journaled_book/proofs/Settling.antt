-- What a crash leaves of a book and its journal, and as the gate of an entry in doubt is opened.
use Rattle.std.proofs.Common.{◌≡◌, ◌∙◌, ℕ, ◌-◌, Bool, true, false, List, [], ◌∷◌, ◌++◌, map, Option, Some, None, refl, sym, ap, subst}
use Rattle.farm_base.specs.Known.{WhereKnown}
use Rattle.farm_disk.specs.Images.{State, present}
use Rattle.farm_disk.specs.Runs.{EachNow, EachSince}
use Rattle.farm_history.specs.Encoding.{IsTyped, entry_encoding}
use Rattle.farm_history.specs.History.{History, last_place, with_entry}
use Rattle.farm_history.specs.Verdicts.{IsNext}
use Rattle.farm_history.specs.declared.entry.Entry.{Entry}
use Rattle.farm_journal.specs.Standing.{IsAnImage, IsEither, IsKept, JournalState, Stands}
use Rattle.farm_journal.proofs.Gates.{stands_on_each}
use Rattle.site_encoding.specs.Encoding.{site_encoding}
use Rattle.journaled_book.specs.Histories.{IsRecordable, RecoversFront, RecoversNow, certain, entry_encodings}
use Rattle.journaled_book.specs.Records.{AreRecords, IsLastPending}
use Rattle.journaled_book.proofs.Growing.{either_now, encodings_more, more_recordable, now_is_front}
use Rattle.journaled_book.proofs.Traces.{now_weaker, since_now, since_weaker}

-- each image now encodes the history or, with its last entry in doubt, that or the history without it
pub records_now : {D : Type 0} (trace : D → Option (List State)) (limit : ℕ) (doubt : Bool) (history : History) (journal : JournalState D) →
    AreRecords trace limit doubt history journal → EachNow (trace journal.disk) (RecoversNow limit doubt history)
records_now trace limit false history journal kept =
    now_weaker (IsAnImage (site_encoding history.site) (entry_encodings history) None) (RecoversNow limit false history) (trace journal.disk)
    (λ image is. record { journal = is; recordable = kept.recordable })
    (stands_on_each trace (site_encoding history.site) (entry_encodings history) None journal kept.keeps)
records_now trace limit true history journal kept =
    let pending : IsLastPending trace history journal = kept.keeps in
    now_weaker (IsAnImage (site_encoding history.site) (map entry_encoding pending.front) (Some (entry_encoding pending.last))) (RecoversNow limit true history) (trace journal.disk)
    (λ image either. either_now limit history pending.front pending.last image pending.split kept.recordable either)
    (stands_on_each trace (site_encoding history.site) (map entry_encoding pending.front) (Some (entry_encoding pending.last)) journal pending.stands)

-- over no call each image encodes a prefix of the history with the entries that aren't in doubt
pub records_since : {D : Type 0} (trace : D → Option (List State)) (limit : ℕ) (doubt : Bool) (history : History) (journal : JournalState D) →
    AreRecords trace limit doubt history journal →
    EachSince (trace journal.disk) (trace journal.disk) (RecoversFront limit history (certain doubt history))
records_since trace limit doubt history journal kept =
    since_now (RecoversFront limit history (certain doubt history)) (trace journal.disk)
    (now_weaker (RecoversNow limit doubt history) (RecoversFront limit history (certain doubt history)) (trace journal.disk)
    (now_is_front limit doubt history) (records_now trace limit doubt history journal kept))

-- and so does each while the gate of an entry in doubt is opened
pub settled_images : {D : Type 0} (trace : D → Option (List State)) (limit : ℕ) (doubt : Bool) (history : History) (journal : JournalState D)
    (old new : Option (List State)) → doubt ≡ true → AreRecords trace limit doubt history journal →
    ((header body : List ℕ) (bodies : List (List ℕ)) → Stands trace header bodies (Some body) journal → EachSince old new (IsEither header bodies body)) →
    EachSince old new (RecoversFront limit history (certain doubt history))
settled_images trace limit false history journal old new is kept images = absurd cc
settled_images trace limit true history journal old new is kept images =
    let pending : IsLastPending trace history journal = kept.keeps in
    since_weaker (IsEither (site_encoding history.site) (map entry_encoding pending.front) (entry_encoding pending.last))
    (RecoversFront limit history (last_place history - 1)) old new
    (λ image either. now_is_front limit true history image (either_now limit history pending.front pending.last image pending.split kept.recordable either))
    (images (site_encoding history.site) (entry_encoding pending.last) (map entry_encoding pending.front) pending.stands)

-- once it is open the journal has every entry
pub settled_keeps : {D : Type 0} (trace : D → Option (List State)) (limit : ℕ) (doubt : Bool) (history : History) (journal opened : JournalState D) →
    doubt ≡ true → AreRecords trace limit doubt history journal →
    ((header body : List ℕ) (bodies : List (List ℕ)) → Stands trace header bodies (Some body) journal → Stands trace header (bodies ++ body ∷ []) None opened) →
    AreRecords trace limit false history opened
settled_keeps trace limit false history journal opened is kept stands = absurd cc
settled_keeps trace limit true history journal opened is kept stands =
    let pending : IsLastPending trace history journal = kept.keeps in
    let Of : List (List ℕ) → Type 0 = λ bodies. Stands trace (site_encoding history.site) bodies None opened in
    record {
      keeps = subst Of (sym (ap (map entry_encoding) pending.split ∙ encodings_more pending.front pending.last))
          (stands (site_encoding history.site) (entry_encoding pending.last) (map entry_encoding pending.front) pending.stands);
      recordable = kept.recordable;
    }

-- an entry whose body is pending, entered in the book, is in doubt
pub entered_in_doubt : {D : Type 0} (trace : D → Option (List State)) (limit : ℕ) (history : History) (entry : Entry) (journal : JournalState D) →
    IsRecordable limit history → IsNext limit history entry → IsTyped entry →
    Stands trace (site_encoding history.site) (entry_encodings history) (Some (entry_encoding entry)) journal →
    AreRecords trace limit true (with_entry history entry) journal
entered_in_doubt trace limit history entry journal recordable next typed stands = record {
  keeps = record { front = history.entries; last = entry; split = refl; stands = stands };
  recordable = more_recordable limit history entry recordable next typed;
}

-- a journal that stands on its disk as another one does
pub stands_still : {D : Type 0} (trace : D → Option (List State)) (header : List ℕ) (bodies : List (List ℕ)) (pending : Option (List ℕ))
    (journal other : JournalState D) → other.disk ≡ journal.disk → other.gate ≡ journal.gate → other.count ≡ journal.count →
    other.next_gate ≡ journal.next_gate → Stands trace header bodies pending journal → Stands trace header bodies pending other
stands_still trace header bodies pending journal other disk gate count next_gate stands = record {
  gate = gate ∙ stands.gate;
  count = count ∙ stands.count;
  next_gate = next_gate ∙ stands.next_gate;
  kept = subst (λ disk. WhereKnown (trace disk) (λ states. IsKept header bodies pending (present states))) (sym disk) stands.kept;
}

-- keeps the same history
pub records_still : {D : Type 0} (trace : D → Option (List State)) (limit : ℕ) (doubt : Bool) (history : History) (journal other : JournalState D) →
    other.disk ≡ journal.disk → other.gate ≡ journal.gate → other.count ≡ journal.count → other.next_gate ≡ journal.next_gate →
    AreRecords trace limit doubt history journal → AreRecords trace limit doubt history other
records_still trace limit false history journal other disk gate count next_gate kept = record {
  keeps = stands_still trace (site_encoding history.site) (entry_encodings history) None journal other disk gate count next_gate kept.keeps;
  recordable = kept.recordable;
}
records_still trace limit true history journal other disk gate count next_gate kept =
    let pending : IsLastPending trace history journal = kept.keeps in
    record {
      keeps = record {
        front = pending.front;
        last = pending.last;
        split = pending.split;
        stands = stands_still trace (site_encoding history.site) (map entry_encoding pending.front) (Some (entry_encoding pending.last)) journal other
            disk gate count next_gate pending.stands;
      };
      recordable = kept.recordable;
    }
