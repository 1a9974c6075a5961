-- A desk that was made: a journal that keeps its history, and what a crash leaves of it.
use Rattle.std.proofs.Common.{◌≡◌, inl, inr, ⊎_elim, ℕ, ◌+◌, ◌<◌, ◌≤◌, false, List, [], length, Option, Some, None, IsSome, refl, sym, subst}
use Rattle.std.proofs.lemmas.List.Elements.{All-nil}
use Rattle.farm_base.specs.Known.{WhereKnown}
use Rattle.farm_disk.specs.Images.{State, present}
use Rattle.farm_disk.specs.Runs.{EachNow}
use Rattle.farm_history.specs.Encoding.{IsTyped}
use Rattle.farm_history.specs.History.{History, empty_history, last_place}
use Rattle.farm_history.proofs.Legal.{empty_is_legal}
use Rattle.farm_journal.specs.Creating.{IsCrashSafe as IsJournalCrashSafe, IsNoneOrEmpty as IsNoneOrEmptyJournal}
use Rattle.farm_journal.specs.Layout.{IsJournalOf}
use Rattle.farm_journal.specs.declared.faults.RecoverFault.{RecoverFault}
use Rattle.farm_journal.specs.Recovery.{IsRecovered, IsRefusal}
use Rattle.farm_journal.specs.Standing.{IsAnImage, JournalState, Stands, StandsOf}
use Rattle.farm_journal.proofs.Gates.{stands_on_each}
use Rattle.farm_site.specs.Described.{Described, IsSite}
use Rattle.site_encoding.specs.Encoding.{site_encoding}
use Rattle.farm_recovery.specs.Accepting.{accepted_next, taken_of}
use Rattle.farm_recovery.specs.Recovery.{IsRefused}
use Rattle.farm_desk.specs.Asking.{IsCrashSafe, IsNoneOrEmpty}
use Rattle.journaled_book.specs.Histories.{IsRecordable, Recovers, RecoversFront, entry_encodings}
use Rattle.journaled_book.specs.Moments.{EachFrom}
use Rattle.journaled_book.specs.Records.{AreRecords}
use Rattle.journaled_book.proofs.Growing.{whole_is_front}
use Rattle.journaled_book.proofs.Traces.{from_now, now_weaker, since_now, since_weaker}

-- a journal may keep the history of a site without an entry
pub empty_recordable : (limit : ℕ) (site : Described) → IsSite site → IsRecordable limit (empty_history site)
empty_recordable limit site sound = record { site = sound; legal = empty_is_legal limit site; typed = All-nil IsTyped }

module _ {D : Type 0} (trace : D → Option (List State)) (limit : ℕ) where
  -- each image that a crash leaves of a journal encodes the history that it keeps
  pub images_now : (history : History) (journal : JournalState D) → AreRecords trace limit false history journal →
      EachNow (trace journal.disk) (Recovers limit history)
  images_now history journal are =
      now_weaker (IsAnImage (site_encoding history.site) (entry_encodings history) None) (Recovers limit history) (trace journal.disk)
      (λ image is. record { journal = is; recordable = are.recordable })
      (stands_on_each trace (site_encoding history.site) (entry_encodings history) None journal are.keeps)

  -- so does each from the present moment on
  pub images_from : (history : History) (journal : JournalState D) (moment entries : ℕ) → AreRecords trace limit false history journal →
      WhereKnown (trace journal.disk) (λ states. length states ≡ moment + 1) → entries ≤ last_place history →
      EachFrom (trace journal.disk) moment (RecoversFront limit history entries)
  images_from history journal moment entries are now few =
      from_now (RecoversFront limit history entries) (trace journal.disk) moment now
      (now_weaker (Recovers limit history) (RecoversFront limit history entries) (trace journal.disk)
      (λ image recovers. whole_is_front limit history entries image few recovers) (images_now history journal are))

  -- a journal that was made keeps the history of its site without an entry
  pub created_records : (site : Described) (header : List ℕ) (history : History) (journal : JournalState D) → header ≡ site_encoding site →
      history ≡ empty_history site → IsSite site → Stands trace header [] None journal → AreRecords trace limit false history journal
  created_records site header history journal header_is history_is sound stands =
      subst (λ history. AreRecords trace limit false history journal) (sym history_is) (record {
        keeps = subst (λ header. Stands trace header [] None journal) header_is stands;
        recordable = empty_recordable limit site sound;
      })

  -- a journal that was recovered keeps the history that was taken
  pub recovered_records : (recovered : Option History) (history : History) (journal : JournalState D) → Some history ≡ recovered →
      IsRecordable limit history → StandsOf trace (taken_of recovered) journal → AreRecords trace limit false history journal
  recovered_records recovered history journal is recordable stands = record {
    keeps = subst (λ recovered. StandsOf trace (taken_of recovered) journal) (sym is) stands;
    recordable = recordable;
  }

  -- if a journal keeps what was taken, a history was taken
  pub stands_for_some : (recovered : Option History) (journal : JournalState D) → StandsOf trace (taken_of recovered) journal → IsSome recovered
  stands_for_some None journal stands = absurd stands
  stands_for_some (Some history) journal stands = refl

-- bytes that are recovered encode the history that was taken
pub where_recovered : (limit : ℕ) (recovered : Option History) (history : History) (known : Option (List State)) → Some history ≡ recovered →
    IsRecordable limit history → WhereKnown known (λ states. IsRecovered (accepted_next limit) (taken_of recovered) (present states).seen) →
    WhereKnown known (λ states. Recovers limit history (present states).seen)
where_recovered limit recovered history None is recordable taken = tt
where_recovered limit recovered history (Some states) is recordable taken =
    let both = subst (λ recovered. IsRecovered (accepted_next limit) (taken_of recovered) (present states).seen) (sym is) taken in
    record { journal = both.0; recordable = recordable }

-- what a crash leaves of a journal that is made is no journal, or encodes the history of its site without an entry
pub crash_safe : (limit : ℕ) (site : Described) (header : List ℕ) (old new : Option (List State)) → header ≡ site_encoding site → IsSite site →
    IsJournalCrashSafe header old new → IsCrashSafe limit site old new
crash_safe limit site header old new header_is sound safe = λ short.
    since_weaker (IsNoneOrEmptyJournal header) (IsNoneOrEmpty limit site) old new
    (λ image is. ⊎_elim (λ none. inl none) (λ journal. inr (record {
      journal = subst (λ header. IsJournalOf header [] image) header_is journal;
      recordable = empty_recordable limit site sound;
    })) is)
    (safe short)

-- the same holds if nothing was done
pub untouched_safe : (limit : ℕ) (site : Described) (trace : Option (List State)) → IsCrashSafe limit site trace trace
untouched_safe limit site trace = λ short.
    since_now (IsNoneOrEmpty limit site) trace (now_weaker (λ image. length image < 13) (IsNoneOrEmpty limit site) trace (λ image few. inl (inl few)) short)

-- if the bytes are known, a refusal of the journal is one of recovery
pub where_refused : (limit : ℕ) (recovered : Option History) (known : Option (List State)) (fault : RecoverFault) →
    ((bytes : List ℕ) (fault : RecoverFault) → IsRefusal (accepted_next limit) (taken_of recovered) bytes fault → IsRefused limit bytes fault) →
    WhereKnown known (λ states. IsRefusal (accepted_next limit) (taken_of recovered) (present states).seen fault) →
    WhereKnown known (λ states. IsRefused limit (present states).seen fault)
where_refused limit recovered None fault means refused = tt
where_refused limit recovered (Some states) fault means refused = means (present states).seen fault refused
