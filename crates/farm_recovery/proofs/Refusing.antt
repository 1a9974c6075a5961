-- What a refusal of the journal says, in the words of a history.
use Rattle.std.proofs.Common.{◌≡◌, ⊎_elim, inl, inr, ℕ, suc, List, [], ◌∷◌, length, drop, Option, Some, None, IfSome, IsFalse, IsTrue, sym, subst, arith}
use Rattle.std.proofs.lemmas.List.{length-map}
use Rattle.farm_history.specs.Encoding.{entry_encoding}
use Rattle.farm_history.specs.History.{History, last_place}
use Rattle.farm_journal.specs.declared.faults.RecoverFault.{RecoverFault}
use Rattle.farm_journal.specs.declared.faults.RecoverFault.TheVariants.{NotJournal, Damaged, DiskFault, NoMemory}
use Rattle.farm_journal.specs.Recovery.{IsDamagedAt as IsJournalDamagedAt, IsHeaderDamaged, IsRecordDamaged, IsRefusal, after_signature, counted_in}
use Rattle.site_decoding.proofs.BytesRead.{PartsAreRead}
use Rattle.farm_recovery.specs.Accepting.{accepted_next, taken_of}
use Rattle.journaled_book.specs.Histories.{IsRecordable}
use Rattle.farm_recovery.specs.Recovery.{IsDamagedAt, IsEntryDamaged, IsRefused, IsSiteDamaged, counting_of}
use Rattle.farm_recovery.proofs.Acceptance.{next_is_accepted, site_is_accepted}

module _ (laws : PartsAreRead) (limit : ℕ) where
  -- a site is damaged
  site_damaged : (bytes : List ℕ) → IsHeaderDamaged (accepted_next limit) bytes → IsSiteDamaged bytes
  site_damaged bytes damaged =
      let header = counted_in (after_signature bytes) in
      record {
        is_journal = damaged.is_journal;
        damaged = ⊎_elim (λ cut. inl cut) (λ refused. inr (
          refused.0,
          λ site.
              let accepted : IsTrue (accepted_next limit [] header) = site_is_accepted laws limit header site in
              let not_accepted : IsFalse (accepted_next limit [] header) = refused.1 in
              cc,
        )) damaged.damaged;
      }

  -- an entry is damaged
  entry_damaged : (history : History) (left : List ℕ) → IsRecordable limit history →
      IsRecordDamaged (accepted_next limit) (taken_of (Some history)) left → IsEntryDamaged limit history left
  entry_damaged history [] is damaged = tt
  entry_damaged history (gate ∷ rest) is damaged = (
    damaged.0,
    ⊎_elim (λ cut. inl cut) (λ refused. inr (
      refused.0,
      λ next.
          let accepted : IsTrue (accepted_next limit (taken_of (Some history)) (counted_in rest)) = next_is_accepted laws limit history (counted_in rest) is next in
          let not_accepted : IsFalse (accepted_next limit (taken_of (Some history)) (counted_in rest)) = refused.1 in
          cc,
    )) damaged.1,
  )

  -- a journal is damaged at a place
  damaged_at : (recovered : Option History) (bytes : List ℕ) (place : ℕ) → IfSome recovered (IsRecordable limit) →
      IsJournalDamagedAt (accepted_next limit) (taken_of recovered) bytes place → IsDamagedAt limit place bytes
  damaged_at None bytes place is damaged = subst (λ place. IsDamagedAt limit place bytes) (sym damaged.0) (site_damaged bytes damaged.1)
  damaged_at (Some history) bytes place is damaged =
      let due : place ≡ suc (last_place history) = omega (arith, damaged.0, length-map history.entries entry_encoding) in
      let at : IsDamagedAt limit (suc (last_place history)) bytes = record {
        history = history;
        place_is = omega arith;
        after = record {
          begins = damaged.1.begins;
          short_site = damaged.1.short_header;
          short_entries = damaged.1.short_bodies;
          recordable = is;
          damaged = entry_damaged history (drop (length (counting_of history)) bytes) is damaged.1.damaged;
        };
      } in
      subst (λ place. IsDamagedAt limit place bytes) (sym due) at

  -- the bytes are refused
  pub refused_as : (recovered : Option History) (bytes : List ℕ) (fault : RecoverFault) → IfSome recovered (IsRecordable limit) →
      IsRefusal (accepted_next limit) (taken_of recovered) bytes fault → IsRefused limit bytes fault
  refused_as recovered bytes NotJournal is refusal = refusal
  refused_as recovered bytes (Damaged place) is refusal = damaged_at recovered bytes place is refusal
  refused_as recovered bytes DiskFault is refusal = tt
  refused_as recovered bytes NoMemory is refusal = tt
