-- Bytes that encode a history are a journal, and aren't damaged.
use Rattle.std.proofs.Common.{◌≡◌, ◌∙◌, ⊎_elim, inl, inr, ℕ, zero, suc, ◌+◌, Bool, true, false, not, ◌&&◌, List, [], ◌∷◌, ◌++◌, length, get_or, take, drop, Some, All, IsFalse, refl, sym, ap, subst, arith, bytes_eq, length-append}
use Rattle.std.specs.Cmp.Lexicographic.{pointwise, pointwise_decides}
use Rattle.std.proofs.lemmas.Bool.{and_parts}
use Rattle.std.proofs.lemmas.List.{get_or_at, take_at}
use Rattle.std.proofs.lemmas.Slice.Eq.{bytes_eq-Decides}
use Rattle.farm_book.specs.Entering.{IsNextEncoding}
use Rattle.farm_history.specs.declared.entry.Entry.{Entry}
use Rattle.farm_history.specs.Encoding.{IsTyped}
use Rattle.farm_history.specs.History.{History}
use Rattle.farm_history.specs.Verdicts.{IsNext}
use Rattle.farm_journal.specs.Recovery.{Accepts, AreAccepted, IsRecordDamaged, after_signature, counted_in}
use Rattle.farm_journal.proofs.OneMeaning.{whole_is_not_refused}
use Rattle.site_encoding.specs.Encoding.{site_encoding}
use Rattle.site_decoding.proofs.BytesRead.{PartsAreRead}
use Rattle.farm_recovery.specs.Accepting.{taken_of}
use Rattle.journaled_book.specs.Histories.{IsRecordable, Recovers, entry_encodings}
use Rattle.farm_recovery.specs.Laws.{RecoveredIsNotRefused}
use Rattle.farm_recovery.specs.Recovery.{IsDamagedAfter, IsDamagedAt, IsEntryDamaged, IsSiteDamaged, counting_of}
use Rattle.journaled_book.proofs.Growing.{front_recordable}
use Rattle.farm_recovery.proofs.OneHistory.{among, same_history}

-- a taker that accepts all but these bytes after these
all_but : List (List ℕ) → List ℕ → Accepts
all_but taken bytes others other = not (pointwise bytes_eq taken others && bytes_eq bytes other)

-- a test that doesn't hold
fails : (test : Bool) → (test ≡ true → ⊥) → not test ≡ true
fails true holds = absurd (holds refl)
fails false holds = refl

-- it refuses those
refuses : (taken : List (List ℕ)) (bytes : List ℕ) → IsFalse (all_but taken bytes taken bytes)
unfolding all_but
refuses taken bytes =
    let same_taken = (pointwise_decides bytes_eq-Decides taken taken).1 refl in
    let same_bytes = (bytes_eq-Decides bytes bytes).1 refl in
    ap (λ test. not (test && bytes_eq bytes bytes)) same_taken ∙ ap (λ test. not test) same_bytes

-- and accepts all others
accepts_others : (taken others : List (List ℕ)) (bytes : List ℕ) → ((back : List (List ℕ)) → others ≡ taken ++ bytes ∷ back → ⊥) →
    AreAccepted (all_but taken bytes) others
unfolding all_but
accepts_others taken others bytes none = λ front back other split.
    fails (pointwise bytes_eq taken front && bytes_eq bytes other) (λ holds.
    let both = and_parts (pointwise bytes_eq taken front) (bytes_eq bytes other) holds in
    let same_taken : taken ≡ front = (pointwise_decides bytes_eq-Decides taken front).0 both.0 in
    let same_bytes : bytes ≡ other = (bytes_eq-Decides bytes other).0 both.1 in
    none back (split ∙ ap (λ front. front ++ other ∷ back) (sym same_taken) ∙ ap (λ other. taken ++ other ∷ back) (sym same_bytes)))

-- one that accepts all
all_accepted : (taken : List (List ℕ)) → AreAccepted (λ others other. true) taken
all_accepted taken = λ front back bytes split. refl

-- an entry among typed ones is typed
typed_at : (entries before after : List Entry) (entry : Entry) → entries ≡ before ++ entry ∷ after → All IsTyped entries → IsTyped entry
typed_at entries before after entry split typed =
    subst IsTyped (ap (λ entries. get_or entries (length before) entry) split ∙ get_or_at before entry after entry (length before) refl)
    (typed (length before) entry (omega (arith, ap length split, length-append before (entry ∷ after))))

-- bytes among those of a history, after those of another one, are the bytes of an entry that may come next after that one
next_among : PartsAreRead → (limit : ℕ) (history other : History) (bytes : List ℕ) (back : List (List ℕ)) → IsRecordable limit history →
    IsRecordable limit other → taken_of (Some history) ≡ taken_of (Some other) ++ bytes ∷ back → IsNextEncoding limit other bytes
next_among laws limit history other bytes back is other_is split =
    let sites : site_encoding history.site ≡ site_encoding other.site = cc in
    let bodies : entry_encodings history ≡ entry_encodings other ++ bytes ∷ back = cc in
    let at = among history.entries (entry_encodings other) back bytes bodies in
    let front : History = record { site = history.site; entries = at.before } in
    let taken : take (length at.before) history.entries ≡ at.before =
    ap (λ entries. take (length at.before) entries) at.split ∙ take_at at.before (at.entry ∷ at.after) (length at.before) refl in
    let front_is : IsRecordable limit front =
    subst (λ entries. IsRecordable limit (record { site = history.site; entries = entries })) taken
    (front_recordable limit history (length at.before) is) in
    let same : front ≡ other = same_history laws limit front other front_is other_is sites at.front_is in
    record {
      entry = at.entry;
      typed = typed_at history.entries at.before at.after at.entry at.split is.typed;
      encoded = at.bytes_are;
      next = subst (λ (history : History). IsNext limit history at.entry) same (is.legal at.before at.after at.entry at.split);
    }

-- no list is one that continues after it
never_longer : (taken back : List (List ℕ)) (bytes : List ℕ) → taken ≡ taken ++ bytes ∷ back → ⊥
never_longer taken back bytes split = omega (arith, ap length split, length-append taken (bytes ∷ back))

module _ (laws : PartsAreRead) (limit : ℕ) (history : History) (bytes : List ℕ) (is : Recovers limit history bytes) where
  -- the bytes of a history aren't damaged after another one, as a taker judges that accepts both
  not_damaged_for : (other : History) → IsDamagedAfter limit other bytes → (accepts : Accepts) → AreAccepted accepts (taken_of (Some history)) →
      AreAccepted accepts (taken_of (Some other)) → IsRecordDamaged accepts (taken_of (Some other)) (drop (length (counting_of other)) bytes) → ⊥
  not_damaged_for other damaged accepts mine others due =
      whole_is_not_refused accepts (taken_of (Some history)) (taken_of (Some other)) bytes (length (entry_encodings other) + 1) (is.journal, mine)
      (inr (
        refl,
        record {
          begins = damaged.begins;
          short_header = damaged.short_site;
          short_bodies = damaged.short_entries;
          accepted = others;
          damaged = due;
        },
      ))

  -- whatever is expected there
  not_damaged_with : (other : History) → IsDamagedAfter limit other bytes → (left : List ℕ) → drop (length (counting_of other)) bytes ≡ left →
      IsEntryDamaged limit other left → ⊥
  not_damaged_with other damaged [] there due =
      not_damaged_for other damaged (λ taken bytes. true) (all_accepted (taken_of (Some history))) (all_accepted (taken_of (Some other)))
      (subst (λ left. IsRecordDamaged (λ taken bytes. true) (taken_of (Some other)) left) (sym there) tt)
  not_damaged_with other damaged (gate ∷ rest) there due = ⊎_elim
      (λ cut. not_damaged_for other damaged (λ taken bytes. true) (all_accepted (taken_of (Some history))) (all_accepted (taken_of (Some other)))
      (subst (λ left. IsRecordDamaged (λ taken bytes. true) (taken_of (Some other)) left) (sym there) (due.0, inl cut)))
      (λ refused.
      let body = counted_in rest in
      let taken = taken_of (Some other) in
      not_damaged_for other damaged (all_but taken body)
      (accepts_others taken (taken_of (Some history)) body
      (λ back split. refused.1 (next_among laws limit history other body back is.recordable damaged.recordable split)))
      (accepts_others taken taken body (λ back split. never_longer taken back body split))
      (subst (λ left. IsRecordDamaged (all_but taken body) taken left) (sym there) (due.0, inr (refused.0, refuses taken body))))
      due.1

  -- nor is the site
  site_not_damaged : IsSiteDamaged bytes → ⊥
  site_not_damaged damaged =
      let header = counted_in (after_signature bytes) in
      let taken = taken_of (Some history) in
      ⊎_elim
      (λ cut. whole_is_not_refused (λ taken bytes. true) taken [] bytes 0 (is.journal, all_accepted taken)
      (inr (refl, record { is_journal = damaged.is_journal; damaged = inl cut })))
      (λ refused.
      let not_taken : (back : List (List ℕ)) → taken ≡ [] ++ header ∷ back → ⊥ =
      λ back split.
      let encoded : header ≡ site_encoding history.site = cc in
      refused.1 (record { site = history.site; sound = is.recordable.site; encoded = encoded }) in
      whole_is_not_refused (all_but [] header) taken [] bytes 0 (is.journal, accepts_others [] taken header not_taken)
      (inr (refl, record { is_journal = damaged.is_journal; damaged = inr (refused.0, refuses [] header) })))
      damaged.damaged

  -- so they are damaged at no place
  not_damaged_at : (place : ℕ) → IsDamagedAt limit place bytes → ⊥
  not_damaged_at zero damaged = site_not_damaged damaged
  not_damaged_at (suc place) damaged =
      not_damaged_with damaged.history damaged.after (drop (length (counting_of damaged.history)) bytes) refl damaged.after.damaged

-- bytes that encode a history are a journal, and aren't damaged
pub recovered_is_not_refused : PartsAreRead → RecoveredIsNotRefused
recovered_is_not_refused laws limit place history bytes is = (
  λ none. whole_is_not_refused (λ taken bytes. true) (taken_of (Some history)) [] bytes 0 (is.journal, all_accepted (taken_of (Some history))) (inl none),
  not_damaged_at laws limit history bytes is place,
)
