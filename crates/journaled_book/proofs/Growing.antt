-- Which history bytes encode as a history grows.
use Rattle.std.proofs.Common.{◌≡◌, ◌∙◌, ℕ, ◌-◌, ◌≤◌, Bool, true, false, List, [], ◌∷◌, ◌++◌, length, take, drop, map, sym, ap, subst, inl, inr, ⊎_elim, arith, length-append}
use Rattle.std.proofs.Math.Seq.{take-append_seam, take-length}
use Rattle.std.proofs.lemmas.List.{length-take, map-append, take-append-drop, take-append-le}
use Rattle.std.proofs.lemmas.List.Elements.{All-push, All-take}
use Rattle.farm_history.specs.Encoding.{IsTyped, entry_encoding}
use Rattle.farm_history.specs.History.{History, last_place, with_entry}
use Rattle.farm_history.specs.Verdicts.{IsNext}
use Rattle.farm_history.specs.declared.entry.Entry.{Entry}
use Rattle.farm_history.proofs.Legal.{with_next}
use Rattle.farm_history.proofs.TicketsStand.{legal_front}
use Rattle.farm_journal.specs.Layout.{IsJournalOf}
use Rattle.farm_journal.specs.Standing.{IsEither}
use Rattle.site_encoding.specs.Encoding.{site_encoding}
use Rattle.journaled_book.specs.Histories.{HasGrown, IsRecordable, Recovers, RecoversAtLeast, RecoversFront, RecoversNow, certain, front_of}

-- a journal that may keep a history may keep each prefix of it
pub front_recordable : (limit : ℕ) (history : History) (count : ℕ) → IsRecordable limit history → IsRecordable limit (front_of history count)
front_recordable limit history count is = record {
  site = is.site;
  legal = legal_front limit history (take count history.entries) (drop count history.entries) is.legal (sym (take-append-drop count history.entries));
  typed = All-take IsTyped count history.entries is.typed;
}

-- and the history with an entry more that may come next
pub more_recordable : (limit : ℕ) (history : History) (entry : Entry) → IsRecordable limit history → IsNext limit history entry → IsTyped entry →
    IsRecordable limit (with_entry history entry)
more_recordable limit history entry is next typed = record {
  site = is.site;
  legal = with_next limit history entry is.legal next;
  typed = All-push IsTyped history.entries entry is.typed typed;
}

-- a journal of the first entries of a history encodes that prefix of it
pub stands_for_front : (limit : ℕ) (history : History) (count least : ℕ) (bytes : List ℕ) → IsRecordable limit history → least ≤ count →
    count ≤ last_place history → IsJournalOf (site_encoding history.site) (map entry_encoding (take count history.entries)) bytes →
    RecoversFront limit history least bytes
stands_for_front limit history count least bytes recordable least_is most journal = record {
  count = count;
  least_is = least_is;
  most = most;
  recovers = record { journal = journal; recordable = front_recordable limit history count recordable };
}

-- what encodes a history encodes a prefix of it
pub whole_is_front : (limit : ℕ) (history : History) (least : ℕ) (bytes : List ℕ) → least ≤ last_place history → Recovers limit history bytes →
    RecoversFront limit history least bytes
whole_is_front limit history least bytes least_is recovers =
    stands_for_front limit history (last_place history) least bytes recovers.recordable least_is (omega arith)
    (subst (λ (entries : List Entry). IsJournalOf (site_encoding history.site) (map entry_encoding entries) bytes)
    (sym (take-length history.entries)) recovers.journal)

-- the bytes of entries and of one more
pub encodings_more : (front : List Entry) (last : Entry) → map entry_encoding (front ++ last ∷ []) ≡ map entry_encoding front ++ entry_encoding last ∷ []
encodings_more front last = map-append entry_encoding front (last ∷ [])

-- the number of entries without the last one
pub one_less : (history : History) (front : List Entry) (last : Entry) → history.entries ≡ front ++ last ∷ [] → length front ≡ last_place history - 1
one_less history front last split = omega (arith, ap length split, length-append front (last ∷ []))

-- the entries but for the last one
pub all_but_last : (history : History) (front : List Entry) (last : Entry) → history.entries ≡ front ++ last ∷ [] →
    take (last_place history - 1) history.entries ≡ front
all_but_last history front last split =
    ap (λ count. take count history.entries) (sym (one_less history front last split)) ∙ ap (take (length front)) split ∙ take-append_seam front (last ∷ [])

-- a journal of the entries but for the last one, or of them all, encodes a history whose last entry is in doubt
pub either_now : (limit : ℕ) (history : History) (front : List Entry) (last : Entry) (bytes : List ℕ) → history.entries ≡ front ++ last ∷ [] →
    IsRecordable limit history → IsEither (site_encoding history.site) (map entry_encoding front) (entry_encoding last) bytes → RecoversNow limit true history bytes
either_now limit history front last bytes split recordable either =
    let Of : List (List ℕ) → Type 0 = λ bodies. IsJournalOf (site_encoding history.site) bodies bytes in
    ⊎_elim
    (λ without. inr (record {
      journal = subst Of (ap (map entry_encoding) (sym (all_but_last history front last split))) without;
      recordable = front_recordable limit history (last_place history - 1) recordable;
    }))
    (λ whole. inl (record {
      journal = subst Of (sym (ap (map entry_encoding) split ∙ encodings_more front last)) whole;
      recordable = recordable;
    }))
    either

-- what encodes a history now encodes a prefix of it with the entries that aren't in doubt
pub now_is_front : (limit : ℕ) (doubt : Bool) (history : History) (bytes : List ℕ) → RecoversNow limit doubt history bytes →
    RecoversFront limit history (certain doubt history) bytes
now_is_front limit false history bytes recovers = whole_is_front limit history (last_place history) bytes (omega arith) recovers
now_is_front limit true history bytes recovers =
    ⊎_elim
    (λ whole. whole_is_front limit history (last_place history - 1) bytes (omega arith) whole)
    (λ (without : Recovers limit (front_of history (last_place history - 1)) bytes). record {
      count = last_place history - 1;
      least_is = omega arith;
      most = omega arith;
      recovers = without;
    })
    recovers

-- what encodes a history encodes a prefix of it with one entry more
pub whole_is_front_of_more : (limit : ℕ) (history : History) (entry : Entry) (bytes : List ℕ) → Recovers limit history bytes →
    RecoversFront limit (with_entry history entry) (last_place history) bytes
whole_is_front_of_more limit history entry bytes recovers =
    let Of : List Entry → Type 0 = λ entries. Recovers limit (record { site = history.site; entries = entries }) bytes in
    record {
      count = last_place history;
      least_is = omega arith;
      most = omega (arith, length-append history.entries (entry ∷ []));
      recovers = subst Of (sym (take-append_seam history.entries (entry ∷ []))) recovers;
    }

-- what encodes a prefix of a history encodes a prefix of that history once it has grown
pub front_of_grown : (limit : ℕ) (old new : History) (least : ℕ) (bytes : List ℕ) → HasGrown old new → RecoversFront limit old least bytes →
    RecoversFront limit new least bytes
front_of_grown limit old new least bytes (inl same) front = subst (λ (history : History). RecoversFront limit history least bytes) (sym same) front
front_of_grown limit old new least bytes (inr more) front =
    let Of : List Entry → Type 0 = λ entries. Recovers limit (record { site = old.site; entries = entries }) bytes in
    subst (λ (history : History). RecoversFront limit history least bytes) (sym more.1) (record {
      count = front.count;
      least_is = front.least_is;
      most = omega (arith, front.most, length-append old.entries (more.0 ∷ []));
      recovers = subst Of (sym (take-append-le front.count old.entries (more.0 ∷ []) front.most)) front.recovers;
    })

-- with fewer entries asked for
pub front_less : (limit : ℕ) (history : History) (least less : ℕ) (bytes : List ℕ) → less ≤ least → RecoversFront limit history least bytes →
    RecoversFront limit history less bytes
front_less limit history least less bytes fewer front = record {
  count = front.count;
  least_is = omega (arith, front.least_is);
  most = front.most;
  recovers = front.recovers;
}

-- a prefix of a history is a history of at least as many entries
pub front_at_least : (limit : ℕ) (history : History) (least count : ℕ) (bytes : List ℕ) → count ≤ least → RecoversFront limit history least bytes →
    RecoversAtLeast limit count bytes
front_at_least limit history least count bytes fewer front = record {
  history = front_of history front.count;
  least_is = omega (arith, front.least_is, front.most, length-take front.count history.entries);
  recovers = front.recovers;
}
