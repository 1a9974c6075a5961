-- How a journal's disk stands through the write of a body, and through the write that opens a gate.
use Rattle.std.proofs.Common.{◌≡◌, ⊎_elim, ℕ, ◌+◌, ◌<◌, ◌≤◌, List, [], ◌∷◌, ◌++◌, length, refl, sym, subst, arith, length-append}
use Rattle.std.proofs.lemmas.List.Elements.{All-cons, All-nil}
use Rattle.std.specs.Prelude.{All}
use Rattle.farm_disk.specs.Images.{Range, State, at_rest, begun, synced, written, written_at}
use Rattle.farm_journal.specs.Layout.{IsJournalOf, IsShort, counted, counting}
use Rattle.farm_journal.specs.Standing.{IsAtRest, IsPending, with_open}
use Rattle.farm_journal.specs.Steps.{IsWriting}
use Rattle.farm_journal.proofs.Gates.{IsGate}
use Rattle.farm_journal.proofs.JournalBytes.{opened_put, with_open-with_open, written_past}

-- the range of a write that has begun stands before the others
begun_ranges : (at : ℕ) (bytes : List ℕ) (state : State) (P : Range → Type 0) → 0 < length bytes →
    P (record { at = at; size = length bytes }) → All P state.ranges → All P (begun at bytes state).ranges
begun_ranges at [] state P some first others = absurd (omega arith)
begun_ranges at (byte ∷ bytes) state P some first others = All-cons P (record { at = at; size = length (byte ∷ bytes) }) state.ranges first others

-- within a write there is its range or there isn't
pub writing_ranges : (at : ℕ) (bytes : List ℕ) (old state : State) (P : Range → Type 0) → IsWriting at bytes old state → 0 < length bytes →
    P (record { at = at; size = length bytes }) → All P old.ranges → All P state.ranges
writing_ranges at bytes old state P writing some first others =
    ⊎_elim (λ same. subst (λ ranges. All P ranges) (sym same) others)
    (λ same. subst (λ ranges. All P ranges) (sym same) (begun_ranges at bytes old P some first others)) writing.ranges

-- within a write reads give what they gave or what the write makes of that
writing_seen : (at : ℕ) (bytes : List ℕ) (old state : State) (P : List ℕ → Type 0) → IsWriting at bytes old state →
    P old.seen → P (written_at at bytes old.seen) → P state.seen
writing_seen at bytes old state P writing before after =
    ⊎_elim (λ same. subst P (sym same) before) (λ same. subst P (sym same) after) writing.seen

-- what a write leaves once it is synced
pub synced-written : (at : ℕ) (bytes : List ℕ) (state : State) → 0 < length bytes →
    synced (written at bytes state) ≡ at_rest (written_at at bytes state.seen)
synced-written at [] state some = absurd (omega arith)
synced-written at (byte ∷ bytes) state some = refl

-- bytes that are all synced and are a journal are at rest
pub at_rest_synced : (header : List ℕ) (bodies : List (List ℕ)) (bytes : List ℕ) → IsJournalOf header bodies bytes →
    IsAtRest header bodies (at_rest bytes)
at_rest_synced header bodies bytes is =
    record { base = is; seen = is; ranges = All-nil (λ (range : Range). length (counting header bodies) + 1 ≤ range.at) }

module _ (header : List ℕ) (bodies : List (List ℕ)) where
  -- a write past the gate leaves it at rest
  pub put_writing : (bytes : List ℕ) (old state : State) → 0 < length bytes → IsAtRest header bodies old →
      IsWriting (length (counting header bodies) + 1) bytes old state → IsAtRest header bodies state
  put_writing bytes old state some rest writing =
      let size = length (counting header bodies) in
      record {
        base = subst (IsJournalOf header bodies) (sym writing.base) rest.base;
        seen = writing_seen (size + 1) bytes old state (IsJournalOf header bodies) writing rest.seen
            (written_past header bodies bytes old.seen some rest.seen);
        ranges = writing_ranges (size + 1) bytes old state (λ (range : Range). size + 1 ≤ range.at) writing some (omega arith) rest.ranges;
      }

  -- also once it is synced
  pub put_synced : (bytes : List ℕ) (old : State) → 0 < length bytes → IsAtRest header bodies old →
      IsAtRest header bodies (synced (written (length (counting header bodies) + 1) bytes old))
  put_synced bytes old some rest =
      let size = length (counting header bodies) in
      subst (IsAtRest header bodies) (sym (synced-written (size + 1) bytes old some))
      (at_rest_synced header bodies (written_at (size + 1) bytes old.seen) (written_past header bodies bytes old.seen some rest.seen))

  -- and then the body that was written is pending
  pub put_pending : (body : List ℕ) (old : State) → IsShort body → IsAtRest header bodies old →
      IsPending header bodies body (synced (written (length (counting header bodies) + 1) (counted body ++ 0 ∷ []) old))
  put_pending body old short rest =
      let size = length (counting header bodies) in
      let bytes = counted body ++ 0 ∷ [] in
      let some : 0 < length bytes = omega (arith, length-append (counted body) (0 ∷ [])) in
      let opened = opened_put header bodies body old.seen short rest.seen in
      subst (IsPending header bodies body) (sym (synced-written (size + 1) bytes old some))
      (record {
        base = written_past header bodies bytes old.seen some rest.seen;
        base_opened = opened;
        seen_opened = opened;
        ranges = All-nil (IsGate size);
      })

  -- the write that opens the gate leaves the body pending
  pub open_writing : (body : List ℕ) (old state : State) → IsPending header bodies body old →
      IsWriting (length (counting header bodies)) (1 ∷ []) old state → IsPending header bodies body state
  open_writing body old state pending writing =
      let gate = length (counting header bodies) in
      let IsNext = IsJournalOf header (bodies ++ body ∷ []) in
      record {
        base = subst (IsJournalOf header bodies) (sym writing.base) pending.base;
        base_opened = subst (λ base. IsNext (with_open gate base)) (sym writing.base) pending.base_opened;
        seen_opened = writing_seen gate (1 ∷ []) old state (λ seen. IsNext (with_open gate seen)) writing pending.seen_opened
            (subst IsNext (sym (with_open-with_open gate old.seen)) pending.seen_opened);
        ranges = writing_ranges gate (1 ∷ []) old state (IsGate gate) writing (omega arith) (refl, refl) pending.ranges;
      }

  -- and once it is synced the journal has the body, and nothing is pending
  pub open_synced : (body : List ℕ) (old : State) → IsPending header bodies body old →
      IsAtRest header (bodies ++ body ∷ []) (synced (written (length (counting header bodies)) (1 ∷ []) old))
  open_synced body old pending =
      at_rest_synced header (bodies ++ body ∷ []) (with_open (length (counting header bodies)) old.seen) pending.seen_opened
