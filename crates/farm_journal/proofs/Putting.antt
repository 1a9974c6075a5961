-- How an open journal stands after the two steps in which it takes a body, and what a crash leaves over each.
use Rattle.std.proofs.Common.{◌≡◌, ⊎_elim, ℕ, ◌+◌, ◌-◌, ◌<◌, List, [], ◌∷◌, ◌++◌, length, take, drop, Option, Some, None, Result, Ok, Err, IsErr, IsOk, MatchResult, sym, ap, ◌∙◌, subst, arith, length-append}
use Rattle.std.proofs.lemmas.List.{take_all}
use Rattle.farm_base.specs.Known.{WhereKnown}
use Rattle.farm_disk.specs.Images.{IsCrashImage, State, present, state_at, synced, written}
use Rattle.farm_disk.specs.Runs.{EachSince}
use Rattle.farm_journal.specs.Layout.{IsJournalOf, IsShort, counted, counting, open_record}
use Rattle.farm_journal.specs.Standing.{IsAtRest, IsPending, JournalState, Stands}
use Rattle.farm_journal.specs.Steps.{AddsOneWrite, AddsSynced, IsWriting, WritesSynced}
use Rattle.farm_journal.proofs.Gates.{at_rest_image}
use Rattle.farm_journal.proofs.JournalBytes.{length-counting-push}
use Rattle.farm_journal.proofs.Writes.{put_pending, put_synced, put_writing}

-- each image over a synced write has what those within it have and those after it
pub adds_each : {T E : Type 0} (at : ℕ) (bytes : List ℕ) (old new : List State) (result : Result T E) (P : List ℕ → Type 0) →
    AddsSynced at bytes old new result →
    ((state : State) → IsWriting at bytes (present old) state → (image : List ℕ) → IsCrashImage state image → P image) →
    ((image : List ℕ) → IsCrashImage (synced (written at bytes (present old))) image → P image) →
    EachSince (Some old) (Some new) P
adds_each at bytes old new result P adds during after = λ moment since within image is.
    ⊎_elim (λ writing. during (state_at new moment) writing image is)
    (λ done. after image (subst (λ state. IsCrashImage state image) done.1 is))
    (adds.within moment since within)

-- of a result that is an error what is said of errors holds
pub on_err : {T E : Type 0} (result : Result T E) (P : T → Type 0) (Q : E → Type 0) → IsErr result → ((fault : E) → Q fault) → MatchResult result P Q
on_err (Ok value) P Q failed all = cc
on_err (Err fault) P Q failed all = all fault

-- after a fault the present state is as within the write
pub fails_within : {T E : Type 0} (at : ℕ) (bytes : List ℕ) (old new : List State) (result : Result T E) → IsErr result →
    AddsSynced at bytes old new result → IsWriting at bytes (present old) (present new)
fails_within at bytes old new (Ok done) failed adds = cc
fails_within at bytes old new (Err fault) failed adds = adds.ends

-- at Ok it is what the write makes, synced
pub done_ends : {T E : Type 0} (at : ℕ) (bytes : List ℕ) (old new : List State) (result : Result T E) → IsOk result →
    AddsSynced at bytes old new result → present new ≡ synced (written at bytes (present old))
done_ends at bytes old new (Ok value) done adds = adds.ends
done_ends at bytes old new (Err fault) done adds = cc

-- what is written of a record from past its gate on
put_bytes : (body made : List ℕ) → made ≡ open_record body ++ 0 ∷ [] → take (length made - 1) (drop 1 made) ≡ counted body ++ 0 ∷ []
unfolding open_record
put_bytes body made is =
    ap (λ made. take (length made - 1) (drop 1 made)) is
    ∙ take_all (length (1 ∷ (counted body ++ 0 ∷ [])) - 1) (counted body ++ 0 ∷ []) (omega arith)

-- there are such bytes for every body
some_bytes : (body : List ℕ) → 0 < length (counted body ++ 0 ∷ [])
some_bytes body = omega (arith, length-append (counted body) (0 ∷ []))

-- the step of a put, at the gate of the journal
pub put_step : {D T E : Type 0} (trace : D → Option (List State)) (body made : List ℕ) (view old : JournalState D) (disk : D) (result : Result T E) →
    made ≡ open_record body ++ 0 ∷ [] → view ≡ old →
    WritesSynced (view.gate + 1) (take (length made - 1) (drop 1 made)) (trace view.disk) (trace disk) result →
    WritesSynced (old.gate + 1) (counted body ++ 0 ∷ []) (trace old.disk) (trace disk) result
put_step trace body made view old disk result is same step =
    subst (λ journal. WritesSynced (journal.gate + 1) (counted body ++ 0 ∷ []) (trace journal.disk) (trace disk) result) same
    (subst (λ bytes. WritesSynced (view.gate + 1) bytes (trace view.disk) (trace disk) result) (put_bytes body made is) step)

-- the one write of a put, at the gate of the journal
pub put_one_write : {D : Type 0} (trace : D → Option (List State)) (body made : List ℕ) (view old : JournalState D) (disk : D) →
    made ≡ open_record body ++ 0 ∷ [] → view ≡ old →
    AddsOneWrite (view.gate + 1) (take (length made - 1) (drop 1 made)) (trace view.disk) (trace disk) →
    AddsOneWrite (old.gate + 1) (counted body ++ 0 ∷ []) (trace old.disk) (trace disk)
put_one_write trace body made view old disk is same step =
    subst (λ journal. AddsOneWrite (journal.gate + 1) (counted body ++ 0 ∷ []) (trace journal.disk) (trace disk)) same
    (subst (λ bytes. AddsOneWrite (view.gate + 1) bytes (trace view.disk) (trace disk)) (put_bytes body made is) step)

-- the gate after a body that is put
next_gate : (header : List ℕ) (bodies : List (List ℕ)) (body : List ℕ) (gate : ℕ) → gate ≡ length (counting header bodies) →
    gate + 5 + length body ≡ length (counting header (bodies ++ body ∷ []))
next_gate header bodies body gate is = omega (arith, is, length-counting-push header bodies body)

module _ (header : List ℕ) (bodies : List (List ℕ)) (body : List ℕ) where
  -- each image over a put is a journal of the bodies
  put_each : {T E : Type 0} (old new : Option (List State)) (result : Result T E) →
      WhereKnown old (λ states. IsAtRest header bodies (present states)) →
      WritesSynced (length (counting header bodies) + 1) (counted body ++ 0 ∷ []) old new result → EachSince old new (IsJournalOf header bodies)
  put_each old None result kept step = tt
  put_each None (Some new) result kept step = step
  put_each (Some old) (Some new) result kept step =
      adds_each (length (counting header bodies) + 1) (counted body ++ 0 ∷ []) old new result (IsJournalOf header bodies) step
      (λ state writing image is.
      at_rest_image header bodies state image
      (put_writing header bodies (counted body ++ 0 ∷ []) (present old) state (some_bytes body) kept writing) is)
      (λ image is.
      at_rest_image header bodies _ image
      (put_synced header bodies (counted body ++ 0 ∷ []) (present old) (some_bytes body) kept) is)

  -- after a put that failed the disk is at rest
  put_fails : {T E : Type 0} (old new : Option (List State)) (result : Result T E) → IsErr result →
      WhereKnown old (λ states. IsAtRest header bodies (present states)) →
      WritesSynced (length (counting header bodies) + 1) (counted body ++ 0 ∷ []) old new result →
      WhereKnown new (λ states. IsAtRest header bodies (present states))
  put_fails old None result failed kept step = tt
  put_fails None (Some new) result failed kept step = absurd step
  put_fails (Some old) (Some new) result failed kept step =
      put_writing header bodies (counted body ++ 0 ∷ []) (present old) (present new) (some_bytes body) kept
      (fails_within (length (counting header bodies) + 1) (counted body ++ 0 ∷ []) old new result failed step)

  -- after a put the body is pending
  put_done : {T E : Type 0} (old new : Option (List State)) (result : Result T E) → IsOk result → IsShort body →
      WhereKnown old (λ states. IsAtRest header bodies (present states)) →
      WritesSynced (length (counting header bodies) + 1) (counted body ++ 0 ∷ []) old new result →
      WhereKnown new (λ states. IsPending header bodies body (present states))
  put_done old None result done short kept step = tt
  put_done None (Some new) result done short kept step = absurd step
  put_done (Some old) (Some new) result done short kept step =
      subst (IsPending header bodies body)
      (sym (done_ends (length (counting header bodies) + 1) (counted body ++ 0 ∷ []) old new result done step))
      (put_pending header bodies body (present old) short kept)

  module _ {D T E : Type 0} (trace : D → Option (List State)) (old : JournalState D) (disk : D) (result : Result T E)
      (stands : Stands trace header bodies None old)
      (step : WritesSynced (old.gate + 1) (counted body ++ 0 ∷ []) (trace old.disk) (trace disk) result) where
    -- the step writes after the gate
    at_gate : WritesSynced (length (counting header bodies) + 1) (counted body ++ 0 ∷ []) (trace old.disk) (trace disk) result
    at_gate = subst (λ gate. WritesSynced (gate + 1) (counted body ++ 0 ∷ []) (trace old.disk) (trace disk) result) stands.gate step

    -- each image while a body is put is one of the journal without it
    pub put_images : EachSince (trace old.disk) (trace disk) (IsJournalOf header bodies)
    put_images = put_each (trace old.disk) (trace disk) result stands.kept at_gate

    -- where the put fails, the disk is at rest with the bodies that there were
    pub put_kept : IsErr result → WhereKnown (trace disk) (λ states. IsAtRest header bodies (present states))
    put_kept failed = put_fails (trace old.disk) (trace disk) result failed stands.kept at_gate

    -- where it succeeds, the body is pending
    pub put_stands : (new : JournalState D) → IsOk result → IsShort body → new.disk ≡ disk → new.gate ≡ old.gate → new.count ≡ old.count →
        new.next_gate ≡ Some (old.gate + 5 + length body) → Stands trace header bodies (Some body) new
    put_stands new done short is_disk is_gate is_count is_next = record {
      gate = is_gate ∙ stands.gate;
      count = is_count ∙ stands.count;
      next_gate = is_next ∙ ap Some (next_gate header bodies body old.gate stands.gate);
      kept = subst (λ disk. WhereKnown (trace disk) (λ states. IsPending header bodies body (present states))) (sym is_disk)
          (put_done (trace old.disk) (trace disk) result done short stands.kept at_gate);
    }

    -- where it fails, the journal stands as it did
    pub put_stays : (new : JournalState D) → IsErr result → new.disk ≡ disk → new.gate ≡ old.gate → new.count ≡ old.count →
        new.next_gate ≡ old.next_gate → Stands trace header bodies None new
    put_stays new failed is_disk is_gate is_count is_next = record {
      gate = is_gate ∙ stands.gate;
      count = is_count ∙ stands.count;
      next_gate = is_next ∙ stands.next_gate;
      kept = subst (λ disk. WhereKnown (trace disk) (λ states. IsAtRest header bodies (present states))) (sym is_disk) (put_kept failed);
    }
