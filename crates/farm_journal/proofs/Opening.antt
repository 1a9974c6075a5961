-- How an open journal stands after its gate is opened, and what a crash leaves over that.
use Rattle.std.proofs.Common.{◌≡◌, inr, ℕ, ◌+◌, List, [], ◌∷◌, ◌++◌, length, Option, Some, None, Result, IsErr, IsOk, sym, ap, ◌∙◌, subst, arith}
use Rattle.std.proofs.lemmas.List.{length_push}
use Rattle.farm_base.specs.Known.{WhereKnown}
use Rattle.farm_disk.specs.Images.{State, present}
use Rattle.farm_disk.specs.Runs.{EachSince}
use Rattle.farm_journal.specs.Layout.{counting}
use Rattle.farm_journal.specs.Standing.{IsAtRest, IsEither, IsPending, JournalState, Stands, gate_after}
use Rattle.farm_journal.specs.Steps.{WritesSynced}
use Rattle.farm_journal.proofs.Gates.{at_rest_image, pending_image}
use Rattle.farm_journal.proofs.Putting.{adds_each, done_ends, fails_within}
use Rattle.farm_journal.proofs.Writes.{open_synced, open_writing}

module _ (header : List ℕ) (bodies : List (List ℕ)) (body : List ℕ) where
  -- each image over the opening of a gate is a journal of the bodies, or of these and the one that was pending
  open_each : {T E : Type 0} (old new : Option (List State)) (result : Result T E) →
      WhereKnown old (λ states. IsPending header bodies body (present states)) →
      WritesSynced (length (counting header bodies)) (1 ∷ []) old new result → EachSince old new (IsEither header bodies body)
  open_each old None result kept step = tt
  open_each None (Some new) result kept step = step
  open_each (Some old) (Some new) result kept step =
      adds_each (length (counting header bodies)) (1 ∷ []) old new result (IsEither header bodies body) step
      (λ state writing image is.
      pending_image header bodies body state image (open_writing header bodies body (present old) state kept writing) is)
      (λ image is.
      inr (at_rest_image header (bodies ++ body ∷ []) _ image (open_synced header bodies body (present old) kept) is))

  -- after a fault the body is still pending
  open_fails : {T E : Type 0} (old new : Option (List State)) (result : Result T E) → IsErr result →
      WhereKnown old (λ states. IsPending header bodies body (present states)) →
      WritesSynced (length (counting header bodies)) (1 ∷ []) old new result →
      WhereKnown new (λ states. IsPending header bodies body (present states))
  open_fails old None result failed kept step = tt
  open_fails None (Some new) result failed kept step = absurd step
  open_fails (Some old) (Some new) result failed kept step =
      open_writing header bodies body (present old) (present new) kept
      (fails_within (length (counting header bodies)) (1 ∷ []) old new result failed step)

  -- once the gate is open the journal has the body
  open_done : {T E : Type 0} (old new : Option (List State)) (result : Result T E) → IsOk result →
      WhereKnown old (λ states. IsPending header bodies body (present states)) →
      WritesSynced (length (counting header bodies)) (1 ∷ []) old new result →
      WhereKnown new (λ states. IsAtRest header (bodies ++ body ∷ []) (present states))
  open_done old None result done kept step = tt
  open_done None (Some new) result done kept step = absurd step
  open_done (Some old) (Some new) result done kept step =
      subst (IsAtRest header (bodies ++ body ∷ []))
      (sym (done_ends (length (counting header bodies)) (1 ∷ []) old new result done step))
      (open_synced header bodies body (present old) kept)

  module _ {D T E : Type 0} (trace : D → Option (List State)) (view old : JournalState D) (disk : D) (result : Result T E)
      (same : view ≡ old) (stands : Stands trace header bodies (Some body) old)
      (step : WritesSynced view.gate (1 ∷ []) (trace view.disk) (trace disk) result) where
    -- the step writes at the gate of the body
    at_gate : WritesSynced (length (counting header bodies)) (1 ∷ []) (trace old.disk) (trace disk) result
    at_gate =
        subst (λ gate. WritesSynced gate (1 ∷ []) (trace old.disk) (trace disk) result) stands.gate
        (subst (λ journal. WritesSynced journal.gate (1 ∷ []) (trace journal.disk) (trace disk) result) same step)

    -- each image while a gate is opened has the body, or doesn't
    pub open_images : EachSince (trace old.disk) (trace disk) (IsEither header bodies body)
    open_images = open_each (trace old.disk) (trace disk) result stands.kept at_gate

    -- where the step fails, the body is still pending
    pub open_stays : (new : JournalState D) → IsErr result → new.disk ≡ disk → new.gate ≡ view.gate → new.count ≡ view.count →
        new.next_gate ≡ view.next_gate → Stands trace header bodies (Some body) new
    open_stays new failed is_disk is_gate is_count is_next = record {
      gate = is_gate ∙ ap (λ (journal : JournalState D). journal.gate) same ∙ stands.gate;
      count = is_count ∙ ap (λ (journal : JournalState D). journal.count) same ∙ stands.count;
      next_gate = is_next ∙ ap (λ (journal : JournalState D). journal.next_gate) same ∙ stands.next_gate;
      kept = subst (λ disk. WhereKnown (trace disk) (λ states. IsPending header bodies body (present states))) (sym is_disk)
          (open_fails (trace old.disk) (trace disk) result failed stands.kept at_gate);
    }

    -- where it succeeds, the body is in the journal
    pub open_stands : (new : JournalState D) (next : ℕ) → IsOk result → new.disk ≡ disk → view.next_gate ≡ Some next → new.gate ≡ next →
        new.count ≡ view.count + 1 → new.next_gate ≡ None → Stands trace header (bodies ++ body ∷ []) None new
    open_stands new next done is_disk was_next is_gate is_count is_next =
        let is_after : Some next ≡ Some (gate_after header bodies body) =
        sym was_next ∙ ap (λ (journal : JournalState D). journal.next_gate) same ∙ stands.next_gate in
        let same_count : view.count ≡ length bodies = ap (λ (journal : JournalState D). journal.count) same ∙ stands.count in
        record {
          gate = is_gate ∙ (cc is_after);
          count = omega (arith, is_count, same_count, length_push bodies body);
          next_gate = is_next;
          kept = subst (λ disk. WhereKnown (trace disk) (λ states. IsAtRest header (bodies ++ body ∷ []) (present states))) (sym is_disk)
              (open_done (trace old.disk) (trace disk) result done stands.kept at_gate);
        }
