-- What is known of a disk, from one call to the next.
use Rattle.std.proofs.Common.{◌≡◌, ◌⊎◌, inl, inr, ⊎_elim, ℕ, ◌+◌, ◌-◌, ◌<◌, ◌≤◌, List, [], ◌∷◌, ◌++◌, length, take, Option, Some, None, refl, sym, ap, ◌∙◌, subst, arith, length-append}
use Rattle.std.proofs.lemmas.Bool.{cases_lt}
use Rattle.std.proofs.lemmas.List.{get_or_append_left, get_or-append-add, take_at, take_all}
use Rattle.farm_base.specs.Known.{Stays, WhereKnown}
use Rattle.farm_disk.specs.Calls.{AddsTwo}
use Rattle.farm_disk.specs.Images.{IsCrashImage, State, at_rest, present, state_at, synced, unchanged}
use Rattle.farm_disk.specs.Laws.{AddedIsPresent, SyncedIsOne}
use Rattle.farm_disk.specs.Runs.{Extends, LeavesBytes, WritesNothing}

-- what holds where it is known still does where nothing changed
pub known_still : {A : Type 0} (old new : Option A) (P : A → Type 0) → Stays old new → WhereKnown old P → WhereKnown new P
known_still old None P stays holds = tt
known_still old (Some new) P stays holds = subst (λ known. WhereKnown known P) stays holds

-- a moment from the last of n states on, of two states more
moments : (n moment : ℕ) → n ≤ moment + 1 → moment < n + 2 →
    ((moment < n) × (moment ≡ n - 1)) ⊎ ((moment ≡ n + 0) ⊎ (moment ≡ n + 1))
moments n moment from within =
    ⊎_elim (λ before. inl (before, omega arith))
    (λ after. inr (⊎_elim (λ first. inl (omega arith)) (λ second. inr (omega arith)) (cases_lt moment (n + 1))))
    (cases_lt moment n)

-- the state at such a moment is the last of those states, or the first or the second one more
state_since : (old : List State) (first second : State) (moment : ℕ) → length old ≤ moment + 1 → moment < length (old ++ first ∷ second ∷ []) →
    (state_at (old ++ first ∷ second ∷ []) moment ≡ present old) ⊎
    ((state_at (old ++ first ∷ second ∷ []) moment ≡ first) ⊎ (state_at (old ++ first ∷ second ∷ []) moment ≡ second))
state_since old first second moment from within =
    let more = first ∷ second ∷ [] in
    ⊎_elim (λ before. inl (get_or_append_left old more (at_rest []) moment before.0 ∙ ap (λ moment. state_at old moment) before.1))
    (λ since. inr (⊎_elim
    (λ is. inl (ap (λ moment. state_at (old ++ more) moment) is ∙ get_or-append-add old more 0 (at_rest [])))
    (λ is. inr (ap (λ moment. state_at (old ++ more) moment) is ∙ get_or-append-add old more 1 (at_rest []))) since))
    (moments (length old) moment from (omega (arith, length-append old more)))

-- nothing is written where nothing changed
pub stays_writes_nothing : (old new : Option (List State)) → Stays old new → WritesNothing old new
stays_writes_nothing old None stays = tt
stays_writes_nothing None (Some new) stays = cc
stays_writes_nothing (Some old) (Some new) stays =
    let same : new ≡ old = cc in
    subst (λ new. LeavesBytes old new) (sym same) (record {
      reads = refl;
      images = λ moment from within image is.
          let last : moment ≡ length old - 1 = omega arith in
          subst (λ moment. IsCrashImage (state_at old moment) image) last is;
    })

-- the states are the same where nothing changed
pub stays_extends : (old new : Option (List State)) → Stays old new → Extends old new
stays_extends old None stays = tt
stays_extends None (Some new) stays = cc
stays_extends (Some old) (Some new) stays =
    let same : new ≡ old = cc in
    ap (λ new. take (length old) new) same ∙ take_all (length old) old (omega arith)

-- two states more leave those before
pub added_extends : (first second : State → State) (old new : Option (List State)) → AddsTwo first second old new → Extends old new
added_extends first second old None added = tt
added_extends first second None (Some new) added = absurd added
added_extends first second (Some old) (Some new) added =
    ap (λ new. take (length old) new) added ∙ take_at old (first (present old) ∷ second (present old) ∷ []) (length old) refl

-- a second state that gives the same bytes, and of which a crash leaves no others, writes nothing
added_nothing : (second : State → State) (old new : Option (List State)) → AddedIsPresent →
    ((state : State) → (second state).seen ≡ state.seen) →
    (WhereKnown old (λ states. (image : List ℕ) → IsCrashImage (second (present states)) image → IsCrashImage (present states) image)) →
    AddsTwo unchanged second old new → WritesNothing old new
added_nothing second old None is_present same fewer added = tt
added_nothing second None (Some new) is_present same fewer added = absurd added
added_nothing second (Some old) (Some new) is_present same fewer added =
    let last = present old in
    subst (λ new. LeavesBytes old new) (sym added) (record {
      reads = ap (λ state. state.seen) (is_present old last (second last)) ∙ same last;
      images = λ moment from within image is.
          ⊎_elim (λ at. subst (λ state. IsCrashImage state image) at is)
          (λ later. ⊎_elim (λ at. subst (λ state. IsCrashImage state image) at is)
          (λ at. fewer image (subst (λ state. IsCrashImage state image) at is)) later)
          (state_since old last (second last) moment from within);
    })

-- a good sync writes nothing
pub synced_writes_nothing : (old new : Option (List State)) → AddedIsPresent → SyncedIsOne →
    WhereKnown old (λ states. IsCrashImage (present states) (present states).seen) →
    AddsTwo unchanged synced old new → WritesNothing old new
synced_writes_nothing None new is_present is_one seen added = added_nothing synced None new is_present (λ state. refl) tt added
synced_writes_nothing (Some old) new is_present is_one seen added =
    added_nothing synced (Some old) new is_present (λ state. refl)
    (λ image is. subst (λ image. IsCrashImage (present old) image) (sym (is_one (present old) image is)) seen) added

-- nor does one that failed
pub unsynced_writes_nothing : (old new : Option (List State)) → AddedIsPresent → AddsTwo unchanged unchanged old new → WritesNothing old new
unsynced_writes_nothing None new is_present added = added_nothing unchanged None new is_present (λ state. refl) tt added
unsynced_writes_nothing (Some old) new is_present added =
    added_nothing unchanged (Some old) new is_present (λ state. refl) (λ image is. is) added
