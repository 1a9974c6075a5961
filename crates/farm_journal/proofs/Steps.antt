-- What a write that is synced at once makes of the states of a disk, and what a crash leaves over such writes in a row.
use Rattle.std.proofs.Common.{◌≡◌, ◌⊎◌, inl, inr, ⊎_elim, ℕ, ◌+◌, ◌-◌, ◌<◌, ◌≤◌, List, [], ◌∷◌, ◌++◌, length, Option, Some, None, Result, Ok, Err, IsErr, IsOk, refl, sym, ap, ◌∙◌, subst, arith, append_assoc, length-append}
use Rattle.std.proofs.lemmas.Bool.{cases_lt}
use Rattle.std.proofs.lemmas.List.{append-nil, get_or_append_left, get_or-append-add, get_or-append_right, take_at}
use Rattle.std.proofs.lemmas.List.Elements.{All-cons, All-nil, All-push, All-weaker}
use Rattle.std.specs.Prelude.{All}
use Rattle.farm_base.specs.Known.{Stays}
use Rattle.farm_disk.specs.Calls.{AddsTwo}
use Rattle.farm_disk.specs.Images.{State, at_rest, begun, present, state_at, synced, unchanged, written}
use Rattle.farm_journal.specs.Steps.{AddsOneWrite, AddsSynced, IsWriting, WritesSynced}

-- of states to which two were added the second is the present one
present_added : (states : List State) (first second : State) → present (states ++ first ∷ second ∷ []) ≡ second
present_added states first second =
    let last : length (states ++ first ∷ second ∷ []) - 1 ≡ length states + 1 = omega (arith, length-append states (first ∷ second ∷ [])) in
    ap (λ moment. state_at (states ++ first ∷ second ∷ []) moment) last
    ∙ get_or-append-add states (first ∷ second ∷ []) 1 (at_rest [])

-- from the last of the old states on there are that one and those that were added
each_since : (old added : List State) (P : State → Type 0) → P (present old) → All P added → (moment : ℕ) → length old ≤ moment + 1 →
    moment < length (old ++ added) → P (state_at (old ++ added) moment)
each_since old added P now all moment since within =
    ⊎_elim
    (λ before.
    let last : moment ≡ length old - 1 = omega arith in
    subst P (sym (get_or_append_left old added (at_rest []) moment before ∙ ap (λ moment. state_at old moment) last)) now)
    (λ later.
    subst P (sym (get_or-append_right old added (length old) moment (at_rest []) refl later))
    (all (moment - length old) (at_rest []) (omega (arith, length-append old added))))
    (cases_lt moment (length old))

-- a state as within a write, or the one that it ends with
abbrev IsStep : {T E : Type 0} → ℕ → List ℕ → State → Result T E → State → Type 0
IsStep at bytes old result state = IsWriting at bytes old state ⊎ (IsOk result × (state ≡ synced (written at bytes old)))

-- a write that has not begun is one of these
writing_none : (at : ℕ) (bytes : List ℕ) (state : State) → IsWriting at bytes state state
writing_none at bytes state = record { base = refl; seen = inl refl; ranges = inl refl }

-- so is one that has begun
writing_begun : (at : ℕ) (bytes : List ℕ) (state : State) → IsWriting at bytes state (begun at bytes state)
writing_begun at [] state = record { base = refl; seen = inl refl; ranges = inr refl }
writing_begun at (byte ∷ bytes) state = record { base = refl; seen = inl refl; ranges = inr refl }

-- and one that is done
writing_written : (at : ℕ) (bytes : List ℕ) (state : State) → IsWriting at bytes state (written at bytes state)
writing_written at [] state = record { base = refl; seen = inr refl; ranges = inr refl }
writing_written at (byte ∷ bytes) state = record { base = refl; seen = inr refl; ranges = inr refl }

-- the write or its sync failed, and each state that was added is as within the write
fails_step : {T E : Type 0} (at : ℕ) (bytes : List ℕ) (old added : List State) (result : Result T E) → IsErr result →
    All (IsWriting at bytes (present old)) added → IsWriting at bytes (present old) (present (old ++ added)) →
    AddsSynced at bytes old (old ++ added) result
fails_step at bytes old added (Ok done) failed all last = cc
fails_step at bytes old added (Err fault) failed all last = record {
  extends = take_at old added (length old) refl;
  within = λ moment since within. inl (each_since old added (IsWriting at bytes (present old)) (writing_none at bytes (present old)) all moment since within);
  ends = last;
}

-- the write and its sync succeeded, and the last state that was added is what the write makes of the one before, synced
done_step : {T E : Type 0} (at : ℕ) (bytes : List ℕ) (old added : List State) (last : State) (result : Result T E) → IsOk result →
    All (IsWriting at bytes (present old)) added → last ≡ synced (written at bytes (present old)) →
    present (old ++ (added ++ last ∷ [])) ≡ last → AddsSynced at bytes old (old ++ (added ++ last ∷ [])) result
done_step at bytes old added last (Err fault) done all is ends = cc
done_step {T = T} {E = E} at bytes old added last (Ok value) done all is ends =
    let result : Result T E = Ok value in
    let P : State → Type 0 = λ state. IsStep at bytes (present old) result state in
    let each : All P (added ++ last ∷ []) =
    All-push P added last (All-weaker (IsWriting at bytes (present old)) P (λ state writing. inl writing) added all) (inr (refl, is)) in
    record {
      extends = take_at old (added ++ last ∷ []) (length old) refl;
      within = λ moment since within. each_since old (added ++ last ∷ []) P (inl (writing_none at bytes (present old))) each moment since within;
      ends = ends ∙ is;
    }

-- nothing was added
stays_step : {T E : Type 0} (at : ℕ) (bytes : List ℕ) (states : List State) (result : Result T E) → IsErr result → AddsSynced at bytes states states result
stays_step at bytes states result failed =
    let none = append-nil states in
    let writing = writing_none at bytes (present states) in
    subst (λ new. AddsSynced at bytes states new result) none
    (fails_step at bytes states [] result failed (All-nil (IsWriting at bytes (present states)))
    (subst (λ new. IsWriting at bytes (present states) (present new)) (sym none) writing))

-- two states that are as within a write, of a write that failed
two_step : {T E : Type 0} (at : ℕ) (bytes : List ℕ) (old : List State) (first second : State) (result : Result T E) → IsErr result →
    IsWriting at bytes (present old) first → IsWriting at bytes (present old) second →
    AddsSynced at bytes old (old ++ first ∷ second ∷ []) result
two_step at bytes old first second result failed in_first in_second =
    let P = IsWriting at bytes (present old) in
    fails_step at bytes old (first ∷ second ∷ []) result failed
    (All-cons P first (second ∷ []) in_first (All-cons P second [] in_second (All-nil P)))
    (subst P (sym (present_added old first second)) in_second)

-- a write failed
pub write_failed : {T E : Type 0} (at : ℕ) (bytes : List ℕ) (old new : Option (List State)) (result : Result T E) → IsErr result →
    AddsTwo (begun at bytes) (begun at bytes) old new ⊎ Stays old new → WritesSynced at bytes old new result
write_failed at bytes old None result failed adds = tt
write_failed at bytes None (Some new) result failed (inl adds) = absurd adds
write_failed at bytes None (Some new) result failed (inr stays) = cc
write_failed at bytes (Some old) (Some new) result failed (inl adds) =
    let writing = writing_begun at bytes (present old) in
    subst (λ new. AddsSynced at bytes old new result) (sym adds)
    (two_step at bytes old (begun at bytes (present old)) (begun at bytes (present old)) result failed writing writing)
write_failed at bytes (Some old) (Some new) result failed (inr stays) =
    let same : old ≡ new = cc in
    subst (λ new. AddsSynced at bytes old new result) same (stays_step at bytes old result failed)

-- the states within a write that succeeded
abbrev within_write : ℕ → List ℕ → State → List State
within_write at bytes state = begun at bytes state ∷ written at bytes state ∷ written at bytes state ∷ []

-- each state within a write that succeeded is one as within a write
all_within_write : (at : ℕ) (bytes : List ℕ) (state : State) → All (IsWriting at bytes state) (within_write at bytes state)
all_within_write at bytes state =
    let P = IsWriting at bytes state in
    let is = writing_written at bytes state in
    All-cons P (begun at bytes state) (written at bytes state ∷ written at bytes state ∷ []) (writing_begun at bytes state)
    (All-cons P (written at bytes state) (written at bytes state ∷ []) is (All-cons P (written at bytes state) [] is (All-nil P)))

-- the states after a write that succeeded, and then two more
then_two : (at : ℕ) (bytes : List ℕ) (old mid new : List State) (second : State → State) →
    mid ≡ old ++ begun at bytes (present old) ∷ written at bytes (present old) ∷ [] → new ≡ mid ++ present mid ∷ second (present mid) ∷ [] →
    new ≡ old ++ (within_write at bytes (present old) ++ second (written at bytes (present old)) ∷ [])
then_two at bytes old mid new second wrote adds =
    let first = begun at bytes (present old) in
    let over = written at bytes (present old) in
    let last : present mid ≡ over = ap present wrote ∙ present_added old first over in
    adds
    ∙ ap (λ last. mid ++ last ∷ second last ∷ []) last
    ∙ ap (λ mid. mid ++ over ∷ second over ∷ []) wrote
    ∙ append_assoc old (first ∷ over ∷ []) (over ∷ second over ∷ [])

-- the last of them is the second
then_last : (at : ℕ) (bytes : List ℕ) (old : List State) (last : State) → present (old ++ (within_write at bytes (present old) ++ last ∷ [])) ≡ last
then_last at bytes old last =
    let first = begun at bytes (present old) in
    let over = written at bytes (present old) in
    ap present (sym (append_assoc old (first ∷ over ∷ []) (over ∷ last ∷ []))) ∙ present_added (old ++ first ∷ over ∷ []) over last

-- a write succeeded, and its sync failed
sync_fails_step : {T E : Type 0} (at : ℕ) (bytes : List ℕ) (old mid new : List State) (result : Result T E) → IsErr result →
    mid ≡ old ++ begun at bytes (present old) ∷ written at bytes (present old) ∷ [] →
    (new ≡ mid ++ present mid ∷ present mid ∷ []) ⊎ (mid ≡ new) → AddsSynced at bytes old new result
sync_fails_step at bytes old mid new result failed wrote (inl adds) =
    let over = written at bytes (present old) in
    let P = IsWriting at bytes (present old) in
    let writing = writing_written at bytes (present old) in
    subst (λ new. AddsSynced at bytes old new result) (sym (then_two at bytes old mid new unchanged wrote adds))
    (fails_step at bytes old (within_write at bytes (present old) ++ over ∷ []) result failed
    (All-push P (within_write at bytes (present old)) over (all_within_write at bytes (present old)) writing)
    (subst P (sym (then_last at bytes old over)) writing))
sync_fails_step at bytes old mid new result failed wrote (inr same) =
    subst (λ new. AddsSynced at bytes old new result) (sym wrote ∙ same)
    (two_step at bytes old (begun at bytes (present old)) (written at bytes (present old)) result failed
    (writing_begun at bytes (present old)) (writing_written at bytes (present old)))

-- a write that succeeded, and then a sync that failed, leave what a write with its sync leaves where it fails
pub sync_failed : {T E : Type 0} (at : ℕ) (bytes : List ℕ) (old mid new : Option (List State)) (result : Result T E) → IsErr result →
    AddsTwo (begun at bytes) (written at bytes) old mid → AddsTwo unchanged unchanged mid new ⊎ Stays mid new → WritesSynced at bytes old new result
sync_failed at bytes old mid None result failed wrote adds = tt
sync_failed at bytes old None (Some new) result failed wrote (inl adds) = absurd adds
sync_failed at bytes old None (Some new) result failed wrote (inr stays) = cc
sync_failed at bytes None (Some mid) (Some new) result failed wrote adds = absurd wrote
sync_failed at bytes (Some old) (Some mid) (Some new) result failed wrote adds =
    sync_fails_step at bytes old mid new result failed wrote (⊎_elim (λ adds. inl adds) (λ (stays : Some mid ≡ Some new). inr cc) adds)

-- a write and its sync succeeded
pub both_done : {T E : Type 0} (at : ℕ) (bytes : List ℕ) (old mid new : Option (List State)) (result : Result T E) → IsOk result →
    AddsTwo (begun at bytes) (written at bytes) old mid → AddsTwo unchanged synced mid new → WritesSynced at bytes old new result
both_done at bytes old mid None result done wrote adds = tt
both_done at bytes old None (Some new) result done wrote adds = absurd adds
both_done at bytes None (Some mid) (Some new) result done wrote adds = absurd wrote
both_done at bytes (Some old) (Some mid) (Some new) result done wrote adds =
    let last = synced (written at bytes (present old)) in
    subst (λ new. AddsSynced at bytes old new result) (sym (then_two at bytes old mid new synced wrote adds))
    (done_step at bytes old (within_write at bytes (present old)) last result done
    (all_within_write at bytes (present old)) refl (then_last at bytes old last))

-- a write and a sync that succeeded are one write and one sync
pub one_write : (at : ℕ) (bytes : List ℕ) (old mid new : Option (List State)) →
    AddsTwo (begun at bytes) (written at bytes) old mid → AddsTwo unchanged synced mid new → AddsOneWrite at bytes old new
one_write at bytes old mid None wrote adds = tt
one_write at bytes old None (Some new) wrote adds = absurd adds
one_write at bytes None (Some mid) (Some new) wrote adds = absurd wrote
one_write at bytes (Some old) (Some mid) (Some new) wrote adds = then_two at bytes old mid new synced wrote adds
