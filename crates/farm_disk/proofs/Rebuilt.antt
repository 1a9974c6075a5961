-- What is rebuilt of a disk in memory at a moment is among what a crash may leave then.
use Rattle.std.proofs.Common.{◌≡◌, ◌⊎◌, inl, inr, ⊎_elim, ℕ, zero, suc, ◌+◌, ◌-◌, ◌*◌, ◌<◌, ◌≤◌, max, nat_lt, Bool, true, false, List, [], ◌∷◌, length, get_or, sym, ap, ◌∙◌, refl, subst, arith}
use Rattle.std.proofs.Math.ListN.{replicate}
use Rattle.std.proofs.lemmas.Bool.{cases_lt}
use Rattle.std.proofs.lemmas.Bool.Decides.{nat_tests}
use Rattle.std.proofs.lemmas.List.{get_or-replicate, length-replicate}
use Rattle.farm_disk.specs.Images.{IsCrashImage, IsWritten, Range, State, at_rest, begun, overlaid, reach_from, state_at, synced, written}
use Rattle.farm_disk.specs.Memory.{MemState, call_begun, call_over, state_after, states_of, states_through}
use Rattle.farm_disk.specs.Rebuilt.{IsCoveredBy, IsFilled, all_written, as_found, filled, found_at, image_by, rebuilt, seen_by}
use Rattle.farm_disk.specs.declared.disk_call.DiskCall.{DiskCall}
use Rattle.farm_disk.specs.declared.disk_call.DiskCall.TheVariants.{Write, Sync}
use Rattle.farm_disk.specs.declared.crash_fill.Fill.{Fill}
use Rattle.farm_disk.specs.declared.crash_fill.Fill.TheVariants.{Old, New, Byte}
use Rattle.farm_disk.proofs.Images.{begun_keeps_images, begun_seen, length-overlaid, overlaid_after, overlaid_before, overlaid_beside, overlaid_gap, overlaid_here, overlaid_is_image, synced_is_image, written_is_image}

-- at the first moment no call has begun
found_none : (calls : List DiskCall) → found_at calls 0 ≡ []
found_none [] = refl
found_none (call ∷ calls) = refl

-- one call on, of which two moments pass
pub found_step : (fill : Fill) (seen image : List ℕ) (call : DiskCall) (calls : List DiskCall) (left : ℕ) → 0 < left →
    rebuilt fill seen image (found_at (call ∷ calls) left) ≡
    rebuilt fill (seen_by (as_found (nat_lt 1 left) call) seen) (image_by fill (as_found (nat_lt 1 left) call) seen image)
    (found_at calls (left - 2))
found_step fill seen image call calls zero some = absurd (omega arith)
found_step fill seen image call calls (suc zero) some =
    ap (λ found. rebuilt fill (seen_by (as_found false call) seen) (image_by fill (as_found false call) seen image) found)
    (sym (found_none calls))
found_step fill seen image call calls (suc (suc moment)) some =
    let over : nat_lt 1 (suc (suc moment)) ≡ true = grind (arith, nat_tests) in
    let rest : suc (suc moment) - 2 ≡ moment = omega arith in
    rw (over, rest) refl

-- one call on, by what was done with it
pub found_on : (fill : Fill) (calls rest : List DiskCall) (call : DiskCall) (seen image seen-now image-now : List ℕ) (left left-now : ℕ) (over : Bool) →
    calls ≡ call ∷ rest → 0 < left → over ≡ nat_lt 1 left → left-now ≡ left - 2 →
    seen-now ≡ seen_by (as_found over call) seen → image-now ≡ image_by fill (as_found over call) seen image →
    rebuilt fill seen-now image-now (found_at rest left-now) ≡ rebuilt fill seen image (found_at calls left)
found_on fill calls rest call seen image seen-now image-now left left-now over split some is less sees leaves =
    rw (split, sees, leaves, is, less) (sym (found_step fill seen image call rest left some))

-- a call that has only begun is one that isn't done
begun_is : (call : DiskCall) (state : State) → call_begun call state ≡ call_over (as_found false call) state
begun_is (Write at bytes done) state = refl
begun_is (Sync done) state = refl

-- the state at a moment follows from the calls that a crash finds then
found_state : (state : State) (calls : List DiskCall) (moment : ℕ) → moment ≤ 2 * length calls →
    state_at (states_through state calls) moment ≡ state_after state (found_at calls moment)
found_state state [] zero within = refl
found_state state [] (suc moment) within = absurd (omega arith)
found_state state (call ∷ calls) zero within = refl
found_state state (call ∷ calls) (suc zero) within = begun_is call state
found_state state (call ∷ calls) (suc (suc moment)) within = found_state (call_over call state) calls moment (omega arith)

-- what a fill leaves where a write has begun is among what a crash may leave then
filled_is_image : (fill : Fill) (at : ℕ) (bytes : List ℕ) (state : State) (image : List ℕ) → IsCrashImage state image →
    IsCrashImage (begun at bytes state) (filled fill at bytes image)
unfolding overlaid
filled_is_image Old at bytes state image is = begun_keeps_images state at bytes image is
filled_is_image New at bytes state image is = written_is_image state at bytes image is
filled_is_image (Byte value) at [] state image is = is
filled_is_image (Byte value) at (byte ∷ bytes) state image is =
    let size = length (byte ∷ bytes) in
    overlaid_is_image value at size (replicate size value) state image (omega arith) (length-replicate size value) is

-- what is rebuilt is among what a crash may leave after the calls
rebuilt_is_image : (fill : Fill) (state : State) (image : List ℕ) (calls : List DiskCall) → IsCrashImage state image →
    IsCrashImage (state_after state calls) (rebuilt fill state.seen image calls)
rebuilt_is_image fill state image [] is = is
rebuilt_is_image fill state image (Write at bytes true ∷ calls) is =
    let now = filled_is_image fill at bytes state image is in
    rebuilt_is_image fill (written at bytes state) (filled fill at bytes image) calls
    (record { least = now.least; most = now.most; kept = now.kept })
rebuilt_is_image fill state image (Write at bytes false ∷ calls) is =
    subst (λ seen. IsCrashImage (state_after (begun at bytes state) calls) (rebuilt fill seen (filled fill at bytes image) calls))
    (begun_seen at bytes state)
    (rebuilt_is_image fill (begun at bytes state) (filled fill at bytes image) calls (filled_is_image fill at bytes state image is))
rebuilt_is_image fill state image (Sync true ∷ calls) is =
    rebuilt_is_image fill (synced state) state.seen calls (synced_is_image state)
rebuilt_is_image fill state image (Sync false ∷ calls) is = rebuilt_is_image fill state image calls is

-- the old bytes are the base
rebuilt_old : (state : State) (calls : List DiskCall) → rebuilt Old state.seen state.base calls ≡ (state_after state calls).base
rebuilt_old state [] = refl
rebuilt_old state (Write at [] true ∷ calls) = rebuilt_old (written at [] state) calls
rebuilt_old state (Write at (byte ∷ bytes) true ∷ calls) = rebuilt_old (written at (byte ∷ bytes) state) calls
rebuilt_old state (Write at [] false ∷ calls) = rebuilt_old state calls
rebuilt_old state (Write at (byte ∷ bytes) false ∷ calls) = rebuilt_old (begun at (byte ∷ bytes) state) calls
rebuilt_old state (Sync true ∷ calls) = rebuilt_old (synced state) calls
rebuilt_old state (Sync false ∷ calls) = rebuilt_old state calls

-- the new bytes are those that reads would give if each begun write had happened
rebuilt_new : (calls : List DiskCall) (seen image : List ℕ) → rebuilt New seen image calls ≡ all_written seen image calls
rebuilt_new [] seen image = refl
rebuilt_new (Write at bytes done ∷ calls) seen image = rebuilt_new calls _ _
rebuilt_new (Sync done ∷ calls) seen image = rebuilt_new calls _ _

-- before a write that has begun, the image has the value wherever a crash may leave any byte
covered_before : (value at : ℕ) (bytes : List ℕ) (state : State) (image : List ℕ) (i : ℕ) → 0 < length bytes →
    IsCoveredBy value state image → i < at → (length state.base ≤ i) ⊎ IsWritten state.ranges i →
    get_or (overlaid value at bytes image) i 0 ≡ value
covered_before value at bytes state image i some is before free =
    ⊎_elim (λ within. overlaid_before value at bytes image i within before ∙ is.covered i within free)
    (λ past. overlaid_gap value at bytes image i some past before) (cases_lt i (length image))

-- so it has where the write goes
covered_here : (value at size : ℕ) (image : List ℕ) (i : ℕ) → at ≤ i → i < at + size →
    get_or (overlaid value at (replicate size value) image) i 0 ≡ value
covered_here value at size image i from within =
    let place : i ≡ at + (i - at) = omega arith in
    ap (λ place. get_or (overlaid value at (replicate size value) image) place 0) place
    ∙ overlaid_here value at (replicate size value) image (i - at) (omega (arith, length-replicate size value))
    ∙ get_or-replicate size (i - at) value 0 (omega arith)

-- past the write that has begun a position is as it was before
free_after : (at size : ℕ) (state : State) (i : ℕ) → at + size ≤ i →
    (length state.base ≤ i) ⊎ IsWritten (record { at = at; size = size } ∷ state.ranges) i →
    (length state.base ≤ i) ⊎ IsWritten state.ranges i
free_after at size state i after (inl past) = inl past
free_after at size state i after (inr (inl here)) = absurd (omega (arith, here.1))
free_after at size state i after (inr (inr before)) = inr before

-- before the write that has begun too
free_before : (at size : ℕ) (state : State) (i : ℕ) → i < at →
    (length state.base ≤ i) ⊎ IsWritten (record { at = at; size = size } ∷ state.ranges) i →
    (length state.base ≤ i) ⊎ IsWritten state.ranges i
free_before at size state i before (inl past) = inl past
free_before at size state i before (inr (inl here)) = absurd (omega (arith, here.0))
free_before at size state i before (inr (inr earlier)) = inr earlier

-- writes reach no less far than the base
pub reach_least : (least : ℕ) (ranges : List Range) → least ≤ reach_from least ranges
reach_least least [] = omega arith
reach_least least (range ∷ ranges) = omega (arith, reach_least least ranges)

-- one value wherever a crash may leave any byte, once a write has begun
covered_more : (value at : ℕ) (bytes : List ℕ) (state : State) (image : List ℕ) → IsCoveredBy value state image →
    IsCoveredBy value (begun at bytes state) (overlaid value at (replicate (length bytes) value) image)
unfolding overlaid
covered_more value at [] state image is = is
covered_more value at (byte ∷ bytes) state image is =
    let size = length (byte ∷ bytes) in
    let cover = replicate size value in
    let some : 0 < length cover = omega (arith, length-replicate size value) in
    let reached : length (overlaid value at cover image) ≡ max (length image) (at + size) =
    length-overlaid value at cover image some ∙ ap (λ size. max (length image) (at + size)) (length-replicate size value) in
    record {
      size = omega (arith, reached, is.size);
      kept = λ i within free.
          overlaid_beside value at cover image i (omega (arith, is.size, reach_least (length state.base) state.ranges))
          (λ here. free (inl (here.0, omega (arith, here.1, length-replicate size value))))
          ∙ is.kept i within (λ before. free (inr before));
      covered = λ i within free.
          ⊎_elim (λ before. covered_before value at cover state image i some is before (free_before at size state i before free))
          (λ from. ⊎_elim (λ here. covered_here value at size image i from here)
          (λ after. overlaid_after value at cover image i (omega (arith, length-replicate size value))
          ∙ is.covered i (omega (arith, reached)) (free_after at size state i after free)) (cases_lt i (at + size)))
          (cases_lt i at);
    }

-- after a good sync a crash leaves no byte that it may leave any
covered_synced : (value : ℕ) (state : State) → IsCoveredBy value (synced state) state.seen
covered_synced value state = record {
  size = refl;
  kept = λ position within free. refl;
  covered = λ position within or. ⊎_elim (λ past. absurd (omega arith)) (λ never. absurd never) or;
}

-- one value wherever a crash may leave any byte
rebuilt_byte : (value : ℕ) (state : State) (image : List ℕ) (calls : List DiskCall) → IsCoveredBy value state image →
    IsCoveredBy value (state_after state calls) (rebuilt (Byte value) state.seen image calls)
rebuilt_byte value state image [] is = is
rebuilt_byte value state image (Write at bytes true ∷ calls) is =
    let now = covered_more value at bytes state image is in
    rebuilt_byte value (written at bytes state) _ calls (record { size = now.size; kept = now.kept; covered = now.covered })
rebuilt_byte value state image (Write at bytes false ∷ calls) is =
    let now = overlaid value at (replicate (length bytes) value) image in
    subst (λ seen. IsCoveredBy value (state_after (begun at bytes state) calls) (rebuilt (Byte value) seen now calls))
    (begun_seen at bytes state)
    (rebuilt_byte value (begun at bytes state) now calls (covered_more value at bytes state image is))
rebuilt_byte value state image (Sync true ∷ calls) is = rebuilt_byte value (synced state) state.seen calls (covered_synced value state)
rebuilt_byte value state image (Sync false ∷ calls) is = rebuilt_byte value state image calls is

-- the state at a moment of a disk in memory
state_found : (start : List ℕ) (calls : List DiskCall) (moment : ℕ) → moment ≤ 2 * length calls →
    state_at (states_of start calls) moment ≡ state_after (at_rest start) (found_at calls moment)
unfolding states_of
state_found start calls moment within = found_state (at_rest start) calls moment within

-- what is rebuilt at a moment is among what a crash may leave then
pub image_is_image : (fill : Fill) (start : List ℕ) (calls : List DiskCall) (moment : ℕ) (image : List ℕ) → moment ≤ 2 * length calls →
    image ≡ rebuilt fill start start (found_at calls moment) → IsCrashImage (state_at (states_of start calls) moment) image
image_is_image fill start calls moment image within is =
    subst (λ state. IsCrashImage state image) (sym (state_found start calls moment within))
    (subst (λ image. IsCrashImage (state_after (at_rest start) (found_at calls moment)) image) (sym is)
    (rebuilt_is_image fill (at_rest start) start (found_at calls moment) (synced_is_image (at_rest start))))

-- and it is the one that the fill names
pub image_is_filled : (fill : Fill) (disk : MemState) (moment : ℕ) (image : List ℕ) → moment ≤ 2 * length disk.calls →
    image ≡ rebuilt fill disk.start disk.start (found_at disk.calls moment) → IsFilled fill disk moment image
image_is_filled Old disk moment image within is =
    is ∙ rebuilt_old (at_rest disk.start) (found_at disk.calls moment)
    ∙ ap (λ state. state.base) (sym (state_found disk.start disk.calls moment within))
image_is_filled New disk moment image within is = is ∙ rebuilt_new (found_at disk.calls moment) disk.start disk.start
image_is_filled (Byte value) disk moment image within is =
    subst (λ state. IsCoveredBy value state image) (sym (state_found disk.start disk.calls moment within))
    (subst (λ image. IsCoveredBy value (state_after (at_rest disk.start) (found_at disk.calls moment)) image) (sym is)
    (rebuilt_byte value (at_rest disk.start) disk.start (found_at disk.calls moment) (covered_synced value (at_rest disk.start))))
