-- The states of a disk in memory follow from the bytes at the start, one call after another.
use Rattle.std.proofs.Common.{◌≡◌, ℕ, ◌+◌, ◌*◌, ◌<◌, Bool, true, false, List, [], ◌∷◌, ◌++◌, length, sym, ap, ◌∙◌, refl, subst, arith}
use Rattle.farm_disk.specs.Images.{IsCrashImage, State, at_rest, begun, present, written_at}
use Rattle.farm_disk.specs.Memory.{call_begun, call_over, seen_of, state_after, states_of, states_through}
use Rattle.farm_disk.specs.declared.disk_call.DiskCall.{DiskCall}
use Rattle.farm_disk.specs.declared.disk_call.DiskCall.TheVariants.{Write, Sync}
use Rattle.farm_disk.proofs.Images.{begun_keeps_images, begun_seen, synced_is_image, written_is_image}
use Rattle.farm_disk.proofs.States.{present_after}

-- each call takes two moments
length-states_through : (state : State) (calls : List DiskCall) → length (states_through state calls) ≡ 2 * length calls + 1
length-states_through state [] = refl
length-states_through state (call ∷ calls) = omega (arith, length-states_through (call_over call state) calls)

-- the present state is the one after the last call
present_through : (state : State) (calls : List DiskCall) → present (states_through state calls) ≡ state_after state calls
present_through state [] = refl
present_through state (call ∷ calls) =
    let rest = states_through (call_over call state) calls in
    let some : 0 < length rest = omega (arith, length-states_through (call_over call state) calls) in
    let more : 0 < length (call_begun call state ∷ rest) = omega arith in
    present_after state (call_begun call state ∷ rest) more
    ∙ present_after (call_begun call state) rest some
    ∙ present_through (call_over call state) calls

-- one call more
state_after_more : (state : State) (calls : List DiskCall) (call : DiskCall) →
    state_after state (calls ++ call ∷ []) ≡ call_over call (state_after state calls)
state_after_more state [] call = refl
state_after_more state (first ∷ calls) call = state_after_more (call_over first state) calls call

-- one call more is two states more
through_more : (state : State) (calls : List DiskCall) (call : DiskCall) →
    states_through state (calls ++ call ∷ []) ≡
    states_through state calls ++ call_begun call (state_after state calls) ∷ call_over call (state_after state calls) ∷ []
through_more state [] call = refl
through_more state (first ∷ calls) call =
    ap (λ states. state ∷ call_begun first state ∷ states) (through_more (call_over first state) calls call)

-- what reads give once a call is over is among what a crash may leave then
over_is_image : (state : State) (call : DiskCall) → IsCrashImage state state.seen →
    IsCrashImage (call_over call state) (call_over call state).seen
over_is_image state (Write at bytes true) is =
    let image = written_is_image state at bytes state.seen is in
    record { least = image.least; most = image.most; kept = image.kept }
over_is_image state (Write at bytes false) is =
    subst (λ seen. IsCrashImage (begun at bytes state) seen) (sym (begun_seen at bytes state))
    (begun_keeps_images state at bytes state.seen is)
over_is_image state (Sync true) is = synced_is_image state
over_is_image state (Sync false) is = is

-- and so it is after any calls
after_is_image : (state : State) (calls : List DiskCall) → IsCrashImage state state.seen →
    IsCrashImage (state_after state calls) (state_after state calls).seen
after_is_image state [] is = is
after_is_image state (call ∷ calls) is = after_is_image (call_over call state) calls (over_is_image state call is)

-- each call of a disk in memory takes two moments
pub length-states_of : (start : List ℕ) (calls : List DiskCall) → length (states_of start calls) ≡ 2 * length calls + 1
unfolding states_of
length-states_of start calls = length-states_through (at_rest start) calls

-- its present state is the one after the last call
pub present_of : (start : List ℕ) (calls : List DiskCall) → present (states_of start calls) ≡ state_after (at_rest start) calls
unfolding states_of
present_of start calls = present_through (at_rest start) calls

-- what reads give is what its present state says
pub seen_is : (start : List ℕ) (calls : List DiskCall) → (present (states_of start calls)).seen ≡ seen_of start calls
unfolding seen_of
seen_is start calls = ap (λ state. state.seen) (present_of start calls)

-- one call more is two states more
pub states_of_more : (start : List ℕ) (calls : List DiskCall) (call : DiskCall) →
    states_of start (calls ++ call ∷ []) ≡
    states_of start calls ++ call_begun call (present (states_of start calls)) ∷ call_over call (present (states_of start calls)) ∷ []
unfolding states_of
states_of_more start calls call =
    through_more (at_rest start) calls call
    ∙ ap (λ state. states_through (at_rest start) calls ++ call_begun call state ∷ call_over call state ∷ [])
    (sym (present_through (at_rest start) calls))

-- what reads give is among what a crash may leave
pub present_is_image : (start : List ℕ) (calls : List DiskCall) →
    IsCrashImage (present (states_of start calls)) (present (states_of start calls)).seen
present_is_image start calls =
    subst (λ state. IsCrashImage state state.seen) (sym (present_of start calls))
    (after_is_image (at_rest start) calls (synced_is_image (at_rest start)))

-- a write that is done lets reads give what it wrote
pub seen_of_write : (start : List ℕ) (calls : List DiskCall) (at : ℕ) (bytes : List ℕ) →
    seen_of start (calls ++ Write at bytes true ∷ []) ≡ written_at at bytes (seen_of start calls)
unfolding seen_of
seen_of_write start calls at bytes = ap (λ state. state.seen) (state_after_more (at_rest start) calls (Write at bytes true))

-- a write that isn't done leaves what reads give
pub seen_of_failed : (start : List ℕ) (calls : List DiskCall) (at : ℕ) (bytes : List ℕ) →
    seen_of start (calls ++ Write at bytes false ∷ []) ≡ seen_of start calls
unfolding seen_of
seen_of_failed start calls at bytes =
    ap (λ state. state.seen) (state_after_more (at_rest start) calls (Write at bytes false))
    ∙ begun_seen at bytes (state_after (at_rest start) calls)

-- a sync leaves what reads give
pub seen_of_sync : (start : List ℕ) (calls : List DiskCall) (done : Bool) →
    seen_of start (calls ++ Sync done ∷ []) ≡ seen_of start calls
unfolding seen_of
seen_of_sync start calls true = ap (λ state. state.seen) (state_after_more (at_rest start) calls (Sync true))
seen_of_sync start calls false = ap (λ state. state.seen) (state_after_more (at_rest start) calls (Sync false))

-- the number of its states by its moment
pub stand_states : (start : List ℕ) (calls : List DiskCall) (moment : ℕ) → moment ≡ 2 * length calls →
    length (states_of start calls) ≡ moment + 1
stand_states start calls moment is = omega (arith, length-states_of start calls)
