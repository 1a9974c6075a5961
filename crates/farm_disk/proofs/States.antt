-- The states of a disk, one after another.
use Rattle.std.proofs.Common.{◌≡◌, ◌+◌, ◌-◌, ◌<◌, List, [], ◌∷◌, ◌++◌, length, ap, ◌∙◌, arith, length-append, sym, subst, Some, None}
use Rattle.std.proofs.lemmas.List.{get_or_append_left, get_or-append-add}
use Rattle.farm_disk.specs.Images.{State, at_rest, present, state_at, IsCrashImage, synced}
use Rattle.farm_disk.specs.Laws.{AddedIsPresent, PastStays, SyncLeavesOne}
use Rattle.farm_disk.proofs.Images.{synced_is_one}

-- of states to which two were added the second is the present one
pub added_is_present : AddedIsPresent
added_is_present states first second =
    let last : length (states ++ first ∷ second ∷ []) - 1 ≡ length states + 1 =
    omega (arith, length-append states (first ∷ second ∷ [])) in
    ap (λ moment. state_at (states ++ first ∷ second ∷ []) moment) last
    ∙ get_or-append-add states (first ∷ second ∷ []) 1 (at_rest [])

-- after a good sync a crash leaves what reads give
pub sync_leaves_one : SyncLeavesOne
sync_leaves_one old None added = tt
sync_leaves_one None (Some new) added = absurd added
sync_leaves_one (Some old) (Some new) added = λ image is.
    let now : present new ≡ synced (present old) = ap present added ∙ added_is_present old (present old) (synced (present old)) in
    synced_is_one (present old) image (subst (λ state. IsCrashImage state image) now is) ∙ ap (λ state. state.seen) (sym now)

-- states that were added leave those of earlier moments
pub past_stays : PastStays
past_stays states added moment within = get_or_append_left states added (at_rest []) moment within

-- a state before others leaves the present one
pub present_after : (first : State) (states : List State) → 0 < length states → present (first ∷ states) ≡ present states
present_after first states some =
    let last : length (first ∷ states) - 1 ≡ 1 + (length states - 1) = omega arith in
    ap (λ moment. state_at (first ∷ states) moment) last ∙ get_or-append-add (first ∷ []) states (length states - 1) (at_rest [])
