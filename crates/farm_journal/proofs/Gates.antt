-- What a crash leaves of a journal's disk, by where its writes stand.
use Rattle.std.proofs.Common.{◌≡◌, ◌≢◌, inl, inr, ⊎_elim, ℕ, ◌+◌, ◌<◌, ◌≤◌, List, [], ◌∷◌, ◌++◌, length, get_or, set, take, drop, Option, Some, None, refl, sym, ap, ◌∙◌, subst, arith, append_assoc, length-append, get_or-set_same, get_or-set_other}
use Rattle.std.proofs.lemmas.Bool.{cases_eq}
use Rattle.std.proofs.lemmas.List.{ext_get_or, get_or-take, length-set, length-take-le, length_push, set_at, take-append-drop, take_at}
use Rattle.std.proofs.lemmas.List.Elements.{All-head, All-tail}
use Rattle.std.specs.Prelude.{All}
use Rattle.farm_base.specs.Known.{WhereKnown}
use Rattle.farm_disk.specs.Images.{IsCrashImage, IsWritten, Range, State, present, reach_from}
use Rattle.farm_disk.specs.Runs.{EachNow}
use Rattle.farm_journal.specs.Laws.{StandsOnEach}
use Rattle.farm_journal.specs.Layout.{IsJournalOf, IsShort, counting}
use Rattle.farm_journal.specs.Standing.{IsAnImage, IsAtRest, IsEither, IsKept, IsPending, with_open}
use Rattle.farm_journal.proofs.JournalBytes.{journal_of, parts_of, with_open_seam}

-- bytes that are the same up to a place have the same front
take_same : (n : ℕ) (xs ys : List ℕ) → n ≤ length xs → n ≤ length ys → ((i : ℕ) → i < n → get_or ys i 0 ≡ get_or xs i 0) → take n ys ≡ take n xs
take_same n xs ys in_xs in_ys same =
    ext_get_or 0 (take n ys) (take n xs) (length-take-le n ys in_ys ∙ sym (length-take-le n xs in_xs))
    (λ i within.
    let below : i < n = omega (arith, length-take-le n ys in_ys) in
    get_or-take n ys i 0 below ∙ same i below ∙ sym (get_or-take n xs i 0 below))

-- bytes that are the same up to the gate are the same journal
same_journal : (header : List ℕ) (bodies : List (List ℕ)) (old new : List ℕ) → IsJournalOf header bodies old → length old ≤ length new →
    ((i : ℕ) → i ≤ length (counting header bodies) → i < length old → get_or new i 0 ≡ get_or old i 0) → IsJournalOf header bodies new
same_journal header bodies old new is longer same =
    let parts = parts_of header bodies old is in
    let front = counting header bodies in
    let past = length front + 1 in
    let ends : length (front ++ parts.gate ∷ []) ≡ past = length_push front parts.gate in
    let within : past ≤ length old = omega (arith, ap length parts.split, length-append front (parts.gate ∷ parts.rest)) in
    let begins : take past new ≡ front ++ parts.gate ∷ [] =
    take_same past old new within (omega arith) (λ i below. same i (omega arith) (omega arith))
    ∙ ap (λ bytes. take past bytes) (parts.split ∙ sym (append_assoc front (parts.gate ∷ []) parts.rest))
    ∙ take_at (front ++ parts.gate ∷ []) parts.rest past ends in
    journal_of header bodies new parts.gate (drop past new)
    (sym (take-append-drop past new) ∙ ap (λ bytes. bytes ++ drop past new) begins ∙ append_assoc front (parts.gate ∷ []) (drop past new))
    parts.closed is.short_header is.short_bodies

-- writes that start past the gate cover no place up to it
pub uncovered : (gate : ℕ) (ranges : List Range) → All (λ (range : Range). gate + 1 ≤ range.at) ranges → (i : ℕ) → i ≤ gate → IsWritten ranges i → ⊥
uncovered gate [] past i within covered = covered
uncovered gate (range ∷ ranges) past i within covered =
    let first : gate + 1 ≤ range.at = All-head (λ (range : Range). gate + 1 ≤ range.at) range ranges past in
    ⊎_elim (λ here. omega (arith, here.0, first))
    (uncovered gate ranges (All-tail (λ (range : Range). gate + 1 ≤ range.at) range ranges past) i within) covered

-- at rest a crash leaves a journal of the bodies
pub at_rest_image : (header : List ℕ) (bodies : List (List ℕ)) (state : State) (image : List ℕ) →
    IsAtRest header bodies state → IsCrashImage state image → IsJournalOf header bodies image
at_rest_image header bodies state image rest is =
    same_journal header bodies state.base image rest.base is.least
    (λ i within inside. is.kept i inside (uncovered (length (counting header bodies)) state.ranges rest.ranges i within))

-- a range is the gate's byte alone
abbrev pub IsGate : ℕ → Range → Type 0
IsGate gate range = (range.at ≡ gate) × (range.size ≡ 1)

-- writes of the gate alone cover no other place
pub other_uncovered : (gate : ℕ) (ranges : List Range) → All (IsGate gate) ranges → (i : ℕ) → i ≢ gate → IsWritten ranges i → ⊥
other_uncovered gate [] at_gate i other covered = covered
other_uncovered gate (range ∷ ranges) at_gate i other covered =
    let first : IsGate gate range = All-head (IsGate gate) range ranges at_gate in
    ⊎_elim (λ here. other (omega (arith, here.0, here.1, first.0, first.1)))
    (other_uncovered gate ranges (All-tail (IsGate gate) range ranges at_gate) i other) covered

-- and reach no further than bytes that have the gate
pub gate_reach : (gate least : ℕ) (ranges : List Range) → gate < least → All (IsGate gate) ranges → reach_from least ranges ≡ least
gate_reach gate least [] within at_gate = refl
gate_reach gate least (range ∷ ranges) within at_gate =
    let first : IsGate gate range = All-head (IsGate gate) range ranges at_gate in
    omega (arith, first.0, first.1, gate_reach gate least ranges within (All-tail (IsGate gate) range ranges at_gate))

-- bytes that differ at one place at most
pub set_place : (place : ℕ) (old new : List ℕ) → place < length old → length new ≡ length old →
    ((i : ℕ) → i < length old → i ≢ place → get_or new i 0 ≡ get_or old i 0) → new ≡ set old place (get_or new place 0)
set_place place old new within long same =
    ext_get_or 0 new (set old place (get_or new place 0)) (long ∙ sym (length-set old place (get_or new place 0)))
    (λ i inside. ⊎_elim
    (λ here. ap (λ i. get_or new i 0) here
    ∙ sym (get_or-set_same old place (get_or new place 0) 0 within)
    ∙ ap (λ i. get_or (set old place (get_or new place 0)) i 0) (sym here))
    (λ other. same i (omega arith) other ∙ sym (get_or-set_other old place i (get_or new place 0) 0 other))
    (cases_eq i place))

-- with the gate at 1 or not
by_gate : (header : List ℕ) (bodies : List (List ℕ)) (body image : List ℕ) (gate : ℕ) (rest : List ℕ) →
    image ≡ counting header bodies ++ gate ∷ rest → IsShort header → All IsShort bodies →
    IsJournalOf header (bodies ++ body ∷ []) (counting header bodies ++ 1 ∷ rest) → IsEither header bodies body image
by_gate header bodies body image gate rest is short_header short_bodies opened =
    ⊎_elim
    (λ here. inr (subst (IsJournalOf header (bodies ++ body ∷ [])) (sym (is ∙ ap (λ gate. counting header bodies ++ gate ∷ rest) here)) opened))
    (λ closed. inl (journal_of header bodies image gate rest is closed short_header short_bodies))
    (cases_eq gate 1)

-- while a body is pending a crash leaves a journal of the bodies, or of these and that one
pub pending_image : (header : List ℕ) (bodies : List (List ℕ)) (body : List ℕ) (state : State) (image : List ℕ) →
    IsPending header bodies body state → IsCrashImage state image → IsEither header bodies body image
pending_image header bodies body state image pending is =
    let parts = parts_of header bodies state.base pending.base in
    let front = counting header bodies in
    let gate = length front in
    let within : gate < length state.base = omega (arith, ap length parts.split, length-append front (parts.gate ∷ parts.rest)) in
    let long : length image ≡ length state.base = omega (arith, is.least, is.most, gate_reach gate (length state.base) state.ranges within pending.ranges) in
    let same : image ≡ set state.base gate (get_or image gate 0) =
    set_place gate state.base image within long
    (λ i inside other. is.kept i inside (other_uncovered gate state.ranges pending.ranges i other)) in
    let split : image ≡ front ++ get_or image gate 0 ∷ parts.rest =
    same ∙ ap (λ bytes. set bytes gate (get_or image gate 0)) parts.split ∙ set_at front parts.gate parts.rest (get_or image gate 0) gate refl in
    let opened : with_open gate state.base ≡ front ++ 1 ∷ parts.rest =
    ap (λ bytes. with_open gate bytes) parts.split ∙ with_open_seam gate front parts.gate parts.rest refl in
    by_gate header bodies body image (get_or image gate 0) parts.rest split pending.base.short_header pending.base.short_bodies
    (subst (IsJournalOf header (bodies ++ body ∷ [])) opened pending.base_opened)

-- an open journal leaves its bodies, and with a body pending these or these and that one
kept_images : (header : List ℕ) (bodies : List (List ℕ)) (pending : Option (List ℕ)) (trace : Option (List State)) →
    WhereKnown trace (λ states. IsKept header bodies pending (present states)) → EachNow trace (IsAnImage header bodies pending)
kept_images header bodies pending None kept = tt
kept_images header bodies None (Some states) kept = λ image is. at_rest_image header bodies (present states) image kept is
kept_images header bodies (Some body) (Some states) kept = λ image is. pending_image header bodies body (present states) image kept is

-- so for every journal on a disk
pub stands_on_each : {D : Type 0} (trace : D → Option (List State)) → StandsOnEach trace
stands_on_each trace header bodies pending journal stands = kept_images header bodies pending (trace journal.disk) stands.kept
