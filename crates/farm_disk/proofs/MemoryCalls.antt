-- What the calls of a disk in memory add to its states.
use Rattle.std.proofs.Common.{◌≡◌, inl, ℕ, ◌-◌, ◌*◌, ◌≤◌, Bool, true, false, List, [], ◌∷◌, ◌++◌, length, min, take, drop, sym, ap, ◌∙◌, arith, Some, Result, Ok, Err, is_ok}
use Rattle.farm_disk.specs.Calls.{AddsTwo, MeasuresSeen, Passes, ReadsSeen, Syncs, Writes}
use Rattle.farm_disk.specs.Images.{present}
use Rattle.farm_disk.specs.Memory.{call_begun, call_over, seen_of, states_of}
use Rattle.farm_disk.specs.declared.disk_call.DiskCall.{DiskCall}
use Rattle.farm_disk.specs.declared.disk_call.DiskCall.TheVariants.{Write, Sync}
use Rattle.farm_disk.proofs.Replay.{length-states_of, seen_is, states_of_more}

-- a call that was kept is two states more
kept_adds : (start now : List ℕ) (old new : List DiskCall) (call : DiskCall) → now ≡ start → new ≡ old ++ call ∷ [] →
    AddsTwo (call_begun call) (call_over call) (Some (states_of start old)) (Some (states_of now new))
kept_adds start now old new call same kept =
    ap (λ start. states_of start new) same ∙ ap (λ calls. states_of start calls) kept ∙ states_of_more start old call

-- a write that was kept as it was answered
pub kept_write : {T E : Type 0} (start now : List ℕ) (old new : List DiskCall) (at : ℕ) (bytes : List ℕ) (done : Bool) (answer : Result T E) →
    now ≡ start → new ≡ old ++ Write at bytes done ∷ [] → done ≡ is_ok answer →
    Writes (Some (states_of start old)) (Some (states_of now new)) at bytes answer
kept_write start now old new at bytes true (Ok value) same kept is = kept_adds start now old new (Write at bytes true) same kept
kept_write start now old new at bytes false (Ok value) same kept is = cc
kept_write start now old new at bytes true (Err fault) same kept is = cc
kept_write start now old new at bytes false (Err fault) same kept is = inl (kept_adds start now old new (Write at bytes false) same kept)

-- a sync that was kept as it was answered
pub kept_sync : {T E : Type 0} (start now : List ℕ) (old new : List DiskCall) (done : Bool) (answer : Result T E) →
    now ≡ start → new ≡ old ++ Sync done ∷ [] → done ≡ is_ok answer →
    Syncs (Some (states_of start old)) (Some (states_of now new)) answer
kept_sync start now old new true (Ok value) same kept is = kept_adds start now old new (Sync true) same kept
kept_sync start now old new false (Ok value) same kept is = cc
kept_sync start now old new true (Err fault) same kept is = cc
kept_sync start now old new false (Err fault) same kept is = inl (kept_adds start now old new (Sync false) same kept)

-- the moment moves with the calls
pub kept_passes : (start now : List ℕ) (old new : List DiskCall) → length old ≤ length new →
    Passes (Some (states_of start old)) (Some (states_of now new)) (2 * length old) (2 * length new)
kept_passes start now old new more = record {
  never_falls = omega arith;
  with_states = omega (arith, length-states_of start old, length-states_of now new);
}

-- the length of what reads give
pub kept_measures : (start now : List ℕ) (old new : List DiskCall) (seen : List ℕ) →
    now ≡ start → new ≡ old → seen ≡ seen_of now new →
    MeasuresSeen (Some (states_of start old)) (Some (states_of now new)) (length seen)
kept_measures start now old new seen same kept is = record {
  stays = ap Some (ap (λ start. states_of start old) (sym same) ∙ ap (λ calls. states_of now calls) (sym kept));
  size_is = ap length (is ∙ sym (seen_is now new));
}

-- a copy out of what reads give
pub kept_reads : (start now : List ℕ) (old new : List DiskCall) (seen : List ℕ) (at : ℕ) (before buffer : List ℕ) (count : ℕ) →
    now ≡ start → new ≡ old → seen ≡ seen_of now new → length buffer ≡ length before →
    count ≡ min (length before) (length seen - at) → take count buffer ≡ take count (drop at seen) →
    ReadsSeen (Some (states_of start old)) (Some (states_of now new)) at buffer count
kept_reads start now old new seen at before buffer count same kept is room whole copied =
    let given : seen ≡ (present (states_of now new)).seen = is ∙ sym (seen_is now new) in
    record {
      stays = ap Some (ap (λ start. states_of start old) (sym same) ∙ ap (λ calls. states_of now calls) (sym kept));
      within = omega arith;
      bytes = copied ∙ ap (λ bytes. take count (drop at bytes)) given;
      at_end = λ none some. omega (arith, ap length given);
    }
