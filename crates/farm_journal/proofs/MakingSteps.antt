-- The three synced writes in which a journal is made, one after another.
use Rattle.std.proofs.Common.{◌≡◌, ℕ, ◌<◌, List, [], ◌∷◌, length, Option, Some, None, Result, Ok, Err, IsOk, OnOk, inr, refl, sym, ap, ◌∙◌, subst}
use Rattle.farm_base.specs.Known.{WhereKnown}
use Rattle.farm_disk.specs.Images.{IsCrashImage, State, at_rest, present, synced, written}
use Rattle.farm_disk.specs.Runs.{EachNow, EachSince, Extends}
use Rattle.farm_journal.specs.Creating.{GivesNone, IsNoneOrEmpty, IsOpening}
use Rattle.farm_journal.specs.Standing.{IsAtRest}
use Rattle.farm_journal.specs.Steps.{IsWriting, WritesSynced}
use Rattle.farm_journal.proofs.Making.{closed_image, first_synced, first_writing, gate_synced, gate_writing, rest_synced, rest_writing}
use Rattle.farm_journal.proofs.Gates.{at_rest_image}
use Rattle.farm_journal.proofs.Putting.{adds_each, done_ends}

-- at Ok what follows from Ok
pub on_ok : {T E : Type 0} (result : Result T E) (P : Type 0) → (IsOk result → P) → OnOk result P
on_ok (Ok value) P all = all refl
on_ok (Err fault) P all = tt

-- a synced write keeps the states before
pub extends_of : {T E : Type 0} (at : ℕ) (bytes : List ℕ) (old new : Option (List State)) (result : Result T E) → WritesSynced at bytes old new result → Extends old new
extends_of at bytes old None result step = tt
extends_of at bytes None (Some new) result step = step
extends_of at bytes (Some old) (Some new) result step = step.extends

-- the last state is this one
abbrev pub IsNow : State → Option (List State) → Type 0
IsNow state trace = WhereKnown trace (λ states. present states ≡ state)

-- a synced write from a known state ends in what it makes
ends_in : {T E : Type 0} (at : ℕ) (bytes : List ℕ) (before after : State) (old new : Option (List State)) (result : Result T E) → IsOk result →
    IsNow before old → synced (written at bytes before) ≡ after → WritesSynced at bytes old new result → IsNow after new
ends_in at bytes before after old None result done now is step = tt
ends_in at bytes before after None (Some new) result done now is step = absurd step
ends_in at bytes before after (Some old) (Some new) result done now is step =
    done_ends at bytes old new result done step ∙ ap (λ state. synced (written at bytes state)) now ∙ is

-- each image over a synced write from a known state
each_from : {T E : Type 0} (at : ℕ) (bytes : List ℕ) (before after : State) (old new : Option (List State)) (result : Result T E) (P : List ℕ → Type 0) →
    IsNow before old → synced (written at bytes before) ≡ after →
    ((state : State) → IsWriting at bytes before state → (image : List ℕ) → IsCrashImage state image → P image) →
    ((image : List ℕ) → IsCrashImage after image → P image) → WritesSynced at bytes old new result → EachSince old new P
each_from at bytes before after old None result P now is during ends step = tt
each_from at bytes before after None (Some new) result P now is during ends step = step
each_from at bytes before after (Some old) (Some new) result P now is during ends step =
    adds_each at bytes old new result P step
    (λ state writing. during state (subst (λ before. IsWriting at bytes before state) now writing))
    (λ image left. ends image (subst (λ state. IsCrashImage state image) (ap (λ state. synced (written at bytes state)) now ∙ is) left))

module _ (header : List ℕ) where
  -- the closed gate, on a disk that gives no byte and leaves fewer than 13
  pub first_each : {T E : Type 0} (old new : Option (List State)) (result : Result T E) → GivesNone old → EachNow old (λ image. length image < 13) →
      WritesSynced 0 (0 ∷ []) old new result → EachSince old new (IsNoneOrEmpty header)
  first_each old None result none short step = tt
  first_each None (Some new) result none short step = step
  first_each (Some old) (Some new) result none short step =
      adds_each 0 (0 ∷ []) old new result (IsNoneOrEmpty header) step
      (λ state writing. first_writing header (present old) state short writing)
      (λ image left. closed_image header [] image (subst (λ state. IsCrashImage state image) (first_synced header (present old) none) left))

  -- and at its end the disk is at rest with the closed gate alone
  pub first_ends : {T E : Type 0} (old new : Option (List State)) (result : Result T E) → IsOk result → GivesNone old →
      WritesSynced 0 (0 ∷ []) old new result → IsNow (at_rest (0 ∷ [])) new
  first_ends old None result done none step = tt
  first_ends None (Some new) result done none step = absurd step
  first_ends (Some old) (Some new) result done none step =
      done_ends 0 (0 ∷ []) old new result done step ∙ first_synced header (present old) none

  -- the rest after it
  pub rest_each : {T E : Type 0} (bytes : List ℕ) (old new : Option (List State)) (result : Result T E) → 0 < length bytes → IsNow (at_rest (0 ∷ [])) old →
      WritesSynced 1 bytes old new result → EachSince old new (IsNoneOrEmpty header)
  rest_each bytes old new result some now step =
      each_from 1 bytes (at_rest (0 ∷ [])) (at_rest (0 ∷ bytes)) old new result (IsNoneOrEmpty header) now (rest_synced header bytes some)
      (λ state writing. rest_writing header bytes state some writing) (closed_image header bytes) step

  -- and at its end the disk is at rest with the closed gate and the rest
  pub rest_ends : {T E : Type 0} (bytes : List ℕ) (old new : Option (List State)) (result : Result T E) → IsOk result → 0 < length bytes →
      IsNow (at_rest (0 ∷ [])) old → WritesSynced 1 bytes old new result → IsNow (at_rest (0 ∷ bytes)) new
  rest_ends bytes old new result done some now step =
      ends_in 1 bytes (at_rest (0 ∷ [])) (at_rest (0 ∷ bytes)) old new result done now (rest_synced header bytes some) step

  -- the open gate over the closed one
  pub gate_each : {T E : Type 0} (rest : List ℕ) (old new : Option (List State)) (result : Result T E) → IsOpening header (1 ∷ rest) →
      IsNow (at_rest (0 ∷ rest)) old → WritesSynced 0 (1 ∷ []) old new result → EachSince old new (IsNoneOrEmpty header)
  gate_each rest old new result opening_is now step =
      each_from 0 (1 ∷ []) (at_rest (0 ∷ rest)) (synced (written 0 (1 ∷ []) (at_rest (0 ∷ rest)))) old new result (IsNoneOrEmpty header) now refl
      (λ state writing. gate_writing header rest state opening_is writing)
      (λ image left. inr (at_rest_image header [] _ image (gate_synced header rest opening_is) left)) step

  -- and at its end the disk is at rest with the journal of the header
  pub gate_rests : {T E : Type 0} (rest : List ℕ) (old new : Option (List State)) (result : Result T E) → IsOk result → IsOpening header (1 ∷ rest) →
      IsNow (at_rest (0 ∷ rest)) old → WritesSynced 0 (1 ∷ []) old new result → WhereKnown new (λ states. IsAtRest header [] (present states))
  gate_rests rest old None result done opening_is now step = tt
  gate_rests rest None (Some new) result done opening_is now step = absurd step
  gate_rests rest (Some old) (Some new) result done opening_is now step =
      subst (IsAtRest header [])
      (sym (done_ends 0 (1 ∷ []) old new result done step ∙ ap (λ state. synced (written 0 (1 ∷ []) state)) now))
      (gate_synced header rest opening_is)
