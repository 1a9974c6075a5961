-- A journal that is laid out by three synced writes: what a crash leaves after each, and how it stands.
use Rattle.std.proofs.Common.{◌≡◌, ℕ, ◌-◌, ◌<◌, List, [], ◌∷◌, length, take, drop, Option, Result, IsOk, sym, ap, ◌∙◌, subst, arith, length-append}
use Rattle.std.proofs.lemmas.List.{take_rest}
use Rattle.farm_base.specs.Known.{WhereKnown}
use Rattle.farm_disk.specs.Images.{State, at_rest, present}
use Rattle.farm_disk.specs.Runs.{Extends}
use Rattle.farm_journal.specs.Creating.{GivesNone, IsCrashSafe, IsNoneOrEmpty, IsOpening}
use Rattle.farm_journal.specs.Layout.{opening, signature}
use Rattle.farm_journal.specs.Standing.{IsAtRest}
use Rattle.farm_journal.specs.Steps.{WritesSynced}
use Rattle.farm_disk.proofs.Extending.{each_more, extends_more}
use Rattle.farm_journal.proofs.MakingSteps.{IsNow, extends_of, first_each, first_ends, gate_each, gate_rests, rest_each, rest_ends}
use Rattle.farm_journal.proofs.JournalBytes.{length-opening}

-- an opening begins with the open gate
opening_begins : (header bytes : List ℕ) → IsOpening header bytes → bytes ≡ 1 ∷ drop 1 bytes
unfolding opening signature
opening_begins header bytes opening_is = opening_is.is ∙ ap (λ rest. 1 ∷ drop 1 rest) (sym opening_is.is)

-- an opening has bytes after its gate
some_rest : (header bytes : List ℕ) → IsOpening header bytes → 0 < length (drop 1 bytes)
some_rest header bytes opening_is =
    omega (arith, ap length opening_is.is, ap length (opening_begins header bytes opening_is), length-append (opening header) (0 ∷ []), length-opening header)

-- an opening is its open gate and the bytes after it
is_split : (header bytes : List ℕ) → IsOpening header bytes → IsOpening header (1 ∷ drop 1 bytes)
is_split header bytes opening_is = subst (IsOpening header) (opening_begins header bytes opening_is) opening_is

module _ {T E : Type 0} (header bytes : List ℕ) (opening_is : IsOpening header bytes) where
  -- the step that writes the rest, and the one that opens the gate
  rest_step : (old new : Option (List State)) (result : Result T E) → WritesSynced 1 (take (length bytes - 1) (drop 1 bytes)) old new result →
      WritesSynced 1 (drop 1 bytes) old new result
  rest_step old new result step = subst (λ rest. WritesSynced 1 rest old new result) (take_rest bytes 1) step

  -- and the one that opens the gate
  gate_step : (old new : Option (List State)) (result : Result T E) → WritesSynced 0 (take 1 bytes) old new result →
      WritesSynced 0 (1 ∷ []) old new result
  gate_step old new result step =
      subst (λ gate. WritesSynced 0 gate old new result) (ap (λ bytes. take 1 bytes) (opening_begins header bytes opening_is)) step

  module _ (start first second : Option (List State)) (first_result second_result : Result T E) (none : GivesNone start) (first_done : IsOk first_result)
      (first_step : WritesSynced 0 (0 ∷ []) start first first_result)
      (second_step : WritesSynced 1 (take (length bytes - 1) (drop 1 bytes)) first second second_result) where
    -- after the first step the closed gate stands
    gate_stands : IsNow (at_rest (0 ∷ [])) first
    gate_stands = first_ends header start first first_result first_done none first_step

    -- after two steps a crash leaves no journal, or the one of the header
    pub two_safe : IsCrashSafe header start second
    two_safe short =
        each_more (IsNoneOrEmpty header) start first second (extends_of 1 (take (length bytes - 1) (drop 1 bytes)) first second second_result second_step)
        (first_each header start first first_result none short first_step)
        (rest_each header (drop 1 bytes) first second second_result (some_rest header bytes opening_is) gate_stands
        (rest_step first second second_result second_step))

    module _ (third : Option (List State)) (third_result : Result T E) (second_done : IsOk second_result)
        (third_step : WritesSynced 0 (take 1 bytes) second third third_result) where
      -- after the second step the rest stands too
      rest_stands : IsNow (at_rest (0 ∷ drop 1 bytes)) second
      rest_stands =
          rest_ends header (drop 1 bytes) first second second_result second_done (some_rest header bytes opening_is) gate_stands
          (rest_step first second second_result second_step)

      -- and after three
      pub three_safe : IsCrashSafe header start third
      three_safe short =
          each_more (IsNoneOrEmpty header) start second third (extends_of 0 (take 1 bytes) second third third_result third_step) (two_safe short)
          (gate_each header (drop 1 bytes) second third third_result (is_split header bytes opening_is) rest_stands (gate_step second third third_result third_step))

      -- after the third step the disk is at rest with the journal of the header
      pub three_rests : IsOk third_result → WhereKnown third (λ states. IsAtRest header [] (present states))
      three_rests third_done =
          gate_rests header (drop 1 bytes) second third third_result third_done (is_split header bytes opening_is) rest_stands (gate_step second third third_result third_step)

-- three runs in a row extend the states
pub extends_three : (start first second third : Option (List State)) → Extends start first → Extends first second → Extends second third → Extends start third
extends_three start first second third one two three = extends_more start second third (extends_more start first second one two) three
