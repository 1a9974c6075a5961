-- What is known of a disk once its length was measured before a journal is laid out.
use Rattle.std.proofs.Common.{◌≡◌, ◌≤◌, ℕ, List, [], ◌∷◌, ◌++◌, length, Option, Some, None, sym, ap, ◌∙◌, subst, arith}
use Rattle.std.proofs.lemmas.List.{nil_from_length}
use Rattle.farm_base.specs.Known.{Stays, WhereKnown}
use Rattle.farm_disk.specs.Calls.{MeasuresSeen}
use Rattle.farm_disk.specs.Images.{State, present}
use Rattle.farm_disk.specs.Runs.{Extends}
use Rattle.farm_journal.specs.Creating.{GivesNone, IsCrashSafe, IsOpening, WasEmpty}
use Rattle.farm_journal.specs.Layout.{IsShort, opening}
use Rattle.farm_journal.specs.Standing.{IsAtRest, IsWithinOffsets, JournalState, Stands}
use Rattle.farm_journal.proofs.JournalBytes.{counting-empty, length-opening}

-- reads of a disk of length 0 give no byte
pub gives_none : (old new : Option (List State)) (size : ℕ) → MeasuresSeen old new size → size ≤ 0 → GivesNone new
gives_none old None size measured none = tt
gives_none old (Some new) size measured none = nil_from_length (present new).seen (omega (arith, measured.size_is, none))

-- and gave none before
pub was_empty : (old mid new : Option (List State)) → Stays old mid → GivesNone mid → Extends mid new → WasEmpty old new
was_empty old mid None stays none extends = tt
was_empty old None (Some new) stays none extends = absurd extends
was_empty None (Some mid) (Some new) stays none extends = cc
was_empty (Some old) (Some mid) (Some new) stays none extends =
    let same : mid ≡ old = cc in
    subst (λ states. (present states).seen ≡ []) same none

-- what is safe from there on is safe from before
pub safe_from : (header : List ℕ) (old mid new : Option (List State)) → Stays old mid → IsCrashSafe header mid new → IsCrashSafe header old new
safe_from header old None None stays safe short = tt
safe_from header old None (Some new) stays safe short = absurd (safe tt)
safe_from header old (Some mid) new stays safe short = subst (λ trace. IsCrashSafe header trace new) (sym stays) safe short

-- the bytes that are laid out are an opening
pub is_opening : (header bytes items : List ℕ) → bytes ≡ items → items ≡ opening header ++ 0 ∷ [] → IsShort header → IsOpening header bytes
is_opening header bytes items are is short = record { is = are ∙ is; short = short }

-- the first gate of a journal without a body is within what offsets reach
pub first_gate : (header : List ℕ) (gate : ℕ) → gate ≡ length (opening header) → IsShort header → IsWithinOffsets gate 0 None
first_gate header gate is short = record {
  counted = omega arith;
  reached = omega (arith, is, short, length-opening header);
  next_counted = tt;
  next_reached = tt;
}

-- a journal that is laid out stands without a body
pub made_stands : {D : Type 0} (trace : D → Option (List State)) (header : List ℕ) (journal : JournalState D) (disk : D) → journal.disk ≡ disk → journal.gate ≡ length (opening header) →
    journal.count ≡ 0 → journal.next_gate ≡ None → WhereKnown (trace disk) (λ states. IsAtRest header [] (present states)) →
    Stands trace header [] None journal
made_stands trace header journal disk is_disk is_gate is_count is_next kept = record {
  gate = is_gate ∙ ap length (sym (counting-empty header));
  count = is_count;
  next_gate = is_next;
  kept = subst (λ disk. WhereKnown (trace disk) (λ states. IsAtRest header [] (present states))) (sym is_disk) kept;
}
