-- The lines of refusals and answers, as they were put, and their statuses.
use Rattle.std.proofs.Common.{◌≡◌, ◌≢◌, ◌⊎◌, inl, inr, ℕ, ◌<◌, List, Result, Ok, Err, IfOk, MatchResult, refl, subst, arith}
use Rattle.farm_base.specs.Counts.{HasRisen}
use Rattle.run_reports.specs.Reports.{Delivers, LacksMemory, Output, Puts, Refuses}
use Rattle.run_reports.proofs.Printing.{says_last}

-- a status of a refusal is neither 0 nor that of a fault
abbrev pub IsRefusalStatus : ℕ → Type 0
IsRefusalStatus refusal = (0 < refusal) × (refusal < 6)

-- a refusal whose line was put
pub refused_said : (output : Output) (refusal : ℕ) (text : List ℕ) → Puts output text → Refuses output refusal text refusal
refused_said output refusal text puts = record { statuses = inl refl; said = λ _. says_last output _ _ text puts }

-- a refusal whose line was made, or for which there was no memory
pub refused_by : {V E : Type 0} (refusal : ℕ) (said : List ℕ) (output : Output) (status : ℕ) (items : V → List ℕ) (made : Result V E) →
    IsRefusalStatus refusal → IfOk made (λ text. items text ≡ said) →
    MatchResult made (λ text. Refuses output refusal (items text) status) (λ _. LacksMemory output status) → Refuses output refusal said status
refused_by refusal said output status items (Ok text) small is refuses = subst (λ (t : List ℕ). Refuses output refusal t status) is refuses
refused_by refusal said output status items (Err e) small is lacks = record {
  statuses = inr lacks;
  said = λ same. elim lacks.statuses [ inl six ↦ absurd (omega (arith, small.1)) | inr seven ↦ absurd (omega (arith, small.1)) ];
}

-- the answer that the output failed is given only if it did
pub delivers_risen : (output : Output) (text : List ℕ) (status : ℕ) → Delivers output text status ⊎ LacksMemory output status →
    status ≡ 6 → HasRisen output.count
delivers_risen output text status (inl delivers) six = delivers.faulted six
delivers_risen output text status (inr lacks) six = lacks.faulted six

-- so it is of a refusal
pub refused_risen : {V E : Type 0} (refusal : ℕ) (output : Output) (status : ℕ) (items : V → List ℕ) (made : Result V E) → IsRefusalStatus refusal →
    MatchResult made (λ text. Refuses output refusal (items text) status) (λ _. LacksMemory output status) → status ≡ 6 → HasRisen output.count
refused_risen refusal output status items (Ok text) small refuses six =
    elim refuses.statuses [ inl same ↦ absurd (omega (arith, small.1)) | inr lacks ↦ lacks.faulted six ]
refused_risen refusal output status items (Err e) small lacks six = lacks.faulted six

-- if there was no memory, the status isn't 0
pub lacking_not_done : (output : Output) (status : ℕ) → LacksMemory output status → status ≢ 0
lacking_not_done output status lacks = λ zero. elim lacks.statuses [ inl six ↦ omega arith | inr seven ↦ omega arith ]

-- nor is it that of a refusal
pub refused_not_done : {V E : Type 0} (refusal : ℕ) (output : Output) (status : ℕ) (items : V → List ℕ) (made : Result V E) → IsRefusalStatus refusal →
    MatchResult made (λ text. Refuses output refusal (items text) status) (λ _. LacksMemory output status) → status ≢ 0
refused_not_done refusal output status items (Ok text) small refuses = λ zero.
    elim refuses.statuses [ inl same ↦ omega (arith, small.0) | inr lacks ↦ lacking_not_done output status lacks zero ]
refused_not_done refusal output status items (Err e) small lacks = lacking_not_done output status lacks
