-- Rises of a count.
use Rattle.std.proofs.Common.{◌≡◌, ◌∙◌, ℕ, ◌+◌, ◌-◌, ◌^◌, ◌≤◌, min, zero, suc, ap, arith}
use Rattle.farm_base.specs.Counts.{raised}
use Rattle.farm_base.specs.Laws.{CountsAddUp, FaultsAddUp, FaultsAreAdded}

-- the same for any last value
rises_below : (top m n before middle now : ℕ) → before ≤ middle → middle ≤ now →
    min (before + m) top ≤ middle → min (middle + n) top ≤ now → min (before + (m + n)) top ≤ now
rises_below top m n before middle now later later_still first second = omega arith

-- two rises after one another are one rise by their sum
pub rises_add_up : CountsAddUp
rises_add_up = rises_below (2 ^ 64 - 1)

-- n faults more are as many added, up to the last u64
pub faults_are_added : FaultsAreAdded
faults_are_added zero before small = omega (arith, small)
faults_are_added (suc n) before small = omega (arith, faults_are_added n before small)

-- some faults and then others are their sum
pub faults_add_up : FaultsAddUp
faults_add_up m zero before = ap (λ count. raised count before) (omega arith)
faults_add_up m (suc n) before =
    let next : m + suc n ≡ suc (m + n) = omega arith in
    ap (λ count. raised count before) next ∙ ap (λ count. min (count + 1) (2 ^ 64 - 1)) (faults_add_up m n before)
