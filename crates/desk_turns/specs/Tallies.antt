-- The faults that the callers of one desk were answered, each by its own count, and all together.
use Rattle.std.specs.Prelude.{◌≡◌, ◌⊎◌, ℕ, ◌-◌, ◌^◌, ◌<◌, ◌≤◌, min, List, All, sum_by}
use Rattle.farm_base.specs.Counts.{raised}

-- What is known of the faults of one caller: by how much its jobs raised the desk's count; the greatest count of the desk that it has seen;
-- and its own count.
pub record CallerFaults : Type 0 where
  pub tally : ℕ
  pub level : ℕ
  pub faulted : ℕ

-- Its own count is by how much its jobs raised the desk's, up to the last u64; or the desk's count has stopped there, and its own is no less.
abbrev pub IsTallied : CallerFaults → Type 0
IsTallied faults =
    (faults.faulted ≡ min faults.tally (2 ^ 64 - 1)) ⊎ ((2 ^ 64 - 1 ≤ faults.level) × (min faults.tally (2 ^ 64 - 1) ≤ faults.faulted))

-- A desk's count, which was 0, is the faults of all callers, each once, up to the last u64: if it is what they all raised it by, and none
-- has seen a greater one.
abbrev pub TalliesAddUp : Type 0
TalliesAddUp = (failed : ℕ) (callers : List CallerFaults) → failed < 2 ^ 64 → failed ≡ sum_by (λ caller. caller.tally) callers →
    All (λ caller. caller.level ≤ failed) callers → All IsTallied callers → failed ≡ raised (sum_by (λ caller. caller.faulted) callers) 0
