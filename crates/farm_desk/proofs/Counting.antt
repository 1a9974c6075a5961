-- How many answers were faults, beside what the disk counted.
use Rattle.std.proofs.Common.{◌≡◌, ◌∙◌, ℕ, ◌+◌, sym, ap}
use Rattle.farm_base.proofs.Rises.{faults_add_up}
use Rattle.farm_base.specs.Counts.{raised}

-- one fault more is counted
pub counted_once_more : (failed before between now : ℕ) → between ≡ raised failed before → now ≡ raised 1 between → now ≡ raised (failed + 1) before
counted_once_more failed before between now counted once = once ∙ ap (raised 1) counted ∙ sym (faults_add_up failed 1 before)
