-- How the comparisons of a test are counted.
use Rattle.std.specs.Prelude.{ℕ, ◌+◌, ◌-◌, ◌^◌, min, Bool, true, false}

-- one more where two values differ; the count stands still at the last u64
abbrev pub counted : Bool → ℕ → ℕ
counted true count = count
counted false count = min (count + 1) (2 ^ 64 - 1)
