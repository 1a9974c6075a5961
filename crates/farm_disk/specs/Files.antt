-- What a disk over a file of the system shows to clauses. Of its bytes nothing is known.
use Rattle.std.specs.Prelude.{ℕ, ◌+◌, ◌-◌, ◌^◌, min, List}

-- a disk over a file: the path of the file, the present moment, and how many faults were counted
pub record FileState : Type 0 where
  pub path : List ℕ
  pub moment : ℕ
  pub faults : ℕ

-- the moment at which a write or a sync that began at this one is over; it stands still at the last u64
abbrev pub two_moments_more : ℕ → ℕ
two_moments_more moment = min (moment + 2) (2 ^ 64 - 1)
