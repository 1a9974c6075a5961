-- Counts of faults. An object of the outside counts its faults; the count never falls and stands still at the last u64.
use Rattle.std.specs.Prelude.{◌≡◌, ℕ, ◌+◌, ◌-◌, ◌^◌, ◌≤◌, min, zero, suc, Result, OnErr, OnOk}

-- the count is greater by at least n, or stands at its last value
abbrev pub RoseBy : ℕ → ℕ → ℕ → Type 0
RoseBy n before now = min (before + n) (2 ^ 64 - 1) ≤ now

-- the count is greater, or stands at its last value
abbrev pub Rose : ℕ → ℕ → Type 0
Rose before now = RoseBy 1 before now

-- a count after n faults more, each counted once; it stands still at its last value
abbrev pub raised : ℕ → ℕ → ℕ
raised zero before = before
raised (suc n) before = min (raised n before + 1) (2 ^ 64 - 1)

-- what a call does to a count of faults: it never falls, rose if the call failed, and is as it was if the call succeeded
pub record Counts {T E : Type 0} (before now : ℕ) (result : Result T E) : Type 0 where
  pub never_falls : before ≤ now
  pub failed : OnErr result (Rose before now)
  pub quiet : OnOk result (now ≡ before)

-- likewise of a call that counts a failure once
pub record CountsOnce {T E : Type 0} (before now : ℕ) (result : Result T E) : Type 0 where
  pub never_falls : before ≤ now
  pub failed : OnErr result (Rose before now)
  pub once : OnErr result (now ≡ raised 1 before)
  pub quiet : OnOk result (now ≡ before)

-- what a call does to a count of faults, where one of its answers says that the counted object failed
pub record CountsIf (faulted : Type 0) (before now : ℕ) : Type 0 where
  pub never_falls : before ≤ now
  pub failed : faulted → Rose before now
  pub quiet : ¬ faulted → now ≡ before

-- likewise of a call that counts the fault once
pub record CountsOnceIf (faulted : Type 0) (before now : ℕ) : Type 0 where
  pub never_falls : before ≤ now
  pub failed : faulted → Rose before now
  pub once : faulted → now ≡ raised 1 before
  pub quiet : ¬ faulted → now ≡ before

-- a count before a call and after it
pub record Count : Type 0 where
  pub before : ℕ
  pub now : ℕ

-- a port's count before and after, by what the port counts
abbrev pub count_of : {P : Type 0} → (P → ℕ) → P → P → Count
count_of faults old new = record { before = faults old; now = faults new }

-- the count rose in the call
abbrev pub HasRisen : Count → Type 0
HasRisen count = Rose count.before count.now

-- the count after the call is the one before it
abbrev pub IsQuiet : Count → Type 0
IsQuiet count = count.now ≡ count.before
