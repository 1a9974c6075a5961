-- What a run of `serve` left on the disk, from what its desk keeps.
use Rattle.std.proofs.Common.{◌≡◌, ℕ, ◌+◌, ◌-◌, ◌^◌, ◌<◌, ◌≤◌, zero, suc, min, refl, ap, arith}
use Rattle.farm_base.specs.Counts.{Rose, raised}
use Rattle.farm_desk.specs.States.{DeskState, IsJustMade}
use Rattle.boxed_disk.specs.declared.boxed.BoxedDisk.{BoxedDisk}

-- a count of at most the last u64 doesn't fall
pub raised_not_below : (n before : ℕ) → before ≤ 2 ^ 64 - 1 → before ≤ raised n before
raised_not_below zero before small = omega arith
raised_not_below (suc n) before small = omega (arith, small, raised_not_below n before small)

-- up to the last u64, a count doesn't fall
not_far_below : (n before : ℕ) → min before (2 ^ 64 - 1) ≤ raised n before
not_far_below zero before = omega arith
not_far_below (suc n) before = omega (arith, not_far_below n before)

-- a count with a fault more, after others, has risen
pub raised_more : (n before between now : ℕ) → between ≡ raised n before → now ≡ raised 1 between → Rose before now
raised_more n before between now first second = omega (arith, first, second, not_far_below n before)

-- n faults, at least one, are n added, up to the last u64
raised_some : (n before : ℕ) → 0 < n → raised n before ≡ min (before + n) (2 ^ 64 - 1)
raised_some zero before some = absurd (omega (arith, some))
raised_some (suc zero) before some = refl
raised_some (suc (suc n)) before some = omega (arith, raised_some (suc n) before (omega arith))

-- what raised a count of none raises another as the faults do
pub raised_again : (n before : ℕ) → raised (raised n 0) before ≡ raised n before
raised_again zero before = refl
raised_again (suc n) before =
    let count : raised (suc n) 0 ≡ min (suc n) (2 ^ 64 - 1) = omega (arith, raised_some (suc n) 0 (omega arith)) in
    omega (arith, count, raised_some (raised (suc n) 0) before (omega (arith, count)), raised_some (suc n) before (omega arith))

-- a desk by the disk in its box
abbrev pub unboxed : {D : Type 0} → DeskState (BoxedDisk D) → DeskState D
unboxed desk = record { disk = desk.disk.disk.value; history = desk.history; doubt = desk.doubt; failed = desk.failed; opened = desk.opened; found = desk.found.disk.value }

-- a desk that was just made on a box was just made on the disk in it
pub made_unboxed : {D : Type 0} (moment faults : D → ℕ) (desk : DeskState (BoxedDisk D)) (entries : ℕ) →
    IsJustMade (λ boxed. moment boxed.disk.value) (λ boxed. faults boxed.disk.value) desk entries → IsJustMade moment faults (unboxed desk) entries
made_unboxed {D} moment faults desk entries made = record {
  certain = made.certain;
  unfailed = made.unfailed;
  entries_is = made.entries_is;
  moment_is = made.moment_is;
  faults_is = made.faults_is;
  found_is = ap (λ (boxed : BoxedDisk D). boxed.disk.value) made.found_is;
}
