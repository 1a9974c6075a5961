-- The first wrong row in the words of the rule.
use Rattle.std.proofs.Common.{◌≡◌, inl, inr, ℕ, zero, suc, ◌+◌, ◌-◌, ◌<◌, Bool, true, false, Option, Some, None, Err, List, pos, ℤ, ◌<ℤ◌, ◌≤ℤ◌, ◌^◌, refl, ap, ◌∙◌, subst, arith}
use Rattle.std.proofs.lemmas.Int.{ints}
use Rattle.std.proofs.lemmas.Bool.Decides.{leb_tells}
use Rattle.std.specs.Int.RustNames.{int_lt}
use Rattle.std.specs.Prelude.{IfSome}
use Rattle.farm_base.specs.Steps.{IsRefusedAs, or_else}
use Rattle.farm_base.proofs.BoolTests.{int_lt-false, int_lt-true}
use Rattle.farm_fixed.proofs.ParsingLaws.{is_within-true}
use Rattle.farm_fixed.specs.Range.{is_within, IsVolume}
use Rattle.farm_rounding.specs.Table.{Row}
use Rattle.strap_courses.specs.Courses.{StrappedTank}
use Rattle.strap_courses.specs.Faults.{TankFault, NotRising, TooLarge}
use Rattle.strap_courses.specs.Rows.{HaveRowFault, IsRightRow, first_wrong, row_count, rows_from, strapped_row, strapped_rows, unless_wrong, wrong_row}

-- what stands before row i: the row before it, or zero before the first
record Before (rounding : List Row) (tank : StrappedTank) (i : ℕ) (before : ℤ) : Type 0 where
  first : i ≡ 0 → before ≡ pos 0
  later : 0 < i → before ≡ strapped_row rounding tank (i - 1)
  right : (earlier : ℕ) → earlier < i → IsRightRow rounding tank earlier

-- a row outside its range has no volume of a table
not_volume : (row : ℤ) → is_within (pos 0) (pos (10 ^ 9)) row ≡ false → ¬ (IsVolume row)
not_volume row refused volume = grind (arith, ints, volume.low, volume.high)

-- a row in range isn't below zero
never_first : (row before : ℤ) → before ≡ pos 0 → IsVolume row → row <ℤ before → ⊥
never_first row before none volume falls =
    let P : ℤ → Type 0 = λ b. row <ℤ b in
    let under : row <ℤ pos 0 = subst P none falls in
    let low : pos 0 ≤ℤ row = volume.low in
    omega (arith, ints, under, low)

-- a row that is right, with what stands before it, stands before the next
next : (rounding : List Row) (tank : StrappedTank) (i : ℕ) (before : ℤ) → Before rounding tank i before →
    IsVolume (strapped_row rounding tank i) → before ≤ℤ strapped_row rounding tank i → Before rounding tank (i + 1) (strapped_row rounding tank i)
next rounding tank i before so_far volume above = record {
  first = λ none. absurd (omega (arith, none));
  later = λ some. ap (λ k. strapped_row rounding tank k) (omega arith);
  right = λ earlier early. elim (leb_tells i earlier) [
    | inl t ↦
        let P : ℕ → Type 0 = λ k. IsRightRow rounding tank k in
        let Q : ℤ → Type 0 = λ b. b ≤ℤ strapped_row rounding tank i in
        let same : i ≡ earlier = omega (arith, t.1, early) in
        subst P same (record { volume = volume; rising = λ some. subst Q (so_far.later some) above })
    | inr t ↦ so_far.right earlier (omega (arith, t.1))
  ];
}

-- the first wrong row of those from row i on
found_row : (rounding : List Row) (tank : StrappedTank) (i count : ℕ) (before : ℤ) (fault : TankFault) → i + count ≡ row_count tank →
    Before rounding tank i before → first_wrong i before (rows_from rounding tank i count) ≡ Some fault → HaveRowFault rounding tank fault
found_row rounding tank i zero before fault all so_far some = cc
found_row rounding tank i (suc count) before fault all so_far some =
    by (is_within (pos 0) (pos (10 ^ 9)) (strapped_row rounding tank i)) (int_lt (strapped_row rounding tank i) before) refl refl some
    (λ so_far rest. found_row rounding tank (i + 1) count (strapped_row rounding tank i) fault (omega (arith, all)) so_far rest)
  where
    by : (inside falls : Bool) → is_within (pos 0) (pos (10 ^ 9)) (strapped_row rounding tank i) ≡ inside → int_lt (strapped_row rounding tank i) before ≡ falls →
        or_else (wrong_row i before (strapped_row rounding tank i)) (first_wrong (i + 1) (strapped_row rounding tank i) (rows_from rounding tank (i + 1) count)) ≡ Some fault →
        (Before rounding tank (i + 1) (strapped_row rounding tank i) → first_wrong (i + 1) (strapped_row rounding tank i) (rows_from rounding tank (i + 1) count) ≡ Some fault → HaveRowFault rounding tank fault) →
        HaveRowFault rounding tank fault
    by false falls e f is more =
        let here : Some (TooLarge i) ≡ Some fault = (rw e at is) in
        let same : TooLarge i ≡ fault = cc in
        let P : TankFault → Type 0 = λ fault. HaveRowFault rounding tank fault in
        subst P same (record {
          reached = record { within = omega (arith, all); before = so_far.right };
          outside = not_volume (strapped_row rounding tank i) e;
        })
    by true true e f is more =
        let here : Some (NotRising i) ≡ Some fault = (rw (e, f) at is) in
        let same : NotRising i ≡ fault = cc in
        let P : TankFault → Type 0 = λ fault. HaveRowFault rounding tank fault in
        let Q : ℤ → Type 0 = λ b. strapped_row rounding tank i <ℤ b in
        let volume = is_within-true (pos 0) (pos (10 ^ 9)) (strapped_row rounding tank i) e in
        let falls = int_lt-true (strapped_row rounding tank i) before f in
        elim (leb_tells i 0) [
          | inl t ↦ absurd (never_first (strapped_row rounding tank i) before (so_far.first (omega (arith, t.1))) volume falls)
          | inr t ↦ subst P same (record {
            reached = record { within = omega (arith, all); before = so_far.right };
            volume = volume;
            some = omega (arith, t.1);
            falls = subst Q (so_far.later (omega (arith, t.1))) falls;
          })
        ]
    by true false e f is more =
        let rest : first_wrong (i + 1) (strapped_row rounding tank i) (rows_from rounding tank (i + 1) count) ≡ Some fault = (rw (e, f) at is) in
        more (next rounding tank i before so_far (is_within-true (pos 0) (pos (10 ^ 9)) (strapped_row rounding tank i) e) (int_lt-false (strapped_row rounding tank i) before f)) rest

-- a fault of the rows is that of the first wrong one
row_fault_is : (rounding : List Row) (tank : StrappedTank) (fault : TankFault) → strapped_rows rounding tank ≡ Err fault → HaveRowFault rounding tank fault
unfolding strapped_rows
row_fault_is rounding tank fault is = by (first_wrong 0 (pos 0) (rows_from rounding tank 0 (row_count tank))) refl is
  where
    start : Before rounding tank 0 (pos 0)
    start = record { first = λ none. refl; later = λ some. absurd (omega (arith, some)); right = λ earlier early. absurd (omega (arith, early)) }

    by : (wrong : Option TankFault) → first_wrong 0 (pos 0) (rows_from rounding tank 0 (row_count tank)) ≡ wrong →
        unless_wrong (rows_from rounding tank 0 (row_count tank)) wrong ≡ Err fault → HaveRowFault rounding tank fault
    by None e is = cc
    by (Some other) e is = let same : other ≡ fault = cc in found_row rounding tank 0 (row_count tank) (pos 0) fault (omega arith) start (e ∙ ap Some same)

-- the fault that a call reports is right
pub row_reported_is : (rounding : List Row) (tank : StrappedTank) (fault : Option TankFault) → IsRefusedAs fault (strapped_rows rounding tank) → IfSome fault (HaveRowFault rounding tank)
row_reported_is rounding tank None is = tt
row_reported_is rounding tank (Some fault) is = row_fault_is rounding tank fault is
