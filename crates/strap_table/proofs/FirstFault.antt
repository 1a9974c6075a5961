-- The fault of rows in the words of the rule: the first of its kind, and no other.
use Rattle.std.proofs.Common.{◌≡◌, inl, inr, if◌then◌else◌, nat_lt, ◌<ℤ◌, ℕ, zero, suc, ◌+◌, ◌-◌, ◌<◌, Bool, true, false, List, [], ◌∷◌, length, ℤ, pos, ◌≤ℤ◌, ◌^◌, add-one, Option, Some, None, refl, sym, ap, ◌∙◌, subst, arith}
use Rattle.std.proofs.lemmas.Bool.Decides.{leb_tells, nat_tests}
use Rattle.std.proofs.lemmas.Int.{ints}
use Rattle.std.specs.Int.RustNames.{int_lt}
use Rattle.farm_base.proofs.BoolTests.{int_lt-false, int_lt-true}
use Rattle.farm_fixed.proofs.ParsingLaws.{is_within-true}
use Rattle.farm_fixed.specs.Range.{is_within, IsVolume}
use Rattle.farm_base.specs.Steps.{or_else}
use Rattle.strap_table.specs.Capacity.{IsCapTable, row_at}
use Rattle.strap_table.specs.Faults.{HaveFault, HaveTableLength, IsFirstFalling, IsFirstOutside, falling, falling_row, first_falling, first_fault, first_outside, outside, wrong_length}
use Rattle.strap_table.specs.declared.faults.TableFault.{TableFault}
use Rattle.strap_table.specs.declared.faults.TableFault.TheVariants.{Short, TooMany, OutOfRange, Falling}
use Rattle.strap_table.proofs.Rows.{each_within, right_length}

-- the row that is the first outside the range, from number n on
record FirstOutside (n : ℕ) (rows : List ℤ) (m : ℕ) : Type 0 where
  index : ℕ
  counted : m ≡ n + index
  first : IsFirstOutside rows index

-- a row outside the range has no volume of a table
not_within : (row : ℤ) → is_within (pos 0) (pos (10 ^ 9)) row ≡ false → ¬ (IsVolume row)
not_within row refused volume = grind (arith, ints, volume.low, volume.high)

-- the rows before it are in range, the first one among them
before_more : (row : ℤ) (rows : List ℤ) (index : ℕ) → IsVolume row → ((earlier : ℕ) → earlier < index → IsVolume (row_at rows earlier)) →
    (earlier : ℕ) → earlier < suc index → IsVolume (row_at (row ∷ rows) earlier)
before_more row rows index here rest zero early = here
before_more row rows index here rest (suc earlier) early = rest earlier (omega arith)

-- the row that the search finds
found_outside : (n : ℕ) (rows : List ℤ) (m : ℕ) → first_outside n rows ≡ Some m → FirstOutside n rows m
found_outside n [] m some = cc
found_outside n (row ∷ rows) m some = by (is_within (pos 0) (pos (10 ^ 9)) row) refl some (found_outside (n + 1) rows m)
  where
    by : (b : Bool) → is_within (pos 0) (pos (10 ^ 9)) row ≡ b → (if is_within (pos 0) (pos (10 ^ 9)) row then first_outside (n + 1) rows else Some n) ≡ Some m →
        (first_outside (n + 1) rows ≡ Some m → FirstOutside (n + 1) rows m) → FirstOutside n (row ∷ rows) m
    by true e some later =
        let rest = later (rw e at some) in
        record {
          index = suc rest.index;
          counted = omega (arith, rest.counted);
          first = record {
            within = omega (arith, rest.first.within);
            before = before_more row rows rest.index (is_within-true (pos 0) (pos (10 ^ 9)) row e) rest.first.before;
            outside = rest.first.outside;
          };
        }
    by false e some later =
        let here : Some n ≡ Some m = (rw e at some) in
        let same : n ≡ m = cc in
        record {
          index = 0;
          counted = omega (arith, same);
          first = record {
            within = omega arith;
            before = λ earlier early. absurd (omega (arith, early));
            outside = not_within row e;
          };
        }

-- the first row outside the range is the one that the search finds
first_outside_is : (rows : List ℤ) (i : ℕ) → first_outside 0 rows ≡ Some i → IsFirstOutside rows i
first_outside_is rows i some =
    let first = found_outside 0 rows i some in
    let P : ℕ → Type 0 = λ index. IsFirstOutside rows index in
    subst P (omega (arith, first.counted)) first.first

-- the row that is the first to fall, from number n on, where one stands before them
record FirstFalling (n : ℕ) (before : ℤ) (rows : List ℤ) (m : ℕ) : Type 0 where
  index : ℕ
  counted : m ≡ n + index
  within : index < length rows
  rising : (earlier : ℕ) → earlier < index → row_at (before ∷ rows) earlier ≤ℤ row_at rows earlier
  falls : row_at rows index <ℤ row_at (before ∷ rows) index

-- the rows before it never fall, the first one among them
rising_more : (before row : ℤ) (rows : List ℤ) (index : ℕ) → before ≤ℤ row → ((earlier : ℕ) → earlier < index → row_at (row ∷ rows) earlier ≤ℤ row_at rows earlier) →
    (earlier : ℕ) → earlier < suc index → row_at (before ∷ row ∷ rows) earlier ≤ℤ row_at (row ∷ rows) earlier
rising_more before row rows index here rest zero early = here
rising_more before row rows index here rest (suc earlier) early = rest earlier (omega arith)

-- the row that the search finds
found_falling : (n : ℕ) (before : ℤ) (rows : List ℤ) (m : ℕ) → first_falling n before rows ≡ Some m → FirstFalling n before rows m
found_falling n before [] m some = cc
found_falling n before (row ∷ rows) m some = by (int_lt row before) refl some (found_falling (n + 1) row rows m)
  where
    by : (b : Bool) → int_lt row before ≡ b → (if int_lt row before then Some n else first_falling (n + 1) row rows) ≡ Some m →
        (first_falling (n + 1) row rows ≡ Some m → FirstFalling (n + 1) row rows m) → FirstFalling n before (row ∷ rows) m
    by true e some later =
        let here : Some n ≡ Some m = (rw e at some) in
        let same : n ≡ m = cc in
        record {
          index = 0;
          counted = omega (arith, same);
          within = omega arith;
          rising = λ earlier early. absurd (omega (arith, early));
          falls = int_lt-true row before e;
        }
    by false e some later =
        let rest = later (rw e at some) in
        record {
          index = suc rest.index;
          counted = omega (arith, rest.counted);
          within = omega (arith, rest.within);
          rising = rising_more before row rows rest.index (int_lt-false row before e) rest.rising;
          falls = rest.falls;
        }

-- the first row to fall is the one that the search finds
first_falling_is : (rows : List ℤ) (i : ℕ) → falling_row rows ≡ Some i → IsFirstFalling rows i
first_falling_is [] i some = cc
first_falling_is (row ∷ rows) i some =
    let first = found_falling 1 row rows i some in
    let next : suc first.index ≡ i = omega (arith, first.counted) in
    let P : ℕ → Type 0 = λ k. IsFirstFalling (row ∷ rows) k in
    subst P next (record {
      within = omega (arith, first.within);
      before = λ earlier early. let Q : ℕ → Type 0 = λ k. row_at (row ∷ rows) earlier ≤ℤ row_at (row ∷ rows) k in subst Q (sym (add-one earlier)) (first.rising earlier (omega (arith, early)));
      some = omega arith;
      falls = let Q : ℕ → Type 0 = λ k. row_at rows first.index <ℤ row_at (row ∷ rows) k in subst Q (omega arith) first.falls;
    })

-- rows of a length that isn't wrong
length_of : (rows : List ℤ) → wrong_length (length rows) ≡ None → HaveTableLength rows
length_of rows none = let size = right_length (length rows) none in record { fewest = size.0; most = size.1 }

-- rows of a wrong length have that fault
wrong_length_is : (rows : List ℤ) (fault : TableFault) → wrong_length (length rows) ≡ Some fault → HaveFault rows fault
wrong_length_is rows fault some = by (nat_lt (length rows) 2) (nat_lt 5001 (length rows)) refl refl
  where
    by : (short long : Bool) → nat_lt (length rows) 2 ≡ short → nat_lt 5001 (length rows) ≡ long → HaveFault rows fault
    by true long e f =
        let here : Some Short ≡ Some fault = (rw e at some) in
        let same : Short ≡ fault = cc in
        let P : TableFault → Type 0 = λ fault. HaveFault rows fault in subst P same (grind (arith, nat_tests))
    by false true e f =
        let here : Some TooMany ≡ Some fault = (rw (e, f) at some) in
        let same : TooMany ≡ fault = cc in
        let P : TableFault → Type 0 = λ fault. HaveFault rows fault in subst P same (grind (arith, nat_tests))
    by false false e f = let here : None ≡ Some fault = (rw (e, f) at some) in cc

-- the first fault of rows in the words of the rule
pub fault_is : (rows : List ℤ) (fault : TableFault) → first_fault rows ≡ Some fault → HaveFault rows fault
unfolding first_fault
fault_is rows fault some = by (wrong_length (length rows)) (first_outside 0 rows) (falling_row rows) refl refl refl some
  where
    by : (size : Option TableFault) (out fall : Option ℕ) → wrong_length (length rows) ≡ size → first_outside 0 rows ≡ out → falling_row rows ≡ fall →
        or_else size (or_else (outside out) (falling fall)) ≡ Some fault → HaveFault rows fault
    by (Some wrong) out fall e f g is = wrong_length_is rows fault (e ∙ is)
    by None (Some i) fall e f g is =
        let same : OutOfRange i ≡ fault = cc in
        let P : TableFault → Type 0 = λ fault. HaveFault rows fault in subst P same (length_of rows e, first_outside_is rows i f)
    by None None (Some i) e f g is =
        let same : Falling i ≡ fault = cc in
        let P : TableFault → Type 0 = λ fault. HaveFault rows fault in subst P same (length_of rows e, λ each. each_within 0 rows each f, first_falling_is rows i g)
    by None None None e f g is = cc

-- there is one first row outside the range
one_outside : (rows : List ℤ) (i j : ℕ) → IsFirstOutside rows i → IsFirstOutside rows j → i ≡ j
one_outside rows i j first second = elim (leb_tells j i) [
  | inl t ↦ elim (leb_tells i j) [
    | inl u ↦ omega (arith, t.1, u.1)
    | inr u ↦ absurd (second.outside (first.before j (omega (arith, u.1))))
  ]
  | inr t ↦ absurd (first.outside (second.before i (omega (arith, t.1))))
]

-- a row that falls isn't at least the one before it
no_fall : (rows : List ℤ) (i : ℕ) → 0 < i → row_at rows i <ℤ row_at rows (i - 1) → row_at rows (i - 1) ≤ℤ row_at rows (i - 1 + 1) → ⊥
no_fall rows i some falls rises =
    let P : ℕ → Type 0 = λ k. row_at rows (i - 1) ≤ℤ row_at rows k in
    let next : i - 1 + 1 ≡ i = omega arith in
    let above : row_at rows (i - 1) ≤ℤ row_at rows i = subst P next rises in
    omega (arith, ints)

-- there is one first row to fall
one_falling : (rows : List ℤ) (i j : ℕ) → IsFirstFalling rows i → IsFirstFalling rows j → i ≡ j
one_falling rows i j first second = elim (leb_tells j i) [
  | inl t ↦ elim (leb_tells i j) [
    | inl u ↦ omega (arith, t.1, u.1)
    | inr u ↦ absurd (no_fall rows j second.some second.falls (first.before (j - 1) (omega (arith, u.1, second.some))))
  ]
  | inr t ↦ absurd (no_fall rows i first.some first.falls (second.before (i - 1) (omega (arith, t.1, first.some))))
]

-- rows have one fault alone
pub one_fault : (rows : List ℤ) (a b : TableFault) → HaveFault rows a → HaveFault rows b → a ≡ b
one_fault rows Short Short first second = refl
one_fault rows Short TooMany first second = absurd (omega (arith, first, second))
one_fault rows Short (OutOfRange j) first second = absurd (omega (arith, first, second.0.fewest))
one_fault rows Short (Falling j) first second = absurd (omega (arith, first, second.0.fewest))
one_fault rows TooMany Short first second = absurd (omega (arith, first, second))
one_fault rows TooMany TooMany first second = refl
one_fault rows TooMany (OutOfRange j) first second = absurd (omega (arith, first, second.0.most))
one_fault rows TooMany (Falling j) first second = absurd (omega (arith, first, second.0.most))
one_fault rows (OutOfRange i) Short first second = absurd (omega (arith, second, first.0.fewest))
one_fault rows (OutOfRange i) TooMany first second = absurd (omega (arith, second, first.0.most))
one_fault rows (OutOfRange i) (OutOfRange j) first second = ap OutOfRange (one_outside rows i j first.1 second.1)
one_fault rows (OutOfRange i) (Falling j) first second = absurd (first.1.outside (second.1 i))
one_fault rows (Falling i) Short first second = absurd (omega (arith, second, first.0.fewest))
one_fault rows (Falling i) TooMany first second = absurd (omega (arith, second, first.0.most))
one_fault rows (Falling i) (OutOfRange j) first second = absurd (second.1.outside (first.1 j))
one_fault rows (Falling i) (Falling j) first second = ap Falling (one_falling rows i j first.2 second.2)

-- and a table has none
pub no_fault : (rows : List ℤ) (fault : TableFault) → IsCapTable rows → ¬ (HaveFault rows fault)
no_fault rows Short table fault = omega (arith, fault, table.fewest)
no_fault rows TooMany table fault = omega (arith, fault, table.most)
no_fault rows (OutOfRange i) table fault = fault.1.outside (table.volumes i)
no_fault rows (Falling i) table fault =
    no_fall rows i fault.2.some fault.2.falls (table.rising (i - 1) (omega (arith, fault.2.some, fault.2.within)))
