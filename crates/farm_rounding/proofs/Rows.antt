-- Rows of a table, from the test of each.
use Rattle.std.proofs.Common.{◌≡◌, inl, inr, ℕ, zero, suc, ◌+◌, ◌-◌, ◌<◌, Bool, true, false, ◌==◌, if◌then◌else◌, IsTrue, List, [], ◌∷◌, length, get_or, Some, None, refl, sym, subst, arith}
use Rattle.std.proofs.lemmas.Bool.{and_from, and_parts}
use Rattle.std.proofs.lemmas.Bool.Decides.{leb_tells, nat_tests}
use Rattle.std.proofs.lemmas.List.{get_or_past}
use Rattle.farm_rounding.specs.declared.mode.Mode.TheVariants.{HalfAway}
use Rattle.farm_rounding.specs.Multiple.{is_step}
use Rattle.farm_rounding.specs.declared.table.TheConstants.{FACTOR_TIES, ROUNDING_ROWS}
use Rattle.farm_rounding.specs.Table.{IsAllowedRow, IsFirstBadRow, IsTable, Row, first_bad_row, is_row, row_at}

-- the first row passes
passes_first : (n : ℕ) (row : Row) (rows : List Row) (b : Bool) → is_row n row ≡ b → first_bad_row n (row ∷ rows) ≡ None → is_row n row ≡ true
passes_first n row rows true e good = e
passes_first n row rows false e good = let bad : Some n ≡ None = (rw e at good) in cc

-- and so do the others
passes_rest : (n : ℕ) (row : Row) (rows : List Row) (b : Bool) → is_row n row ≡ b → first_bad_row n (row ∷ rows) ≡ None → first_bad_row (n + 1) rows ≡ None
passes_rest n row rows true e good = rw e at good
passes_rest n row rows false e good = let bad : Some n ≡ None = (rw e at good) in cc

-- where no row is bad, each passes its test
each_row : (n k : ℕ) (rows : List Row) → first_bad_row n rows ≡ None → k < length rows → is_row (n + k) (get_or rows k (1, HalfAway)) ≡ true
each_row n k [] good within = absurd (omega arith)
each_row n zero (row ∷ rows) good within =
    let P : ℕ → Type 0 = λ m. is_row m row ≡ true in
    subst P (omega arith) (passes_first n row rows (is_row n row) refl good)
each_row n (suc k) (row ∷ rows) good within =
    let P : ℕ → Type 0 = λ m. is_row m (get_or rows k (1, HalfAway)) ≡ true in
    subst P (omega arith) (each_row (n + 1) k rows (passes_rest n row rows (is_row n row) refl good) (omega arith))

-- the step of a row that passes is allowed
step_of_row : (n : ℕ) (row : Row) → is_row n row ≡ true → IsTrue (is_step row.0)
step_of_row n row passes = (and_parts (is_step row.0) (if n == FACTOR_TIES then row.0 == 1 else true) passes).0

-- and that of the factor ties is 1
tie_of : (row : Row) → is_row 7 row ≡ true → row.0 ≡ 1
tie_of row passes = let one : IsTrue (row.0 == 1) = (and_parts (is_step row.0) (row.0 == 1) passes).1 in grind (arith, nat_tests)

-- the step of a row that passes, and of none
step_of : (rows : List Row) → first_bad_row 1 rows ≡ None → length rows ≡ ROUNDING_ROWS → (k : ℕ) → IsTrue (is_step (get_or rows k (1, HalfAway)).0)
step_of rows good twelve k = elim (leb_tells (k + 1) ROUNDING_ROWS) [
  | inl t ↦ step_of_row (1 + k) (get_or rows k (1, HalfAway)) (each_row 1 k rows good (omega (arith, t.1)))
  | inr t ↦ let P : Row → Type 0 = λ row. IsTrue (is_step row.0) in subst P (sym (get_or_past rows k (1, HalfAway) (omega (arith, t.1)))) refl
]

-- twelve rows that pass are a table
pub table_from_rows : (rows : List Row) → length rows ≡ ROUNDING_ROWS → first_bad_row 1 rows ≡ None → IsTable rows
table_from_rows rows twelve good = record {
  twelve = twelve;
  steps = λ n. step_of rows good twelve (n - 1);
  ties = tie_of (row_at rows 7) (each_row 1 6 rows good (omega arith));
}

-- a row that passes may stand there
allowed_of : (n : ℕ) (row : Row) → is_row n row ≡ true → IsAllowedRow n row
allowed_of n row passes = record {
  step = step_of_row n row passes;
  ties = λ here. let P : ℕ → Type 0 = λ m. is_row m row ≡ true in tie_of row (subst P here passes);
}

-- a row that may stand there passes
passes_of : (n : ℕ) (row : Row) → IsAllowedRow n row → is_row n row ≡ true
passes_of n row allowed = and_from (is_step row.0) (if n == FACTOR_TIES then row.0 == 1 else true) allowed.step (by (n == FACTOR_TIES) refl)
  where
    by : (b : Bool) → (n == FACTOR_TIES) ≡ b → (if n == FACTOR_TIES then row.0 == 1 else true) ≡ true
    by true e = let one : row.0 ≡ 1 = allowed.ties (grind (arith, nat_tests)) in rw e (grind (arith, nat_tests))
    by false e = rw e refl

-- so one that doesn't pass may not
not_allowed : (n : ℕ) (row : Row) → is_row n row ≡ false → ¬ (IsAllowedRow n row)
not_allowed n row fails allowed = let passes = passes_of n row allowed in cc

-- rows from number n on, of which row m is the first that doesn't pass
record Found (n : ℕ) (rows : List Row) (m : ℕ) : Type 0 where
  index : ℕ
  counted : m ≡ n + index
  within : index < length rows
  before : (earlier : ℕ) → earlier < index → is_row (n + earlier) (get_or rows earlier (1, HalfAway)) ≡ true
  fails : is_row m (get_or rows index (1, HalfAway)) ≡ false

-- the rows before it pass, the first one among them
before_more : (n : ℕ) (row : Row) (rows : List Row) (index : ℕ) → is_row n row ≡ true →
    ((earlier : ℕ) → earlier < index → is_row (n + 1 + earlier) (get_or rows earlier (1, HalfAway)) ≡ true) →
    (earlier : ℕ) → earlier < suc index → is_row (n + earlier) (get_or (row ∷ rows) earlier (1, HalfAway)) ≡ true
before_more n row rows index here rest zero early =
    let P : ℕ → Type 0 = λ m. is_row m row ≡ true in subst P (omega arith) here
before_more n row rows index here rest (suc earlier) early =
    let P : ℕ → Type 0 = λ m. is_row m (get_or rows earlier (1, HalfAway)) ≡ true in subst P (omega arith) (rest earlier (omega arith))

-- the row that the search finds
found : (n : ℕ) (rows : List Row) (m : ℕ) → first_bad_row n rows ≡ Some m → Found n rows m
found n [] m some = cc
found n (row ∷ rows) m some = by (is_row n row) refl some (found (n + 1) rows m)
  where
    by : (b : Bool) → is_row n row ≡ b → (if is_row n row then first_bad_row (n + 1) rows else Some n) ≡ Some m →
        (first_bad_row (n + 1) rows ≡ Some m → Found (n + 1) rows m) → Found n (row ∷ rows) m
    by true e some later =
        let rest = later (rw e at some) in
        record {
          index = suc rest.index;
          counted = omega (arith, rest.counted);
          within = omega (arith, rest.within);
          before = before_more n row rows rest.index e rest.before;
          fails = rest.fails;
        }
    by false e some later =
        let here : Some n ≡ Some m = (rw e at some) in
        let same : n ≡ m = cc in
        let P : ℕ → Type 0 = λ number. is_row number row ≡ false in
        record {
          index = 0;
          counted = omega (arith, same);
          within = omega arith;
          before = λ earlier early. absurd (omega (arith, early));
          fails = subst P same e;
        }

-- the row that the search finds is the first bad one
pub first_bad_of : (rows : List Row) (n : ℕ) → first_bad_row 1 rows ≡ Some n → IsFirstBadRow rows n
first_bad_of rows n some =
    let first = found 1 rows n some in
    let P : ℕ → Type 0 = λ index. is_row n (get_or rows index (1, HalfAway)) ≡ false in
    let at_number : first.index ≡ n - 1 = omega (arith, first.counted) in
    record {
      low = omega (arith, first.counted);
      high = omega (arith, first.counted, first.within);
      before = λ earlier some early.
          let Q : ℕ → Type 0 = λ number. is_row number (row_at rows earlier) ≡ true in
          let number : 1 + (earlier - 1) ≡ earlier = omega (arith, some) in
          allowed_of earlier (row_at rows earlier) (subst Q number (first.before (earlier - 1) (omega (arith, some, early, first.counted))));
      bad = not_allowed n (row_at rows n) (subst P at_number first.fails);
    }
