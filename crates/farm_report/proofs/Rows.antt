-- The rows of issued tables, one after another, and what a buffer begins with.
use native.Mathlib.Numerals.{unary_clauses}
use Rattle.std.proofs.Common.{◌≡◌, ℕ, zero, suc, ◌+◌, ◌*◌, ◌<◌, List, [], ◌∷◌, ◌++◌, length, take, slice_index_or, ℤ, ◌∙◌, arith, append_assoc, append-nil}
use Rattle.farm_report.specs.Issued.{row_line, rows_from}

-- the lines of one row more
rows_from-take : (index i : ℕ) (rows : List ℤ) (d : ℤ) → i < length rows →
    rows_from index (take (suc i) rows) ≡ rows_from index (take i rows) ++ row_line (10 * (index + i)) (slice_index_or rows i d)
rows_from-take index i [] d h = absurd (omega (arith, h))
rows_from-take index zero (litres ∷ rows) d h = simp (unary_clauses, append-nil)
rows_from-take index (suc i) (litres ∷ rows) d h =
    let rest = rows_from-take (index + 1) i rows d (omega (arith, h)) in
    let same : index + 1 + i ≡ index + suc i = omega arith in rw (rest, same, append_assoc (row_line (10 * index) litres) (rows_from (index + 1) (take i rows)))

-- a row appended after the rows before it
pub one_row_more : (front held new : List ℕ) (i : ℕ) (rows : List ℤ) (d : ℤ) → i < length rows →
    held ≡ front ++ rows_from 0 (take i rows) → new ≡ held ++ row_line (10 * i) (slice_index_or rows i d) →
    new ≡ front ++ rows_from 0 (take (i + 1) rows)
one_row_more front held new i rows d h before row =
    let same : 0 + i ≡ i = omega arith in
    let next : i + 1 ≡ suc i = omega arith in
    row ∙ rw (next, rows_from-take 0 i rows d h, same, before, append_assoc front)
