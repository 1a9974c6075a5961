-- Rows of a rounding table, one after another.
use Rattle.std.proofs.Common.{◌≡◌, ℕ, ◌+◌, ◌<◌, Bool, true, false, IsTrue, List, [], ◌∷◌, ◌++◌, map, length, get_or, set, take, drop, None, Some, Ok, refl, subst, arith}
use Rattle.std.proofs.lemmas.List.{drop_more, length-take-le, take_more_set}
use Rattle.toml.specs.View.{view}
use Rattle.toml.specs.declared.value.Value.{Value}
use Rattle.farm_rounding.specs.Table.{Row, is_row, first_bad_row}
use Rattle.farm_site.specs.declared.formats.Format.{Format}
use Rattle.site_toml.specs.Rounding.{row_of_value, rows_after}

-- a row that may stand first, before rows that may stand after it
good_first : (n : ℕ) (row : Row) (rows : List Row) (b : Bool) → is_row n row ≡ b → first_bad_row n (row ∷ rows) ≡ None →
    IsTrue (is_row n row) × (first_bad_row (n + 1) rows ≡ None)
good_first n row rows true is good = (is, rw is at good)
good_first n row rows false is good = let bad : Some n ≡ None = (rw is at good) in cc

-- rows that may stand, and one more
good_more : (n : ℕ) (rows : List Row) (row : Row) → first_bad_row n rows ≡ None → IsTrue (is_row (n + length rows) row) →
    first_bad_row n (rows ++ row ∷ []) ≡ None
good_more n [] row good allowed =
    let P : ℕ → Type 0 = λ m. IsTrue (is_row m row) in
    let here : IsTrue (is_row n row) = subst P (omega arith) allowed in
    rw here refl
good_more n (first ∷ rows) row good allowed =
    let P : ℕ → Type 0 = λ m. IsTrue (is_row m row) in
    let both : IsTrue (is_row n first) × (first_bad_row (n + 1) rows ≡ None) = good_first n first rows (is_row n first) refl good in
    rw both.0 (good_more (n + 1) rows row both.1 (subst P (omega arith) allowed))

-- the rows that a loop has filled, once it fills one more
pub good_filled : (rows : List Row) (i : ℕ) (row : Row) → i < length rows → first_bad_row 1 (take i rows) ≡ None →
    IsTrue (is_row (i + 1) row) → first_bad_row 1 (take (i + 1) (set rows i row)) ≡ None
good_filled rows i row within good allowed =
    let P : ℕ → Type 0 = λ m. IsTrue (is_row m row) in
    let count : length (take i rows) ≡ i = length-take-le i rows (omega arith) in
    rw (take_more_set rows i row within) (good_more 1 (take i rows) row good (subst P (omega (arith, count)) allowed))

-- and the rows that come of the values that are left
pub rows_filled : (format : Format) (rows : List Row) (values : List Value) (i : ℕ) (value : Value) (row : Row) → i < length rows → i < length values →
    value ≡ get_or values i value → row_of_value format (i + 1) (view value) ≡ Ok row →
    rows_after format (take (i + 1) (set rows i row)) (map view (drop (i + 1) values)) ≡ rows_after format (take i rows) (map view (drop i values))
rows_filled format rows values i value row room within is read =
    rw (take_more_set rows i row room, drop_more values i value within, ← is, length-take-le i rows (omega arith), read) refl
