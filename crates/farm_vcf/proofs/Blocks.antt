-- Rows in blocks are a grid.
use Rattle.std.proofs.Common.{◌≡◌, ◌⊎◌, inl, inr, ℕ, zero, suc, ◌+◌, ◌-◌, ◌*◌, ◌<◌, ◌≤◌, Bool, true, false, ◌==◌, if◌then◌else◌, List, [], ◌∷◌, length, get_or, take, drop, Some, None, refl, sym, subst, ◌∙◌, ap, arith}
use Rattle.std.proofs.lemmas.Bool.Decides.{nat_tests}
use Rattle.std.proofs.lemmas.Int.{ints}
use Rattle.std.proofs.lemmas.List.{take_all, length-map, length-take, length-drop}
use Rattle.std.specs.Int.RustNames.{int_lt}
use Rattle.std.specs.Ordering.{int_eq}
use Rattle.std.specs.Prelude.{ℤ, ◌<ℤ◌, Err}
use Rattle.farm_base.proofs.BoolTests.{and_parts}
use Rattle.farm_vcf.specs.declared.rows.Listed.{Listed}
use Rattle.farm_vcf.specs.Closest.{Rises, listed_at}
use Rattle.farm_vcf.specs.Faults.{NotGrid}
use Rattle.farm_vcf.specs.Grid.{IsGrid}
use Rattle.farm_vcf.specs.Rows.{continues, densities_from, discontinued_from, factors_of, grid_of_blocks, grid_of_rows, next_column, temperatures_of, unrisen, unrisen_from}

-- each value is above the one before, of which the first stands before the list
abbrev RisesFrom : ℤ → List ℤ → Type 0
RisesFrom before [] = Unit {0}
RisesFrom before (value ∷ values) = (before <ℤ value) × RisesFrom value values

-- each of rising values is below the next
steps_of : (before : ℤ) (values : List ℤ) → RisesFrom before values → (index : ℕ) → index + 1 < length (before ∷ values) → listed_at (before ∷ values) index <ℤ listed_at (before ∷ values) (index + 1)
steps_of before [] up index within = absurd (omega arith)
steps_of before (value ∷ values) up zero within = up.0
steps_of before (value ∷ values) up (suc index) within =
    let P : ℕ → Type 0 = λ m. listed_at (value ∷ values) index <ℤ listed_at (before ∷ value ∷ values) m in
    let next : suc (index + 1) ≡ suc index + 1 = omega arith in
    subst P next (steps_of value values up.1 index (omega arith))

-- so they rise as a list
rises_of : (before : ℤ) (values : List ℤ) → RisesFrom before values → Rises (before ∷ values)
rises_of before values up = record { steps = steps_of before values up }

-- temperatures rise where no row is found that doesn't
temperatures_rise : (number : ℕ) (before : ℤ) (rows : List Listed) → unrisen_from number before rows ≡ None → RisesFrom before (temperatures_of rows)
temperatures_rise number before [] none = tt
temperatures_rise number before (row ∷ rows) none = by (int_lt before row.temperature) refl none (temperatures_rise (number + 1) row.temperature rows)
  where
    by : (b : Bool) → int_lt before row.temperature ≡ b → (if int_lt before row.temperature then unrisen_from (number + 1) row.temperature rows else Some number) ≡ None
        → (unrisen_from (number + 1) row.temperature rows ≡ None → RisesFrom row.temperature (temperatures_of rows)) → (before <ℤ row.temperature) × RisesFrom row.temperature (temperatures_of rows)
    by true e found more = (grind (arith, ints), more (rw e at found))
    by false e found more = let bad : Some number ≡ None = (rw e at found) in cc

-- the temperatures of a block rise where no row of it is reported
block_rises : (rows : List Listed) → unrisen rows ≡ None → Rises (temperatures_of rows)
block_rises [] none = record { steps = λ index within. absurd (omega arith) }
block_rises (row ∷ rows) none = rises_of row.temperature (temperatures_of rows) (temperatures_rise 2 row.temperature rows none)

-- a row that goes on, and those after it
goes_on : (temperatures : List ℤ) (number : ℕ) (before : ℤ) (column : ℕ) (row : Listed) (rows : List Listed) → discontinued_from temperatures number before column (row ∷ rows) ≡ None →
    (continues (listed_at temperatures column) before column row ≡ true) × (discontinued_from temperatures (number + 1) row.density (next_column (length temperatures) column) rows ≡ None)
goes_on temperatures number before column row rows none = by (continues (listed_at temperatures column) before column row) refl none
  where
    by : (b : Bool) → continues (listed_at temperatures column) before column row ≡ b →
        (if continues (listed_at temperatures column) before column row then discontinued_from temperatures (number + 1) row.density (next_column (length temperatures) column) rows else Some number) ≡ None →
        (continues (listed_at temperatures column) before column row ≡ true) × (discontinued_from temperatures (number + 1) row.density (next_column (length temperatures) column) rows ≡ None)
    by true e found = (e, rw e at found)
    by false e found = let bad : Some number ≡ None = (rw e at found) in cc

-- a row that begins a block has a density above the one before
pub begins : (temperature before : ℤ) (row : Listed) → continues temperature before 0 row ≡ true → before <ℤ row.density
begins temperature before row on = let above : int_lt before row.density ≡ true = (and_parts (int_eq row.temperature temperature) (int_lt before row.density) on).1 in grind (arith, ints)

-- numbers that pass the test of equality are equal
pub int_eq_same : (a b : ℤ) → int_eq a b ≡ true → a ≡ b
int_eq_same a b same = grind (arith, ints, nat_tests)

-- no later column is the first
pub not_zero : (column : ℕ) → (suc column == 0) ≡ false
not_zero column = grind (arith, nat_tests)

-- a row within a block has its density
pub stays : (temperature before : ℤ) (column : ℕ) (row : Listed) → continues temperature before (suc column) row ≡ true → row.density ≡ before
stays temperature before column row on =
    let within = not_zero column in
    int_eq_same row.density before (and_parts (int_eq row.temperature temperature) (int_eq row.density before) (rw within at on)).1

-- the densities of the blocks rise
densities_rise : (temperatures : List ℤ) (number : ℕ) (before : ℤ) (column : ℕ) (rows : List Listed) → discontinued_from temperatures number before column rows ≡ None → RisesFrom before (densities_from (length temperatures) column rows)
densities_rise temperatures number before column [] none = tt
densities_rise temperatures number before zero (row ∷ rows) none =
    let on = goes_on temperatures number before 0 row rows none in
    (begins (listed_at temperatures 0) before row on.0, densities_rise temperatures (number + 1) row.density (next_column (length temperatures) 0) rows on.1)
densities_rise temperatures number before (suc column) (row ∷ rows) none =
    let on = goes_on temperatures number before (suc column) row rows none in
    let same : row.density ≡ before = stays (listed_at temperatures (suc column)) before column row on.0 in
    let P : ℤ → Type 0 = λ d. RisesFrom d (densities_from (length temperatures) (next_column (length temperatures) (suc column)) rows) in
    let inside = not_zero column in
    rw inside (subst P same (densities_rise temperatures (number + 1) row.density (next_column (length temperatures) (suc column)) rows on.1))

-- 1 within a block, and 0 between blocks
abbrev pub begun : ℕ → ℕ
begun zero = 0
begun (suc column) = 1

-- the next column is the first, after the last, or the one after this
pub begun_in : (width column next : ℕ) → column < width → next ≡ next_column width column →
    ((next ≡ 0) × (column + 1 ≡ width)) ⊎ ((next ≡ column + 1) × (column + 1 < width))
begun_in width column next within is = by (column + 1 == width) refl
  where
    by : (b : Bool) → (column + 1 == width) ≡ b → ((next ≡ 0) × (column + 1 ≡ width)) ⊎ ((next ≡ column + 1) × (column + 1 < width))
    by true e = inl (rw e at is, grind (arith, nat_tests))
    by false e = inr (rw e at is, grind (arith, nat_tests))

-- a block is begun after any of its rows
pub begun_next : (column : ℕ) → begun (column + 1) ≡ 1
begun_next column = let P : ℕ → Type 0 = λ m. begun m ≡ 1 in let e : suc column ≡ column + 1 = omega arith in subst P e refl

-- rows that end with no row reported end a block
ends : (column number : ℕ) → (if column == 0 then None else Some number) ≡ None → column ≡ 0
ends zero number none = refl
ends (suc column) number none = let inside = not_zero column in let bad : Some number ≡ None = (rw inside at none) in cc

-- the rows after the first block are as many as the blocks are long
whole_blocks : (temperatures : List ℤ) (number : ℕ) (before : ℤ) (column : ℕ) (rows : List Listed) → column < length temperatures → discontinued_from temperatures number before column rows ≡ None →
    length rows + column ≡ (length (densities_from (length temperatures) column rows) + begun column) * length temperatures
whole_blocks temperatures number before column [] within none =
    let P : ℕ → Type 0 = λ m. 0 + m ≡ (0 + begun m) * length temperatures in
    subst P (sym (ends column number none)) (omega arith)
whole_blocks temperatures number before zero (row ∷ rows) within none =
    let on = goes_on temperatures number before 0 row rows none in
    let next = next_column (length temperatures) 0 in
    elim (begun_in (length temperatures) 0 next within refl) [
      | inl t ↦
          let rest = whole_blocks temperatures (number + 1) row.density next rows (omega (arith, t.0)) on.1 in
          let zero_begun : begun next ≡ 0 = ap begun t.0 in
          let rest_is = rw zero_begun at rest in
          omega (arith, rest_is, t.0, t.1)
      | inr t ↦
          let rest = whole_blocks temperatures (number + 1) row.density next rows (omega (arith, t.0, t.1)) on.1 in
          let one_begun : begun next ≡ 1 = ap begun t.0 ∙ begun_next 0 in
          let rest_is = rw one_begun at rest in
          omega (arith, rest_is, t.0, t.1)
    ]
whole_blocks temperatures number before (suc column) (row ∷ rows) within none =
    let on = goes_on temperatures number before (suc column) row rows none in
    let inside = not_zero column in
    let next = next_column (length temperatures) (suc column) in
    elim (begun_in (length temperatures) (suc column) next within refl) [
      | inl t ↦
          let rest = whole_blocks temperatures (number + 1) row.density next rows (omega (arith, t.0)) on.1 in
          let zero_begun : begun next ≡ 0 = ap begun t.0 in
          let rest_is = rw zero_begun at rest in
          rw inside (omega (arith, rest_is, t.0, t.1))
      | inr t ↦
          let rest = whole_blocks temperatures (number + 1) row.density next rows (omega (arith, t.0, t.1)) on.1 in
          let one_begun : begun next ≡ 1 = ap begun t.0 ∙ begun_next (suc column) in
          let rest_is = rw one_begun at rest in
          rw inside (omega (arith, rest_is, t.0, t.1))
    ]

-- the first block has as many temperatures as its width
pub width_of_block : (width : ℕ) (rows : List Listed) → width ≤ length rows → length (temperatures_of (take width rows)) ≡ width
width_of_block width rows within = simp (length-map, length-take) (omega arith)

-- the rows are those of the first block and of the others
count_all : (rows width blocks later : ℕ) → later ≡ rows - width → width ≤ rows → later + 0 ≡ (blocks + 0) * width → rows ≡ suc blocks * width
count_all rows width blocks later cut within each = omega arith

-- there is a row for each density and temperature
pub row_for_each : (width : ℕ) (density : ℤ) (rows : List Listed) → 0 < width → width ≤ length rows →
    discontinued_from (temperatures_of (take width rows)) (length (temperatures_of (take width rows)) + 1) density 0 (drop width rows) ≡ None →
    length rows ≡ suc (length (densities_from width 0 (drop width rows))) * length (temperatures_of (take width rows))
row_for_each width density rows some within whole =
    let wide : length (temperatures_of (take width rows)) ≡ width = width_of_block width rows within in
    let count = whole_blocks (temperatures_of (take width rows)) (length (temperatures_of (take width rows)) + 1) density 0 (drop width rows) (omega arith) whole in
    let each : length (drop width rows) + 0 ≡ (length (densities_from width 0 (drop width rows)) + 0) * width = rw wide at count in
    count_all (length rows) width (length (densities_from width 0 (drop width rows))) (length (drop width rows)) (simp length-drop) within each ∙ ap (λ m. suc (length (densities_from width 0 (drop width rows))) * m) (sym wide)

-- rows in whole blocks are a grid
pub blocks_are_grid : (width : ℕ) (density : ℤ) (rows : List Listed) → 0 < width → width ≤ length rows → length rows ≤ 100000 →
    unrisen (take width rows) ≡ None → discontinued_from (temperatures_of (take width rows)) (length (temperatures_of (take width rows)) + 1) density 0 (drop width rows) ≡ None →
    IsGrid (grid_of_blocks width density rows)
blocks_are_grid width density rows some within few none whole =
    let wide : length (temperatures_of (take width rows)) ≡ width = width_of_block width rows within in
    let up = densities_rise (temperatures_of (take width rows)) (length (temperatures_of (take width rows)) + 1) density 0 (drop width rows) whole in
    let all : length (factors_of rows) ≡ length rows = simp length-map in
    record {
      densities_rise = rises_of density _ (rw wide at up);
      temperatures_rise = block_rises (take width rows) none;
      one_for_each = all ∙ row_for_each width density rows some within whole;
      some = omega (arith, all);
      not_too_many = omega (arith, all);
    }

-- a number passes the test of equality with itself
pub int_eq_itself : (a : ℤ) → int_eq a a ≡ true
int_eq_itself a = grind (arith, ints, nat_tests)

-- no rows are no grid, from the first on
pub no_rows : (rows : List Listed) → length rows < 1 → grid_of_rows rows ≡ Err (NotGrid 1)
unfolding grid_of_rows
no_rows [] none = refl
no_rows (row ∷ rows) none = absurd (omega arith)

-- some rows are the first and those after it, as a slice of them shows
pub some_rows : (first : Listed) (rows : List Listed) → first ≡ get_or rows 0 first → 1 ≤ length rows → grid_of_rows rows ≡ grid_of_rows (first ∷ take (length rows - 1) (drop 1 rows))
some_rows first [] is some = absurd (omega arith)
some_rows first (row ∷ rows) is some =
    let same : row ≡ first = sym is in
    let whole : take (length (row ∷ rows) - 1) rows ≡ rows = take_all _ rows (omega arith) in
    ap (λ list. grid_of_rows (row ∷ list)) (sym whole) ∙ ap (λ r. grid_of_rows (r ∷ take (length (row ∷ rows) - 1) rows)) same
