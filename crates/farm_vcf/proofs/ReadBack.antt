-- Rows in whole blocks are read back off their grid.
use Rattle.std.proofs.Common.{◌≡◌, inl, inr, ℕ, zero, suc, ◌+◌, ◌-◌, ◌*◌, ◌%◌, ◌<◌, ◌≤◌, List, [], ◌∷◌, length, drop, refl, sym, ◌∙◌, ap, arith}
use Rattle.std.proofs.lemmas.Nat.{mod-mul-add}
use Rattle.std.specs.Prelude.{ℤ}
use Rattle.farm_vcf.specs.declared.rows.Listed.{Listed}
use Rattle.farm_vcf.specs.Closest.{listed_at}
use Rattle.farm_vcf.specs.Blocks.{GoesOn, IsFirstBlock, density_of, temperature_of}
use Rattle.farm_vcf.specs.Rows.{densities_from, next_column}
use Rattle.farm_vcf.proofs.Blocks.{begun, begun_in, begun_next, not_zero}
use Rattle.farm_vcf.proofs.Breaks.{stands_at}

-- the densities of the blocks are those of their first rows
densities_read : (rows left : List Listed) (width column block index : ℕ) → drop index rows ≡ left → column < width → index + begun column * width ≡ block * width + column →
    (place : ℕ) → place < length (densities_from width column left) → listed_at (densities_from width column left) place ≡ density_of rows ((block + place) * width)
densities_read rows [] width column block index is inside count place within = absurd (omega arith)
densities_read rows (row ∷ left) width zero block index is inside count zero within =
    let s = stands_at rows index row left is in
    let here : index ≡ (block + 0) * width = omega (arith, count) in
    sym s.density ∙ ap (density_of rows) here
densities_read rows (row ∷ left) width zero block index is inside count (suc place) within =
    let s = stands_at rows index row left is in
    let next = next_column width 0 in
    let further : (block + 1) + place ≡ block + suc place = omega arith in
    let further_on : suc index + begun next * width ≡ (block + 1) * width + next = elim (begun_in width 0 next inside refl) [
      | inl t ↦ let zero_begun : begun next ≡ 0 = ap begun t.0 in rw zero_begun (omega (arith, count, t.0, t.1))
      | inr t ↦ let one_begun : begun next ≡ 1 = ap begun t.0 ∙ begun_next 0 in rw one_begun (omega (arith, count, t.0))
    ] in
    let in_next : next < width = elim (begun_in width 0 next inside refl) [ inl t ↦ omega (arith, inside, t.0) | inr t ↦ omega (arith, t.0, t.1) ] in
    densities_read rows left width next (block + 1) (suc index) s.after in_next further_on place (omega (arith, within)) ∙ ap (λ n. density_of rows (n * width)) further
densities_read rows (row ∷ left) width (suc column) block index is inside count place within =
    let s = stands_at rows index row left is in
    let middle = not_zero column in
    let next = next_column width (suc column) in
    let further_on : suc index + begun next * width ≡ block * width + next = elim (begun_in width (suc column) next inside refl) [
      | inl t ↦ let zero_begun : begun next ≡ 0 = ap begun t.0 in rw zero_begun (omega (arith, count, t.0, t.1))
      | inr t ↦ let one_begun : begun next ≡ 1 = ap begun t.0 ∙ begun_next (suc column) in rw one_begun (omega (arith, count, t.0))
    ] in
    let in_next : next < width = elim (begun_in width (suc column) next inside refl) [ inl t ↦ omega (arith, inside, t.0) | inr t ↦ omega (arith, t.0, t.1) ] in
    let there : place < length (densities_from width next left) = rw middle at within in
    rw middle (densities_read rows left width next block (suc index) s.after in_next further_on place there)

-- each block's density
pub density_read : (width : ℕ) (density : ℤ) (rows : List Listed) → 0 < width → density ≡ density_of rows 0 →
    (block : ℕ) → block < length (density ∷ densities_from width 0 (drop width rows)) → listed_at (density ∷ densities_from width 0 (drop width rows)) block ≡ density_of rows (block * width)
density_read width density rows some first zero within = let start : 0 ≡ zero * width = omega arith in first ∙ ap (density_of rows) start
density_read width density rows some first (suc block) within =
    let next : (1 + block) * width ≡ suc block * width = omega arith in
    densities_read rows (drop width rows) width 0 1 width refl some (omega arith) block (omega (arith, within)) ∙ ap (density_of rows) next

-- the rows of a block have its density
pub density_along : (width : ℕ) (rows : List Listed) → IsFirstBlock width rows → ((index : ℕ) → index < length rows → GoesOn width rows index) →
    (block column : ℕ) → column < width → block * width + column < length rows → density_of rows (block * width + column) ≡ density_of rows (block * width)
density_along width rows first on zero column inside within =
    let here : zero * width + column ≡ column = omega arith in
    let start : zero * width ≡ 0 = omega arith in
    ap (density_of rows) here ∙ first.one_density column inside ∙ ap (density_of rows) (sym start)
density_along width rows first on (suc block) zero inside within =
    let here : suc block * width + zero ≡ suc block * width = omega arith in ap (density_of rows) here
density_along width rows first on (suc block) (suc column) inside within =
    let later : width ≤ suc block * width + suc column = omega arith in
    let back : (suc block * width + suc column) - 1 ≡ suc block * width + column = omega arith in
    let place : (suc block * width + suc column) % width ≡ suc column = mod-mul-add (suc block) width (suc column) inside in
    (on (suc block * width + suc column) within).kept later (λ z. omega (arith, sym place ∙ z)) ∙ ap (density_of rows) back ∙ density_along width rows first on (suc block) column (omega (arith, inside)) (omega (arith, within))

-- the rows of a block have the temperatures of the first
pub temperature_along : (width : ℕ) (rows : List Listed) → ((index : ℕ) → index < length rows → GoesOn width rows index) →
    (block column : ℕ) → column < width → block * width + column < length rows → temperature_of rows (block * width + column) ≡ temperature_of rows column
temperature_along width rows on zero column inside within = let here : zero * width + column ≡ column = omega arith in ap (temperature_of rows) here
temperature_along width rows on (suc block) column inside within =
    let later : width ≤ suc block * width + column = omega arith in
    (on (suc block * width + column) within).repeated later ∙ ap (temperature_of rows) (mod-mul-add (suc block) width column inside)
