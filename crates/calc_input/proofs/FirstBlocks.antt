-- First blocks: rows have one; that of the first rows is cut off at their end; a row continues the blocks of all rows as those up to it.
use Rattle.std.proofs.Common.{◌≡◌, ◌⊎◌, inl, inr, ℕ, zero, suc, ◌+◌, ◌-◌, ◌%◌, ◌<◌, ◌≤◌, Bool, true, false, nat_lt, min, List, [], ◌∷◌, length, take, refl, sym, subst, ◌∙◌, arith}
use Rattle.std.proofs.lemmas.Bool.Decides.{nat_tests}
use Rattle.std.proofs.lemmas.List.{length-take}
use Rattle.farm_vcf.specs.declared.rows.Listed.{Listed}
use Rattle.farm_vcf.specs.Blocks.{GoesOn, IsFirstBlock, density_of, temperature_of}
use Rattle.farm_vcf.proofs.Breaks.{of_block}

-- the density of one of the first rows
density_of_first : (few : ℕ) (rows : List Listed) (index : ℕ) → index < few → density_of (take few rows) index ≡ density_of rows index
density_of_first zero rows index within = absurd (omega arith)
density_of_first (suc few) [] index within = refl
density_of_first (suc few) (row ∷ rows) zero within = refl
density_of_first (suc few) (row ∷ rows) (suc index) within = density_of_first few rows index (omega arith)

-- the first block of rows is not empty
some_in_block : (width : ℕ) (rows : List Listed) → 0 < length rows → IsFirstBlock width rows → 0 < width
some_in_block zero rows some block = absurd (block.another some refl)
some_in_block (suc width) rows some block = omega arith

-- rows have one first block
no_shorter_block : (width other : ℕ) (rows : List Listed) → IsFirstBlock width rows → IsFirstBlock other rows → width < other → ⊥
no_shorter_block width other rows block longer less = block.another (omega (arith, longer.within)) (longer.one_density width less)

-- so the widths of two first blocks are the same
pub one_first_block : (width other : ℕ) (rows : List Listed) → IsFirstBlock width rows → IsFirstBlock other rows → width ≡ other
one_first_block width other rows block same = by (nat_lt width other) refl (nat_lt other width) refl
  where
    by : (b : Bool) → nat_lt width other ≡ b → (c : Bool) → nat_lt other width ≡ c → width ≡ other
    by true e c d = absurd (no_shorter_block width other rows block same (grind (arith, nat_tests)))
    by false e true d = absurd (no_shorter_block other width rows same block (grind (arith, nat_tests)))
    by false e false d = grind (arith, nat_tests)

-- the first block of the first rows
block_of_first : (width few : ℕ) (rows : List Listed) → 0 < few → few ≤ length rows → IsFirstBlock width rows → IsFirstBlock (min width few) (take few rows)
block_of_first width few rows some within block = record {
  within = omega (arith, length-take few rows);
  one_density = λ index inside.
      density_of_first few rows index (omega arith) ∙ block.one_density index (omega arith) ∙ sym (density_of_first few rows 0 some);
  another = λ less.
      let shorter : width < few = omega (arith, length-take few rows) in
      let least : min width few ≡ width = omega arith in
      let P : ℕ → Type 0 = λ w. ¬ (density_of (take few rows) w ≡ density_of (take few rows) 0) in
      subst P (sym least) (λ same. block.another (omega arith) (sym (density_of_first few rows width shorter) ∙ same ∙ density_of_first few rows 0 some));
}

-- A row continues the blocks of all rows as it does those of the rows up to it.
same_going : (width other : ℕ) (rows others : List Listed) (index : ℕ) → 0 < width →
    ((k : ℕ) → k ≤ index → temperature_of others k ≡ temperature_of rows k) → ((k : ℕ) → k ≤ index → density_of others k ≡ density_of rows k) →
    (other ≡ width) ⊎ ((index < other) × (index < width)) → GoesOn width rows index → GoesOn other others index
same_going width other rows others index some temperatures densities (inr both) on = record {
  risen = λ positive inside. rw (temperatures (index - 1) (omega arith), temperatures index (omega arith)) (on.risen positive both.1);
  repeated = λ late. absurd (omega (arith, late, both.0));
  begun = λ late start. absurd (omega (arith, late, both.0));
  kept = λ late inner. absurd (omega (arith, late, both.0));
}
same_going width other rows others index some temperatures densities (inl same) on =
    let P : ℕ → Type 0 = λ w. GoesOn w others index in
    subst P (sym same) (record {
      risen = λ positive inside. rw (temperatures (index - 1) (omega arith), temperatures index (omega arith)) (on.risen positive inside);
      repeated = λ late. temperatures index (omega arith) ∙ on.repeated late ∙ sym (temperatures (index % width) (omega arith));
      begun = λ late start. rw (densities (index - 1) (omega arith), densities index (omega arith)) (on.begun late start);
      kept = λ late inner. densities index (omega arith) ∙ on.kept late inner ∙ sym (densities (index - 1) (omega arith));
    })

-- the widths of the first block of all rows and of the rows up to one
width_up_to : (width index : ℕ) → (min width (index + 1) ≡ width) ⊎ ((index < min width (index + 1)) × (index < width))
width_up_to width index = by (nat_lt index width) refl
  where
    by : (b : Bool) → nat_lt index width ≡ b → (min width (index + 1) ≡ width) ⊎ ((index < min width (index + 1)) × (index < width))
    by true e = let less : index < width = grind (arith, nat_tests) in inr (omega arith, less)
    by false e = let more : width ≤ index = grind (arith, nat_tests) in inl (omega arith)

-- the same, the other way round
swapped : (width index : ℕ) → (width ≡ min width (index + 1)) ⊎ ((index < width) × (index < min width (index + 1)))
swapped width index = elim (width_up_to width index) [ inl same ↦ inl (sym same) | inr both ↦ inr (both.1, both.0) ]

-- a row that continues all rows continues those up to it, whatever their first block
pub goes_on_up_to : (width : ℕ) (rows : List Listed) (index : ℕ) → index < length rows → IsFirstBlock width rows → GoesOn width rows index →
    (other : ℕ) → IsFirstBlock other (take (index + 1) rows) → GoesOn other (take (index + 1) rows) index
goes_on_up_to width rows index within block on other its_block =
    let some = some_in_block width rows (omega arith) block in
    let mine = block_of_first width (index + 1) rows (omega arith) (omega arith) block in
    let same : min width (index + 1) ≡ other = one_first_block (min width (index + 1)) other (take (index + 1) rows) mine its_block in
    let P : ℕ → Type 0 = λ w. GoesOn w (take (index + 1) rows) index in
    subst P same
    (same_going width (min width (index + 1)) rows (take (index + 1) rows) index some
    (λ k early. of_block (index + 1) rows k (omega arith)) (λ k early. density_of_first (index + 1) rows k (omega arith))
    (width_up_to width index) on)

-- and back
pub goes_on_in_all : (width : ℕ) (rows : List Listed) (index : ℕ) → index < length rows → IsFirstBlock width rows →
    ((other : ℕ) → IsFirstBlock other (take (index + 1) rows) → GoesOn other (take (index + 1) rows) index) → GoesOn width rows index
goes_on_in_all width rows index within block on =
    let some = some_in_block width rows (omega arith) block in
    let mine = block_of_first width (index + 1) rows (omega arith) (omega arith) block in
    same_going (min width (index + 1)) width (take (index + 1) rows) rows index (omega arith)
    (λ k early. sym (of_block (index + 1) rows k (omega arith))) (λ k early. sym (density_of_first (index + 1) rows k (omega arith)))
    (swapped width index) (on (min width (index + 1)) mine)
