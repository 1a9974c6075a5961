-- The grid of rows in the words of the rule: the rows are its blocks, or they break first at the row of the fault.
use Rattle.std.proofs.Common.{◌≡◌, inl, inr, ℕ, zero, suc, ◌+◌, ◌*◌, ◌%◌, ◌<◌, ◌≤◌, Bool, true, false, if◌then◌else◌, List, [], ◌∷◌, length, take, drop, Option, Some, None, nat_lt, refl, sym, subst, ◌∙◌, ap, arith}
use Rattle.std.proofs.Math.Nat.{mul-mod_left}
use Rattle.std.proofs.lemmas.Bool.Decides.{nat_tests}
use Rattle.std.specs.Ordering.{int_eq}
use Rattle.std.specs.Prelude.{ℤ, IfSome, MatchResult, Result, Ok, Err}
use Rattle.farm_base.specs.Steps.{IsRefusedAs}
use Rattle.farm_vcf.specs.declared.fault.VcfFault.{VcfFault}
use Rattle.farm_vcf.specs.Faults.{FactorFault, reported}
use Rattle.farm_vcf.specs.declared.rows.Listed.{Listed}
use Rattle.farm_vcf.specs.Blocks.{AreWhole, BreaksAt, GoesOn, IsFaultOfRows, IsFirstBlock, IsFirstBreak, IsGridOf, density_of}
use Rattle.farm_vcf.specs.Grid.{Grid, IsGrid}
use Rattle.farm_vcf.specs.Rows.{densities_from, discontinued_from, grid_in_blocks, grid_of_blocks, grid_of_rows, temperatures_of, unless, unrisen, width_from}
use Rattle.farm_vcf.proofs.Blocks.{blocks_are_grid, int_eq_itself, int_eq_same, row_for_each, width_of_block}
use Rattle.farm_vcf.proofs.Breaks.{Finds, block_finds, finds_more, later_finds, of_block}
use Rattle.farm_vcf.proofs.Entries.{place_within}
use Rattle.farm_vcf.proofs.ReadBack.{density_along, density_read, temperature_along}

-- rows lead with this number of a density
record Leads (density : ℤ) (rows : List Listed) (width : ℕ) : Type 0 where
  within : width ≤ length rows
  same : (index : ℕ) → index < width → density_of rows index ≡ density
  another : width < length rows → ¬ (density_of rows width ≡ density)

-- one leading row more
lead_more : (density : ℤ) (row : Listed) (rows : List Listed) (width : ℕ) → row.density ≡ density → Leads density rows width → Leads density (row ∷ rows) (suc width)
lead_more density row rows width here more = record {
  within = omega (arith, more.within);
  same = along;
  another = λ left. more.another (omega (arith, left));
}
  where
    along : (index : ℕ) → index < suc width → density_of (row ∷ rows) index ≡ density
    along zero inside = here
    along (suc index) inside = more.same index (omega (arith, inside))

-- no leading row
lead_none : (density : ℤ) (row : Listed) (rows : List Listed) → int_eq row.density density ≡ false → Leads density (row ∷ rows) 0
lead_none density row rows other = record {
  within = omega arith;
  same = λ index inside. absurd (omega (arith, inside));
  another = λ left same. differ same;
}
  where
    differ : row.density ≡ density → ⊥
    differ same = let P : ℤ → Type 0 = λ d. int_eq row.density d ≡ true in let e : int_eq row.density density ≡ true = subst P same (int_eq_itself row.density) in cc

-- the width is that of the leading rows of a density
width_leads : (density : ℤ) (rows : List Listed) → Leads density rows (width_from density rows)
width_leads density [] = record { within = omega arith; same = λ index inside. absurd (omega (arith, inside)); another = λ left. absurd (omega (arith, left)) }
width_leads density (row ∷ rows) = by (int_eq row.density density) refl (width_leads density rows)
  where
    by : (b : Bool) → int_eq row.density density ≡ b → Leads density rows (width_from density rows) → Leads density (row ∷ rows) (if int_eq row.density density then width_from density rows + 1 else 0)
    by true e more =
        let P : ℕ → Type 0 = λ width. Leads density (row ∷ rows) width in
        let next : suc (width_from density rows) ≡ width_from density rows + 1 = omega arith in
        rw e (subst P next (lead_more density row rows (width_from density rows) (int_eq_same row.density density e) more))
    by false e more = rw e (lead_none density row rows e)

-- the leading rows of the first density are the first block
first_block : (row : Listed) (rows : List Listed) → IsFirstBlock (width_from row.density (row ∷ rows)) (row ∷ rows)
first_block row rows =
    let leads = width_leads row.density (row ∷ rows) in
    record { within = leads.within; one_density = leads.same; another = leads.another }

-- the first block has a row
some_first : (row : Listed) (rows : List Listed) → 0 < width_from row.density (row ∷ rows)
some_first row rows = let e = int_eq_itself row.density in rw e (omega arith)

-- the first row goes on
start_goes_on : (width : ℕ) (rows : List Listed) → 0 < width → GoesOn width rows 0
start_goes_on width rows some = record {
  risen = λ positive early. absurd (omega (arith, positive));
  repeated = λ later. absurd (omega (arith, some, later));
  begun = λ later start. absurd (omega (arith, some, later));
  kept = λ later other. absurd (omega (arith, some, later));
}

-- the first block, from its first row
first_finds : (width : ℕ) (rows : List Listed) → 0 < width → width ≤ length rows → Finds width rows 0 width (unrisen (take width rows))
first_finds zero rows some within = absurd (omega (arith, some))
first_finds (suc width) [] some within = absurd (omega (arith, within))
first_finds (suc width) (row ∷ rows) some within =
    finds_more (suc width) (row ∷ rows) 0 (suc width) _ (start_goes_on (suc width) (row ∷ rows) some)
    (block_finds (suc width) (row ∷ rows) (take width rows) 2 1 row.temperature refl refl refl (omega arith) within)

-- the blocks after it
rest_finds : (width : ℕ) (density : ℤ) (rows : List Listed) → IsFirstBlock width rows → 0 < width → density ≡ density_of rows 0 →
    Finds width rows width (length rows) (discontinued_from (temperatures_of (take width rows)) (width + 1) density 0 (drop width rows))
rest_finds width density rows first some is =
    let temperatures = temperatures_of (take width rows) in
    let wide : length (temperatures_of (take width rows)) ≡ width = width_of_block width rows first.within in
    let found = discontinued_from (temperatures_of (take width rows)) (width + 1) density 0 (drop width rows) in
    let P : ℕ → Type 0 = λ m. Finds m rows width (length rows) found in
    subst P wide (later_finds rows temperatures (drop width rows) (width + 1) density 0 width (record {
      is = refl;
      counted = refl;
      density = is ∙ sym (first.one_density _ (omega (arith, some)));
      in_block = omega (arith, wide, some);
      block = 1;
      place = omega (arith, wide);
      later = omega (arith, wide);
      within = first.within;
      repeats = λ other inside. of_block width rows other (omega (arith, wide, inside));
    }))

-- rows that all go on are read back off their grid
is_grid_of : (width : ℕ) (density : ℤ) (rows : List Listed) → IsFirstBlock width rows → 0 < width → density ≡ density_of rows 0 → ((index : ℕ) → index < length rows → GoesOn width rows index) →
    length rows ≡ suc (length (densities_from width 0 (drop width rows))) * length (temperatures_of (take width rows)) → IsGridOf rows (grid_of_blocks width density rows)
is_grid_of width density rows first some is on count =
    let size : ℕ = length (temperatures_of (take width rows)) in
    let wide : length (temperatures_of (take width rows)) ≡ width = width_of_block width rows first.within in
    let First : ℕ → Type 0 = λ m. IsFirstBlock m rows in
    let On : ℕ → Type 0 = λ m. (index : ℕ) → index < length rows → GoesOn m rows index in
    let first_there : IsFirstBlock (length (temperatures_of (take width rows))) rows = subst First (sym wide) first in
    let on_there : (index : ℕ) → index < length rows → GoesOn (length (temperatures_of (take width rows))) rows index = subst On (sym wide) on in
    record {
      first_block = first_there;
      goes_on = on_there;
      whole = record { some = omega (arith, first.within, some); whole = ap (λ m. m % length (temperatures_of (take width rows))) count ∙ mul-mod_left _ _ };
      all = count;
      each = λ row column low left.
          let within = place_within _ (length (temperatures_of (take width rows))) row column (length rows) count low left in
          record {
            density = density_along _ rows first_there on_there row column left within ∙ ap (λ m. density_of rows (row * m)) wide ∙ sym (density_read width density rows some is row low);
            temperature = temperature_along _ rows on_there row column left within ∙ sym (of_block width rows column (omega (arith, wide, left)));
            factor = refl;
          };
    }

-- a first block has one width
one_width : (rows : List Listed) (width other : ℕ) → IsFirstBlock width rows → IsFirstBlock other rows → width < other → ⊥
one_width rows width other first second less = first.another (omega (arith, less, second.within)) (second.one_density width less)

-- there is one first block
same_width : (rows : List Listed) (width other : ℕ) → IsFirstBlock width rows → IsFirstBlock other rows → width ≡ other
same_width rows width other first second = by (nat_lt width other) (nat_lt other width) refl refl
  where
    by : (less more : Bool) → nat_lt width other ≡ less → nat_lt other width ≡ more → width ≡ other
    by true more e f = absurd (one_width rows width other first second (grind (arith, nat_tests)))
    by false true e f = absurd (one_width rows other width second first (grind (arith, nat_tests)))
    by false false e f = grind (arith, nat_tests)

-- rows whose blocks break are those of no grid
no_grid : (width index : ℕ) (rows : List Listed) → IsFirstBlock width rows → BreaksAt width rows index → (grid : Grid) → IsGridOf rows grid → ⊥
no_grid width index rows first breaks grid is =
    let same : length grid.temperatures ≡ width = same_width rows (length grid.temperatures) width is.first_block first in
    let On : ℕ → Type 0 = λ m. GoesOn m rows index in
    let Whole : ℕ → Type 0 = λ m. AreWhole m rows in
    elim breaks [
      | inl here ↦ here.1 (subst On same (is.goes_on index here.0))
      | inr here ↦ here.1 (subst Whole same is.whole)
    ]

-- the blocks break at a row, and then no grid has the rows
break_at : (width index number : ℕ) (rows : List Listed) → number ≡ index + 1 → IsFirstBlock width rows → ((earlier : ℕ) → earlier < index → GoesOn width rows earlier) → BreaksAt width rows index → IsFirstBreak rows number
break_at width index number rows counted first before breaks = record {
  width = width;
  index = index;
  counted = counted;
  first_block = first;
  before = before;
  breaks = breaks;
  no_grid = no_grid width index rows first breaks;
}

-- rows go on in the first block and after it
all_on : (width : ℕ) (rows : List Listed) (end : ℕ) → ((index : ℕ) → 0 ≤ index → index < width → GoesOn width rows index) → ((index : ℕ) → width ≤ index → index < end → GoesOn width rows index) → (index : ℕ) → index < end → GoesOn width rows index
all_on width rows end first later index within = by (nat_lt index width) refl
  where
    by : (b : Bool) → nat_lt index width ≡ b → GoesOn width rows index
    by true e = first index (omega arith) (grind (arith, nat_tests))
    by false e = later index (grind (arith, nat_tests)) within

-- the grid in blocks in the words of the rule
blocks_mean : (width : ℕ) (density : ℤ) (rows : List Listed) → IsFirstBlock width rows → 0 < width → density ≡ density_of rows 0 → MatchResult (grid_in_blocks width density rows) (IsGridOf rows) (IsFaultOfRows rows)
unfolding grid_in_blocks
blocks_mean width density rows first some is =
    by (unrisen (take width rows)) (discontinued_from (temperatures_of (take width rows)) (width + 1) density 0 (drop width rows)) refl
    (first_finds width rows some first.within) (rest_finds width density rows first some is)
  where
    by : (risen found : Option ℕ) → discontinued_from (temperatures_of (take width rows)) (width + 1) density 0 (drop width rows) ≡ found → Finds width rows 0 width risen → Finds width rows width (length rows) found →
        MatchResult (unless risen (unless found (Ok (grid_of_blocks width density rows)))) (IsGridOf rows) (IsFaultOfRows rows)
    by (Some number) found e block later = break_at width block.0 number rows block.1 first (λ earlier early. block.2 earlier (omega arith) early) block.3
    by None (Some number) e block later = break_at width later.0 number rows later.1 first (all_on width rows later.0 block later.2) later.3
    by None None e block later =
        let wide : length (temperatures_of (take width rows)) ≡ width = width_of_block width rows first.within in
        let P : ℕ → Type 0 = λ m. discontinued_from (temperatures_of (take width rows)) (m + 1) density 0 (drop width rows) ≡ None in
        is_grid_of width density rows first some is (all_on width rows (length rows) block later) (row_for_each width density rows some first.within (subst P (sym wide) e))

-- the grid of rows and their fault are right
pub rows_mean : (rows : List Listed) → MatchResult (grid_of_rows rows) (IsGridOf rows) (IsFaultOfRows rows)
unfolding grid_of_rows
rows_mean [] = break_at 0 0 1 [] refl (record { within = omega arith; one_density = λ index inside. absurd (omega (arith, inside)); another = λ left. absurd (omega (arith, left)) })
    (λ earlier early. absurd (omega (arith, early))) (inr (refl, λ whole. absurd (omega (arith, whole.some))))
rows_mean (row ∷ rows) = blocks_mean (width_from row.density (row ∷ rows)) row.density (row ∷ rows) (first_block row rows) (some_first row rows) refl

-- a fault that a call reports is right where the definition's is
pub reported_right : (P : Grid → Type 0) (Q : FactorFault → Type 0) (answer : Result Grid FactorFault) (fault : Option FactorFault) →
    MatchResult answer P Q → IsRefusedAs fault answer → IfSome fault Q
reported_right P Q answer None right is = tt
reported_right P Q answer (Some fault) right is =
    let M : Result Grid FactorFault → Type 0 = λ a. MatchResult a P Q in subst M is right

-- and a grid that a call answers
pub answered_right : (P : Grid → Type 0) (Q : FactorFault → Type 0) (answer : Result Grid FactorFault) (grid : Grid) →
    MatchResult answer P Q → answer ≡ Ok grid → P grid
answered_right P Q answer grid right is =
    let M : Result Grid FactorFault → Type 0 = λ a. MatchResult a P Q in subst M is right

-- so what a call answers for rows is right
pub answer_of_rows : (rows : List Listed) (answer : Result Grid VcfFault) → MatchResult answer (λ grid. grid_of_rows rows ≡ Ok grid) (λ fault. IsRefusedAs (reported fault) (grid_of_rows rows)) →
    MatchResult answer (IsGridOf rows) (λ fault. IfSome (reported fault) (IsFaultOfRows rows))
answer_of_rows rows (Ok grid) is = answered_right (IsGridOf rows) (IsFaultOfRows rows) (grid_of_rows rows) grid (rows_mean rows) is
answer_of_rows rows (Err fault) is = reported_right (IsGridOf rows) (IsFaultOfRows rows) (grid_of_rows rows) (reported fault) (rows_mean rows) is

-- rows that are a grid are one that may be kept
pub grid_is : (row : Listed) (rows : List Listed) (grid : Grid) → length rows < 100000 → grid_of_rows (row ∷ rows) ≡ Ok grid → IsGrid grid
unfolding grid_of_rows grid_in_blocks
grid_is row rows grid few is =
    let all = row ∷ rows in
    let width = width_from row.density all in
    let first = first_block row rows in
    by (unrisen (take width all)) (discontinued_from (temperatures_of (take width all)) (width + 1) row.density 0 (drop width all)) refl refl (width_of_block width all first.within) is
  where
    by : (risen found : Option ℕ) → let all = row ∷ rows in let width = width_from row.density all in
        unrisen (take width all) ≡ risen → discontinued_from (temperatures_of (take width all)) (width + 1) row.density 0 (drop width all) ≡ found → length (temperatures_of (take width all)) ≡ width →
        unless risen (unless found (Ok (grid_of_blocks width row.density all))) ≡ Ok grid → IsGrid grid
    by (Some number) found e f wide answer = cc answer
    by None (Some number) e f wide answer = cc answer
    by None None e f wide answer =
        let all = row ∷ rows in
        let width = width_from row.density all in
        let P : ℕ → Type 0 = λ m. discontinued_from (temperatures_of (take width all)) (m + 1) row.density 0 (drop width all) ≡ None in
        let same : grid_of_blocks width row.density all ≡ grid = (let both : Ok (grid_of_blocks width row.density all) ≡ Ok grid = answer in cc) in
        subst IsGrid same (blocks_are_grid width row.density all (some_first row rows) (first_block row rows).within (omega arith) e (subst P (sym wide) f))
