-- Where the walk over rows stops is where their blocks break.
use Rattle.std.proofs.Common.{◌≡◌, inl, inr, ℕ, zero, suc, ◌+◌, ◌-◌, ◌*◌, ◌%◌, ◌<◌, ◌≤◌, Bool, true, false, ◌==◌, if◌then◌else◌, List, [], ◌∷◌, length, take, drop, Option, Some, None, refl, sym, subst, ◌∙◌, ap, arith}
use Rattle.std.proofs.lemmas.Bool.Decides.{nat_tests}
use Rattle.std.proofs.lemmas.Int.{ints}
use Rattle.std.proofs.lemmas.List.{length-drop, length-take}
use Rattle.std.proofs.lemmas.Nat.{mod-mul-add}
use Rattle.std.specs.Int.RustNames.{int_lt}
use Rattle.std.specs.Ordering.{int_eq}
use Rattle.std.specs.Prelude.{ℤ, ◌<ℤ◌}
use Rattle.farm_base.proofs.BoolTests.{and_from, and_parts}
use Rattle.farm_vcf.specs.declared.rows.Listed.{Listed}
use Rattle.farm_vcf.specs.Closest.{listed_at}
use Rattle.farm_vcf.specs.Blocks.{AreWhole, BreaksAt, GoesOn, density_of, temperature_of}
use Rattle.farm_vcf.specs.Rows.{continues, discontinued_from, next_column, unrisen_from}
use Rattle.farm_vcf.proofs.Blocks.{begins, begun_in, int_eq_itself, int_eq_same, not_zero, stays}

-- the row at an index, and the rows after it
pub record StandsAt (rows : List Listed) (index : ℕ) (row : Listed) (rest : List Listed) : Type 0 where
  pub within : index < length rows
  pub density : density_of rows index ≡ row.density
  pub temperature : temperature_of rows index ≡ row.temperature
  pub after : drop (suc index) rows ≡ rest

-- the first of the rows that are left stands at their index
pub stands_at : (rows : List Listed) (index : ℕ) (row : Listed) (rest : List Listed) → drop index rows ≡ row ∷ rest → StandsAt rows index row rest
stands_at [] zero row rest is = cc
stands_at [] (suc index) row rest is = cc
stands_at (first ∷ rows) zero row rest is =
    let same : first ≡ row = cc in
    let others : rows ≡ rest = cc in
    record { within = omega arith; density = ap (λ r. r.density) same; temperature = ap (λ r. r.temperature) same; after = others }
stands_at (first ∷ rows) (suc index) row rest is =
    let s = stands_at rows index row rest is in
    record { within = omega (arith, s.within); density = s.density; temperature = s.temperature; after = s.after }

-- the end of rows
pub none_left : (rows : List Listed) (index : ℕ) → drop index rows ≡ [] → length rows ≤ index
none_left rows index is = omega (arith, length-drop index rows, ap length is)

-- a row of the first block is that of the rows
pub of_block : (width : ℕ) (rows : List Listed) (index : ℕ) → index < width → temperature_of (take width rows) index ≡ temperature_of rows index
of_block zero rows index within = absurd (omega arith)
of_block (suc width) [] index within = refl
of_block (suc width) (row ∷ rows) zero within = refl
of_block (suc width) (row ∷ rows) (suc index) within = of_block width rows index (omega arith)

-- what a walk from an index to an end finds: every row goes on, or the first break
abbrev pub Finds : ℕ → List Listed → ℕ → ℕ → Option ℕ → Type 0
Finds width rows from end None = (index : ℕ) → from ≤ index → index < end → GoesOn width rows index
Finds width rows from end (Some number) = (index : ℕ) × (number ≡ index + 1) × ((earlier : ℕ) → from ≤ earlier → earlier < index → GoesOn width rows earlier) × BreaksAt width rows index

-- one row more that goes on
one_more : (width : ℕ) (rows : List Listed) (from end : ℕ) → GoesOn width rows from → ((index : ℕ) → suc from ≤ index → index < end → GoesOn width rows index) → (index : ℕ) → from ≤ index → index < end → GoesOn width rows index
one_more width rows from end here more index late early = by (from == index) refl
  where
    by : (b : Bool) → (from == index) ≡ b → GoesOn width rows index
    by true e = let same : from ≡ index = grind (arith, nat_tests) in let P : ℕ → Type 0 = λ i. GoesOn width rows i in subst P same here
    by false e = more index (grind (arith, nat_tests)) early

-- a search that finds a row from the next on finds it from here
pub finds_more : (width : ℕ) (rows : List Listed) (from end : ℕ) (found : Option ℕ) → GoesOn width rows from → Finds width rows (suc from) end found → Finds width rows from end found
finds_more width rows from end None here more = one_more width rows from end here more
finds_more width rows from end (Some number) here more = (more.0, more.1, one_more width rows from more.0 here more.2, more.3)

-- one row of the first block
block_step : (width : ℕ) (rows : List Listed) (number from : ℕ) (before : ℤ) (row : Listed) (later : Option ℕ) → from < width → width ≤ length rows → number ≡ from + 1 → before ≡ temperature_of rows (from - 1) → row.temperature ≡ temperature_of rows from → 0 < from →
    Finds width rows (suc from) width later → Finds width rows from width (if int_lt before row.temperature then later else Some number)
block_step width rows number from before row later inside within counted was here some more = by (int_lt before row.temperature) refl
  where
    by : (b : Bool) → int_lt before row.temperature ≡ b → Finds width rows from width (if int_lt before row.temperature then later else Some number)
    by true e =
        let above : before <ℤ row.temperature = grind (arith, ints) in
        rw e (finds_more width rows from width later
        (record {
          risen = λ positive early. rw (was, here) at above;
          repeated = λ late. absurd (omega (arith, inside, late));
          begun = λ late start. absurd (omega (arith, inside, late));
          kept = λ late other. absurd (omega (arith, inside, late));
        })
        more)
    by false e =
        let not_above : before <ℤ row.temperature → ⊥ = λ above. grind (arith, ints) in
        let above_there : (temperature_of rows (from - 1) <ℤ temperature_of rows from) → ⊥ = rw (was, here) at not_above in
        rw e (from, counted, λ earlier late early. absurd (omega arith), inl (omega (arith, inside, within), λ on. above_there (on.risen some inside)))

-- the temperatures of the first block, from one after its first
pub block_finds : (width : ℕ) (rows left : List Listed) (number from : ℕ) (before : ℤ) → drop from (take width rows) ≡ left → number ≡ from + 1 → before ≡ temperature_of rows (from - 1) → 0 < from → width ≤ length rows →
    Finds width rows from width (unrisen_from number before left)
block_finds width rows [] number from before is counted was some within = λ index late early. absurd (omega (arith, none_left (take width rows) from is, length-take width rows))
block_finds width rows (row ∷ left) number from before is counted was some within =
    let s = stands_at (take width rows) from row left is in
    let inside : from < width = omega (arith, s.within, length-take width rows) in
    let here : row.temperature ≡ temperature_of rows from = sym s.temperature ∙ of_block width rows from inside in
    let back : suc from - 1 ≡ from = omega arith in
    block_step width rows number from before row (unrisen_from (number + 1) row.temperature left) inside within counted was here some
    (block_finds width rows left (number + 1) (suc from) row.temperature s.after (omega (arith, counted)) (here ∙ ap (temperature_of rows) (sym back)) (omega arith) within)

-- where a walk over the later blocks stands: before a row of a column, after a row of a density
pub record Stands (rows : List Listed) (temperatures : List ℤ) (left : List Listed) (number : ℕ) (before : ℤ) (column index : ℕ) : Type 0 where
  pub is : drop index rows ≡ left
  pub counted : number ≡ index + 1
  pub density : before ≡ density_of rows (index - 1)
  pub in_block : column < length temperatures
  pub block : ℕ
  pub place : index ≡ block * length temperatures + column
  pub later : length temperatures ≤ index
  pub within : index ≤ length rows
  pub repeats : (other : ℕ) → other < length temperatures → listed_at temperatures other ≡ temperature_of rows other

-- the column of a row is what is left over whole blocks
column_of : (width index block column : ℕ) → index ≡ block * width + column → column < width → index % width ≡ column
column_of width index block column place inside = ap (λ m. m % width) place ∙ mod-mul-add block width column inside

-- equal numbers pass the test of equality
int_eq_of : (a b : ℤ) → a ≡ b → int_eq a b ≡ true
int_eq_of a b same = let P : ℤ → Type 0 = λ other. int_eq a other ≡ true in subst P same (int_eq_itself a)

-- the test of a row, in either direction
begin_at : (temperature before : ℤ) (column : ℕ) (row : Listed) → column ≡ 0 → continues temperature before column row ≡ true → before <ℤ row.density
begin_at temperature before zero row start on = begins temperature before row on
begin_at temperature before (suc column) row start on = absurd (omega (arith, start))

-- a row that is not the first of its block has the density before it
stay_at : (temperature before : ℤ) (column : ℕ) (row : Listed) → (column ≡ 0 → ⊥) → continues temperature before column row ≡ true → row.density ≡ before
stay_at temperature before zero row other on = absurd (other refl)
stay_at temperature before (suc column) row other on = stays temperature before column row on

-- a row with the words of the rule passes its test
continues_if : (temperature before : ℤ) (column : ℕ) (row : Listed) → row.temperature ≡ temperature → (column ≡ 0 → before <ℤ row.density) → ((column ≡ 0 → ⊥) → row.density ≡ before) → continues temperature before column row ≡ true
continues_if temperature before zero row warm begun kept =
    let above : before <ℤ row.density = begun refl in
    and_from (int_eq row.temperature temperature) (int_lt before row.density) (int_eq_of row.temperature temperature warm) (grind (arith, ints))
continues_if temperature before (suc column) row warm begun kept =
    let inside = not_zero column in
    rw inside (and_from (int_eq row.temperature temperature) (int_eq row.density before) (int_eq_of row.temperature temperature warm) (int_eq_of row.density before (kept (λ z. omega (arith, z)))))

-- one row of the later blocks
later_step : (rows : List Listed) (temperatures : List ℤ) (left : List Listed) (number : ℕ) (before : ℤ) (column index : ℕ) (row : Listed) (more : Option ℕ) → Stands rows temperatures (row ∷ left) number before column index →
    Finds (length temperatures) rows (suc index) (length rows) more → Finds (length temperatures) rows index (length rows) (if continues (listed_at temperatures column) before column row then more else Some number)
later_step rows temperatures left number before column index row more at rest = by (continues (listed_at temperatures column) before column row) refl
  where
    s : StandsAt rows index row left
    s = stands_at rows index row left at.is

    place : index % length temperatures ≡ column
    place = column_of (length temperatures) index at.block column at.place at.in_block

    due : listed_at temperatures column ≡ temperature_of rows (index % length temperatures)
    due = at.repeats column at.in_block ∙ ap (temperature_of rows) (sym place)

    by : (b : Bool) → continues (listed_at temperatures column) before column row ≡ b → Finds (length temperatures) rows index (length rows) (if continues (listed_at temperatures column) before column row then more else Some number)
    by true e = rw e (finds_more (length temperatures) rows index (length rows) more
        (record {
          risen = λ positive early. absurd (omega (arith, early, at.later));
          repeated = λ later. s.temperature ∙ int_eq_same row.temperature (listed_at temperatures column) (and_parts (int_eq row.temperature (listed_at temperatures column)) _ e).0 ∙ due;
          begun = λ later start. rw (s.density, ← at.density) (begin_at (listed_at temperatures column) before column row (sym place ∙ start) e);
          kept = λ later other. s.density ∙ stay_at (listed_at temperatures column) before column row (λ z. other (place ∙ z)) e ∙ at.density;
        })
        rest)
    by false e = rw e (
      index,
      at.counted,
      λ earlier late early. absurd (omega arith),
      inl (
        s.within,
        λ on.
            let goes : continues (listed_at temperatures column) before column row ≡ true = continues_if (listed_at temperatures column) before column row
            (sym s.temperature ∙ on.repeated at.later ∙ sym due)
            (λ start. rw (s.density, ← at.density) at (on.begun at.later (place ∙ start)))
            (λ other. sym s.density ∙ on.kept at.later (λ z. other (sym place ∙ z)) ∙ sym at.density) in
            cc,
      ),
    )

-- after a row that goes on the next one stands there
stands_next : (rows : List Listed) (temperatures : List ℤ) (left : List Listed) (number : ℕ) (before : ℤ) (column index : ℕ) (row : Listed) → Stands rows temperatures (row ∷ left) number before column index → StandsAt rows index row left →
    Stands rows temperatures left (number + 1) row.density (next_column (length temperatures) column) (suc index)
stands_next rows temperatures left number before column index row at s =
    let back : suc index - 1 ≡ index = omega arith in
    let same : row.density ≡ density_of rows (suc index - 1) = sym s.density ∙ ap (density_of rows) (sym back) in
    elim (begun_in (length temperatures) column (next_column (length temperatures) column) at.in_block refl) [
      | inl t ↦ record {
        is = s.after;
        counted = omega (arith, at.counted);
        density = same;
        in_block = omega (arith, at.in_block, t.0);
        block = at.block + 1;
        place = omega (arith, at.place, t.0, t.1);
        later = omega (arith, at.later);
        within = omega (arith, s.within);
        repeats = at.repeats;
      }
      | inr t ↦ record {
        is = s.after;
        counted = omega (arith, at.counted);
        density = same;
        in_block = omega (arith, t.0, t.1);
        block = at.block;
        place = omega (arith, at.place, t.0);
        later = omega (arith, at.later);
        within = omega (arith, s.within);
        repeats = at.repeats;
      }
    ]

-- rows that end within a block are no whole blocks
not_whole : (rows : List Listed) (temperatures : List ℤ) (column index : ℕ) → (column ≡ 0 → ⊥) → index % length temperatures ≡ column → index ≡ length rows → AreWhole (length temperatures) rows → ⊥
not_whole rows temperatures column index other place end whole = other (sym place ∙ ap (λ m. m % length temperatures) end ∙ whole.whole)

-- the later blocks
pub later_finds : (rows : List Listed) (temperatures : List ℤ) (left : List Listed) (number : ℕ) (before : ℤ) (column index : ℕ) → Stands rows temperatures left number before column index →
    Finds (length temperatures) rows index (length rows) (discontinued_from temperatures number before column left)
later_finds rows temperatures [] number before zero index at = λ other late early. absurd (omega (arith, late, early, none_left rows index at.is))
later_finds rows temperatures [] number before (suc column) index at =
    let inside = not_zero column in
    let end : index ≡ length rows = omega (arith, none_left rows index at.is, at.within) in
    rw inside (index, at.counted, λ earlier late early. absurd (omega arith), inr (end, not_whole rows temperatures (suc column) index (λ z. omega (arith, z)) (column_of (length temperatures) index at.block (suc column) at.place at.in_block) end))
later_finds rows temperatures (row ∷ left) number before column index at =
    let s = stands_at rows index row left at.is in
    let next = next_column (length temperatures) column in
    later_step rows temperatures left number before column index row (discontinued_from temperatures (number + 1) row.density next left) at
    (later_finds rows temperatures left (number + 1) row.density next (suc index) (stands_next rows temperatures left number before column index row at s))
