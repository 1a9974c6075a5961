-- The factor lines: each row that continues the blocks is expected, and the row at which they break isn't.
use Rattle.std.proofs.Common.{◌≡◌, inl, inr, ℕ, zero, suc, ◌+◌, ◌-◌, ◌<◌, ◌≤◌, Bool, true, false, cond, nat_lt, min, Option, Some, None, List, ◌∷◌, length, take, Result, Ok, Err, refl, sym, ap, subst, arith}
use Rattle.std.proofs.lemmas.Bool.Decides.{nat_tests}
use Rattle.std.specs.Option.{IsSome}
use Rattle.std.specs.Result.{MatchResult}
use Rattle.farm_vcf.specs.declared.rows.Listed.{Listed}
use Rattle.farm_vcf.specs.Faults.{FactorFault, Csv, BadField, TooMany, NotGrid}
use Rattle.farm_vcf.specs.Grid.{Grid}
use Rattle.farm_vcf.specs.Rows.{grid_of_rows}
use Rattle.farm_vcf.specs.Blocks.{AreWhole, BreaksAt, GoesOn, IsFaultOfRows, IsFirstBlock, IsFirstBreak, IsGridOf}
use Rattle.farm_vcf.proofs.Meanings.{rows_mean}
use Rattle.calc_input.specs.Lines.{line_at}
use Rattle.calc_input.specs.FactorRows.{grid_at, grid_from, listed_front, listed_of, listed_then}
use Rattle.calc_input.specs.RefusedLine.{IsFactorLine}
use Rattle.calc_input.proofs.FirstBlocks.{one_first_block, goes_on_up_to, goes_on_in_all}

-- the rows of at most count lines are no more than these
pub front_within : (count n : ℕ) (lines : List (List ℕ)) → length (listed_front count n lines) ≤ count
unfolding listed_front
front_within zero n lines = omega arith
front_within (suc count) n lines = by (listed_of (line_at lines n)) (front_within count (n + 1) lines)
  where
    by : (row : Option Listed) → length (listed_front count (n + 1) lines) ≤ count → length (listed_then row (listed_front count (n + 1) lines)) ≤ suc count
    by None within = omega arith
    by (Some row) within = omega (arith, within)

-- each line before the end of the rows is a row
pub rows_on_lines : (count n : ℕ) (lines : List (List ℕ)) (index : ℕ) → index < length (listed_front count n lines) → IsSome (listed_of (line_at lines (n + index)))
unfolding listed_front
rows_on_lines zero n lines index within = absurd (omega arith)
rows_on_lines (suc count) n lines index within = by (listed_of (line_at lines n)) refl (rows_on_lines count (n + 1) lines) index within
  where
    by : (row : Option Listed) → listed_of (line_at lines n) ≡ row → ((i : ℕ) → i < length (listed_front count (n + 1) lines) → IsSome (listed_of (line_at lines (n + 1 + i)))) →
        (i : ℕ) → i < length (listed_then row (listed_front count (n + 1) lines)) → IsSome (listed_of (line_at lines (n + i)))
    by None is after i inside = absurd (omega arith)
    by (Some row) is after zero inside =
        let here : n ≡ n + 0 = omega arith in
        let P : ℕ → Type 0 = λ k. IsSome (listed_of (line_at lines k)) in
        subst P here (rw is refl)
    by (Some row) is after (suc i) inside =
        let there : n + 1 + i ≡ n + suc i = omega arith in
        let P : ℕ → Type 0 = λ k. IsSome (listed_of (line_at lines k)) in
        subst P there (after i (omega arith))

-- the line at which the rows end early isn't a row
pub no_row_after : (count n : ℕ) (lines : List (List ℕ)) → length (listed_front count n lines) < count →
    listed_of (line_at lines (n + length (listed_front count n lines))) ≡ None
unfolding listed_front
no_row_after zero n lines short = absurd (omega arith)
no_row_after (suc count) n lines short = by (listed_of (line_at lines n)) refl (no_row_after count (n + 1) lines) short
  where
    by : (row : Option Listed) → listed_of (line_at lines n) ≡ row →
        (length (listed_front count (n + 1) lines) < count → listed_of (line_at lines (n + 1 + length (listed_front count (n + 1) lines))) ≡ None) →
        length (listed_then row (listed_front count (n + 1) lines)) < suc count → listed_of (line_at lines (n + length (listed_then row (listed_front count (n + 1) lines)))) ≡ None
    by None is after short_here =
        let here : n ≡ n + 0 = omega arith in
        let P : ℕ → Type 0 = λ k. listed_of (line_at lines k) ≡ None in
        subst P here is
    by (Some row) is after short_here =
        let rest = length (listed_front count (n + 1) lines) in
        let there : n + 1 + rest ≡ n + suc rest = omega arith in
        let P : ℕ → Type 0 = λ k. listed_of (line_at lines k) ≡ None in
        subst P there (after (omega arith))

-- the rows of fewer lines are the first of them
pub fewer_rows : (count n : ℕ) (lines : List (List ℕ)) (few : ℕ) → few ≤ length (listed_front count n lines) → listed_front few n lines ≡ take few (listed_front count n lines)
unfolding listed_front
fewer_rows count n lines zero within = refl
fewer_rows zero n lines (suc few) within = absurd (omega arith)
fewer_rows (suc count) n lines (suc few) within = by (listed_of (line_at lines n)) (fewer_rows count (n + 1) lines few) within
  where
    by : (row : Option Listed) → (few ≤ length (listed_front count (n + 1) lines) → listed_front few (n + 1) lines ≡ take few (listed_front count (n + 1) lines)) →
        suc few ≤ length (listed_then row (listed_front count (n + 1) lines)) →
        listed_then row (listed_front few (n + 1) lines) ≡ take (suc few) (listed_then row (listed_front count (n + 1) lines))
    by None after inside = absurd (omega arith)
    by (Some row) after inside = ap (λ rows. row ∷ rows) (after (omega arith))

-- What reading many factor lines after the first `first` lines finds: each is expected, or the first that isn't.
abbrev pub FindsFactors : List (List ℕ) → ℕ → ℕ → Result Grid ℕ → Type 0
FindsFactors lines first many (Ok grid) = (index : ℕ) → index < many → IsFactorLine lines first many index
FindsFactors lines first many (Err number) =
    (index : ℕ) × (index < many) × (number ≡ first + index + 1) × ((earlier : ℕ) → earlier < index → IsFactorLine lines first many earlier)
    × ¬ (IsFactorLine lines first many index)

-- a row that continues the blocks, and isn't the last of the lines, is expected
inner_line : (lines : List (List ℕ)) (first many width index : ℕ) → index < length (listed_front many first lines) → index + 1 < many →
    IsFirstBlock width (listed_front many first lines) → GoesOn width (listed_front many first lines) index → IsFactorLine lines first many index
inner_line lines first many width index within inner block on =
    let few = fewer_rows many first lines (index + 1) (omega arith) in
    let P : List Listed → Type 0 = λ rows. (other : ℕ) → IsFirstBlock other rows → GoesOn other rows index in
    record {
      row = rows_on_lines many first lines index within;
      goes_on = subst P (sym few) (goes_on_up_to width (listed_front many first lines) index within block on);
      whole = λ other last its_block. absurd (omega (arith, inner, last));
    }

-- the last row is expected if the blocks are whole
any_line : (lines : List (List ℕ)) (first many width index : ℕ) → index < length (listed_front many first lines) →
    IsFirstBlock width (listed_front many first lines) → GoesOn width (listed_front many first lines) index → AreWhole width (listed_front many first lines) → IsFactorLine lines first many index
any_line lines first many width index within block on whole =
    let few = fewer_rows many first lines (index + 1) (omega arith) in
    let P : List Listed → Type 0 = λ rows. (other : ℕ) → IsFirstBlock other rows → GoesOn other rows index in
    let Q : ℕ → Type 0 = λ w. AreWhole w (listed_front many first lines) in
    record {
      row = rows_on_lines many first lines index within;
      goes_on = subst P (sym few) (goes_on_up_to width (listed_front many first lines) index within block on);
      whole = λ other last its_block. subst Q (one_first_block width other (listed_front many first lines) block its_block) whole;
    }

-- a line that isn't a row isn't an expected one
not_a_row : (lines : List (List ℕ)) (first many : ℕ) → length (listed_front many first lines) < many → ¬ (IsFactorLine lines first many (length (listed_front many first lines)))
not_a_row lines first many short = λ line.
    let none = no_row_after many first lines short in
    let some = line.row in
    let P : Option Listed → Type 0 = λ row. IsSome row in
    no_some (subst P none some)
  where
    no_some : IsSome {T = Listed} None → ⊥
    no_some is = cc

-- a grid: each line is expected, or the first line that isn't a row is refused
found_grid : (lines : List (List ℕ)) (first many : ℕ) (grid : Grid) → IsGridOf (listed_front many first lines) grid →
    FindsFactors lines first many (grid_at many first (length (listed_front many first lines)) (Ok grid))
found_grid lines first many grid is = by (nat_lt (length (listed_front many first lines)) many) refl
  where
    by : (b : Bool) → nat_lt (length (listed_front many first lines)) many ≡ b →
        FindsFactors lines first many (cond b (Err (first + length (listed_front many first lines) + 1)) (Ok grid))
    by true e =
        let short : length (listed_front many first lines) < many = grind (arith, nat_tests) in (
          length (listed_front many first lines),
          short,
          refl,
          λ earlier before. inner_line lines first many (length grid.temperatures) earlier before (omega arith) is.first_block (is.goes_on earlier before),
          not_a_row lines first many short,
        )
    by false e = λ index within.
        let full : many ≤ length (listed_front many first lines) = grind (arith, nat_tests) in
        any_line lines first many (length grid.temperatures) index (omega arith) is.first_block (is.goes_on index (omega arith)) is.whole

-- rows that break at a row: it is refused
found_break_at_row : (lines : List (List ℕ)) (first many width index number : ℕ) → number ≡ index + 1 → IsFirstBlock width (listed_front many first lines) →
    ((earlier : ℕ) → earlier < index → GoesOn width (listed_front many first lines) earlier) → index < length (listed_front many first lines) →
    ¬ (GoesOn width (listed_front many first lines) index) → FindsFactors lines first many (Err (first + min number many))
found_break_at_row lines first many width index number counted block before within broken =
    let most = front_within many first lines in
    let few = fewer_rows many first lines (index + 1) (omega arith) in
    let P : List Listed → Type 0 = λ rows. (other : ℕ) → IsFirstBlock other rows → GoesOn other rows index in (
      index,
      omega arith,
      omega arith,
      λ earlier less. inner_line lines first many width earlier (omega arith) (omega arith) block (before earlier less),
      λ line. broken (goes_on_in_all width (listed_front many first lines) index within block (subst P few line.goes_on)),
    )

-- rows whose last block is short: the line after them is refused if a row is expected there, else the last one
found_short_block : (lines : List (List ℕ)) (first many width number : ℕ) → 1 ≤ many → number ≡ length (listed_front many first lines) + 1 → IsFirstBlock width (listed_front many first lines) →
    ((earlier : ℕ) → earlier < length (listed_front many first lines) → GoesOn width (listed_front many first lines) earlier) →
    ¬ (AreWhole width (listed_front many first lines)) → FindsFactors lines first many (Err (first + min number many))
found_short_block lines first many width number some counted block before short = by (nat_lt (length (listed_front many first lines)) many) refl
  where
    by : (b : Bool) → nat_lt (length (listed_front many first lines)) many ≡ b → FindsFactors lines first many (Err (first + min number many))
    by true e =
        let early : length (listed_front many first lines) < many = grind (arith, nat_tests) in (
          length (listed_front many first lines),
          early,
          omega arith,
          λ earlier less. inner_line lines first many width earlier less (omega arith) block (before earlier less),
          not_a_row lines first many early,
        )
    by false e =
        let full : many ≤ length (listed_front many first lines) = grind (arith, nat_tests) in
        let most = front_within many first lines in (
          many - 1,
          omega arith,
          omega arith,
          λ earlier less. inner_line lines first many width earlier (omega arith) (omega arith) block (before earlier (omega arith)),
          λ line. short (line.whole width (omega arith) block),
        )

-- if rows break off, the fault of the factors is reported at the line of the break
found_break : (lines : List (List ℕ)) (first many number : ℕ) → 1 ≤ many → IsFirstBreak (listed_front many first lines) number → FindsFactors lines first many (Err (first + min number many))
found_break lines first many number some break = by break.breaks
  where
    by : BreaksAt break.width (listed_front many first lines) break.index → FindsFactors lines first many (Err (first + min number many))
    by (inl at_row) = found_break_at_row lines first many break.width break.index number break.counted break.first_block break.before at_row.0 at_row.1
    by (inr at_end) =
        let P : ℕ → Type 0 = λ end. (earlier : ℕ) → earlier < end → GoesOn break.width (listed_front many first lines) earlier in
        found_short_block lines first many break.width number some (omega (arith, break.counted, at_end.0)) break.first_block (subst P at_end.0 break.before) at_end.1

-- the factors that are read are the expected ones, or the fault is at the first line that isn't
pub factors_found : (lines : List (List ℕ)) (first many : ℕ) → 1 ≤ many → FindsFactors lines first many (grid_from many first lines)
unfolding grid_from
factors_found lines first many some = by (grid_of_rows (listed_front many first lines)) (rows_mean (listed_front many first lines))
  where
    by : (answer : Result Grid FactorFault) → MatchResult answer (IsGridOf (listed_front many first lines)) (IsFaultOfRows (listed_front many first lines)) →
        FindsFactors lines first many (grid_at many first (length (listed_front many first lines)) answer)
    by (Ok grid) is = found_grid lines first many grid is
    by (Err (NotGrid number)) is = found_break lines first many number some is
    by (Err Csv) is = absurd is
    by (Err (BadField number)) is = absurd is
    by (Err TooMany) is = absurd is
