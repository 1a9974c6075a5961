-- Rows of a factor grid that are read one after another, and the grid that grows of them.
use Rattle.std.proofs.Common.{◌≡◌, ℕ, suc, ◌+◌, ◌-◌, ◌<◌, ◌≤◌, min, Bool, true, false, nat_lt, if◌then◌else◌, ◌==◌, List, [], ◌∷◌, length, Option, Some, None, Result, Ok, Err, refl, ap, subst, ◌∙◌, arith}
use Rattle.std.proofs.lemmas.Bool.Decides.{nat_tests}
use Rattle.std.specs.Prelude.{MatchOption}
use Rattle.farm_vcf.specs.declared.grid.TheConstants.{MOST_FACTORS}
use Rattle.farm_vcf.specs.declared.rows.Listed.{Listed}
use Rattle.farm_vcf.specs.Faults.{FactorFault, NotGrid}
use Rattle.farm_vcf.specs.Grid.{Grid}
use Rattle.farm_vcf.specs.GrowingRows.{Finishes, Grown, grid_of, grown_by, grown_on, grown_then}
use Rattle.farm_vcf.specs.Rows.{grid_of_rows}
use Rattle.calc_input.specs.Lines.{line_at}
use Rattle.calc_input.specs.FactorRows.{grid_at, grid_from, grown_line, listed_of, listed_front, listed_then}

-- the line that is read is a row
more_by : (count n : ℕ) (row : Listed) (lines : List (List ℕ)) → listed_of (line_at lines n) ≡ Some row → listed_front (suc count) n lines ≡ row ∷ listed_front count (n + 1) lines
unfolding listed_front
more_by count n row lines is_row = ap (λ r. listed_then r (listed_front count (n + 1) lines)) is_row

-- if line `i` of the factors is a row, the rows from there on are this one and those after it
one_row_more : (count first i : ℕ) (row : Listed) (lines : List (List ℕ)) → i < count → listed_of (line_at lines (first + i)) ≡ Some row →
    listed_front (count - i) (first + i) lines ≡ row ∷ listed_front (count - (i + 1)) (first + (i + 1)) lines
one_row_more count first i row lines within is_row =
    let P : ℕ → Type 0 = λ left. listed_front left (first + i) lines ≡ row ∷ listed_front (count - (i + 1)) (first + (i + 1)) lines in
    let Q : ℕ → Type 0 = λ next. listed_front (suc (count - (i + 1))) (first + i) lines ≡ row ∷ listed_front (count - (i + 1)) next lines in
    let left : suc (count - (i + 1)) ≡ count - i = omega arith in
    let next : first + i + 1 ≡ first + (i + 1) = omega arith in
    subst P left (subst Q next (more_by (count - (i + 1)) (first + i) row lines is_row))

-- the line that is read isn't a row
stop_by : (count n : ℕ) (lines : List (List ℕ)) → listed_of (line_at lines n) ≡ None → listed_front (suc count) n lines ≡ []
unfolding listed_front
stop_by count n lines no_row = ap (λ r. listed_then r (listed_front count (n + 1) lines)) no_row

-- if it is no row, there are no rows from there on
no_row_here : (count first i : ℕ) (lines : List (List ℕ)) → i < count → listed_of (line_at lines (first + i)) ≡ None → listed_front (count - i) (first + i) lines ≡ []
no_row_here count first i lines within no_row =
    let P : ℕ → Type 0 = λ left. listed_front left (first + i) lines ≡ [] in
    let left : suc (count - (i + 1)) ≡ count - i = omega arith in
    subst P left (stop_by (count - (i + 1)) (first + i) lines no_row)

-- all rows are read
rows_done : (count n i : ℕ) (lines : List (List ℕ)) → count ≤ i → listed_front (count - i) n lines ≡ []
unfolding listed_front
rows_done count n i lines past =
    let none : 0 ≡ count - i = omega arith in
    let P : ℕ → Type 0 = λ left. listed_front left n lines ≡ [] in
    subst P none refl

-- the first i lines are rows that grew to a grid so far
pub record IsGrowing (count first i : ℕ) (lines : List (List ℕ)) (grown : Grown) : Type 0 where
  pub row : Listed
  pub rest : List Listed
  pub front : listed_front count first lines ≡ row ∷ rest
  pub grows : grid_of_rows (row ∷ rest) ≡ grown_on grown (listed_front (count - i) (first + i) lines)
  pub counted : length (row ∷ rest) ≡ i + length (listed_front (count - i) (first + i) lines)
  pub factors : length grown.factors ≡ i

-- the first line is a row
pub begins : (count first : ℕ) (row : Listed) (lines : List (List ℕ)) (grown : Grown) → 0 < count → listed_of (line_at lines first) ≡ Some row →
    ((rows : List Listed) → grid_of_rows (row ∷ rows) ≡ grown_on grown rows) → length grown.factors ≡ 1 → IsGrowing count first 1 lines grown
begins count first row lines grown some is_row grows one =
    let P : ℕ → Type 0 = λ n. listed_front n first lines ≡ row ∷ listed_front (count - 1) (first + 1) lines in
    let all : suc (count - 1) ≡ count = omega arith in
    record {
      row = row;
      rest = listed_front (count - 1) (first + 1) lines;
      front = subst P all (more_by (count - 1) first row lines is_row);
      grows = grows (listed_front (count - 1) (first + 1) lines);
      counted = omega arith;
      factors = one;
    }

-- a further line is a row that continues the grid
pub grows_on : (count first i : ℕ) (row : Listed) (lines : List (List ℕ)) (grown next : Grown) → IsGrowing count first i lines grown → i < count →
    listed_of (line_at lines (first + i)) ≡ Some row → grown_by grown row ≡ Some next → length next.factors ≡ length grown.factors + 1 → IsGrowing count first (i + 1) lines next
grows_on count first i row lines grown next so_far within is_row on more =
    let left = one_row_more count first i row lines within is_row in
    record {
      row = so_far.row;
      rest = so_far.rest;
      front = so_far.front;
      grows = so_far.grows ∙ ap (grown_on grown) left ∙ ap (λ g. grown_then g (length grown.factors + 1) (λ g. grown_on g (listed_front (count - (i + 1)) (first + (i + 1)) lines))) on;
      counted = omega (arith, so_far.counted, ap length left);
      factors = omega (arith, so_far.factors, more);
    }

-- the grid of lines, by the rows that they are
grid_is_at : (count first : ℕ) (lines : List (List ℕ)) (rows : List Listed) (answer : Result Grid FactorFault) → listed_front count first lines ≡ rows → grid_of_rows rows ≡ answer →
    grid_from count first lines ≡ grid_at count first (length rows) answer
unfolding grid_from
grid_is_at count first lines rows answer front is =
    ap (λ rows. grid_at count first (length rows) (grid_of_rows rows)) front ∙ ap (grid_at count first (length rows)) is

-- a row that breaks the grid is the refused line
refused_row : (count first i number : ℕ) (rows : ℕ) → i < count → number ≡ i + 1 → grid_at count first rows (Err (NotGrid number)) ≡ Err (first + i + 1)
refused_row count first i number rows within is = let same : first + min number count ≡ first + i + 1 = omega arith in ap Err same

-- the grid ends there, and the line after it is the refused one
refused_end : (count first i rows number : ℕ) (grid : Grid) (whole : Bool) → i < count → rows ≡ i → number ≡ i + 1 →
    grid_at count first rows (if whole then Ok grid else Err (NotGrid number)) ≡ Err (first + i + 1)
refused_end count first i rows number grid true within read is =
    let test : nat_lt rows count ≡ true = grind (arith, nat_tests) in
    let same : first + rows + 1 ≡ first + i + 1 = omega arith in
    rw test (ap Err same)
refused_end count first i rows number grid false within read is = refused_row count first i number rows within is

-- a line that doesn't continue the grid is the refused one: if it is no row
pub stops_without : (count first i : ℕ) (lines : List (List ℕ)) (grown : Grown) → IsGrowing count first i lines grown → i < count → listed_of (line_at lines (first + i)) ≡ None →
    grid_from count first lines ≡ Err (first + i + 1)
stops_without count first i lines grown so_far within no_row =
    let left = no_row_here count first i lines within no_row in
    grid_is_at count first lines (so_far.row ∷ so_far.rest) _ so_far.front (so_far.grows ∙ ap (grown_on grown) left)
    ∙ refused_end count first i (length (so_far.row ∷ so_far.rest)) (length grown.factors + 1) (grid_of grown) (grown.column == 0) within (omega (arith, so_far.counted, ap length left)) (omega (arith, so_far.factors))

-- and if it breaks the grid
pub stops_at : (count first i : ℕ) (row : Listed) (lines : List (List ℕ)) (grown : Grown) → IsGrowing count first i lines grown → i < count → listed_of (line_at lines (first + i)) ≡ Some row →
    grown_by grown row ≡ None → grid_from count first lines ≡ Err (first + i + 1)
stops_at count first i row lines grown so_far within is_row off =
    let left = one_row_more count first i row lines within is_row in
    let more = listed_front (count - (i + 1)) (first + (i + 1)) lines in
    grid_is_at count first lines (so_far.row ∷ so_far.rest) _ so_far.front
    (so_far.grows ∙ ap (grown_on grown) left ∙ ap (λ g. grown_then g (length grown.factors + 1) (λ g. grown_on g more)) off)
    ∙ refused_row count first i (length grown.factors + 1) (length (so_far.row ∷ so_far.rest)) within (omega (arith, so_far.factors))

-- a line that doesn't continue the grid, by what it is
pub stops_by : (count first i : ℕ) (lines : List (List ℕ)) (grown : Grown) (row : Option Listed) → IsGrowing count first i lines grown → i < count → listed_of (line_at lines (first + i)) ≡ row →
    grown_line grown row ≡ None → grid_from count first lines ≡ Err (first + i + 1)
stops_by count first i lines grown None so_far within is off = stops_without count first i lines grown so_far within is
stops_by count first i lines grown (Some row) so_far within is off = stops_at count first i row lines grown so_far within is off

-- a line that continues the grid, by what it is
pub goes_by : (count first i : ℕ) (lines : List (List ℕ)) (grown next : Grown) (row : Option Listed) → IsGrowing count first i lines grown → i < count → listed_of (line_at lines (first + i)) ≡ row →
    grown_line grown row ≡ Some next → length next.factors ≡ length grown.factors + 1 → IsGrowing count first (i + 1) lines next
goes_by count first i lines grown next None so_far within is on more = cc on
goes_by count first i lines grown next (Some row) so_far within is on more = grows_on count first i row lines grown next so_far within is on more

-- all lines are rows that went on
pub ends_with : (count first i : ℕ) (lines : List (List ℕ)) (grown : Grown) (made : Option Grid) → IsGrowing count first i lines grown → i ≡ count → count ≤ MOST_FACTORS → Finishes grown made →
    MatchOption made (grid_from count first lines ≡ Err (first + count)) (λ grid. grid_from count first lines ≡ Ok grid)
ends_with count first i lines grown made so_far all few finishes =
    let left = rows_done count (first + i) i lines (omega arith) in
    let read : length (so_far.row ∷ so_far.rest) ≡ count = omega (arith, so_far.counted, ap length left) in
    by made (finishes so_far.row so_far.rest (omega arith) (so_far.grows ∙ ap (grown_on grown) left))
  where
    by : (made : Option Grid) → MatchOption made (grid_of_rows (so_far.row ∷ so_far.rest) ≡ Err (NotGrid (length grown.factors + 1))) (λ grid. grid_of_rows (so_far.row ∷ so_far.rest) ≡ Ok grid) →
        MatchOption made (grid_from count first lines ≡ Err (first + count)) (λ grid. grid_from count first lines ≡ Ok grid)
    by None is =
        let same : first + min (length grown.factors + 1) count ≡ first + count = omega (arith, so_far.factors) in
        grid_is_at count first lines (so_far.row ∷ so_far.rest) _ so_far.front is ∙ ap Err same
    by (Some grid) is =
        let left = rows_done count (first + i) i lines (omega arith) in
        let test : nat_lt (length (so_far.row ∷ so_far.rest)) count ≡ false = (let read : length (so_far.row ∷ so_far.rest) ≡ count = omega (arith, so_far.counted, ap length left) in grind (arith, nat_tests)) in
        grid_is_at count first lines (so_far.row ∷ so_far.rest) _ so_far.front is ∙ rw test refl

-- a first line that is no row is the refused one
pub no_first_row : (count first : ℕ) (lines : List (List ℕ)) → 0 < count → listed_of (line_at lines first) ≡ None → grid_from count first lines ≡ Err (first + 1)
unfolding grid_of_rows
no_first_row count first lines some no_row =
    let P : ℕ → Type 0 = λ n. listed_front n first lines ≡ [] in
    let all : suc (count - 1) ≡ count = omega arith in
    let same : first + min 1 count ≡ first + 1 = omega arith in
    grid_is_at count first lines [] (Err (NotGrid 1)) (subst P all (stop_by (count - 1) first lines no_row)) refl ∙ ap Err same
