-- The grid that grows row by row is the grid of its rows.
use Rattle.std.proofs.Common.{◌≡◌, ℕ, suc, ◌+◌, ◌<◌, Bool, true, false, ◌==◌, if◌then◌else◌, List, [], ◌∷◌, ◌++◌, length, take, drop, Option, Some, None, Result, Ok, Err, refl, sym, ap, subst, ◌∙◌, arith, append-nil, append_assoc, length-append}
use Rattle.std.proofs.lemmas.Bool.Decides.{nat_tests}
use Rattle.std.specs.Int.RustNames.{int_lt}
use Rattle.std.specs.Ordering.{int_eq}
use Rattle.std.specs.Prelude.{ℤ}
use Rattle.std.specs.Result.{OkIff, result_ok}
use Rattle.farm_vcf.specs.declared.rows.Listed.{Listed}
use Rattle.farm_vcf.specs.Closest.{listed_at}
use Rattle.farm_vcf.specs.Faults.{FactorFault, NotGrid}
use Rattle.farm_vcf.specs.Grid.{Grid, IsGrid, grid_from}
use Rattle.farm_vcf.specs.GrowingRows.{Finishes, Grown, begun, grid_of, grown_on, grown_then}
use Rattle.farm_vcf.specs.Rows.{continues, densities_from, discontinued_from, factors_of, grid_in_blocks, grid_of_rows, next_column, temperatures_of, unless, unrisen_from, width_from}
use Rattle.farm_vcf.proofs.Blocks.{int_eq_itself}
use Rattle.farm_vcf.proofs.Meanings.{grid_is}

-- the rows so far, by their parts
abbrev rows_so_far : List ℤ → List ℤ → List ℤ → ℤ → ℤ → ℕ → Grown
rows_so_far ds ts fs d t column = record { densities = ds; temperatures = ts; factors = fs; density = d; temperature = t; column = column }

-- the answer where rows of later blocks follow
abbrev later_answer : List ℤ → List ℤ → List ℤ → ℤ → ℕ → List Listed → Result Grid FactorFault
later_answer ds ts fs d column rows =
    unless (discontinued_from ts (length fs + 1) d column rows) (Ok (grid_from (ds ++ densities_from (length ts) column rows) ts (fs ++ factors_of rows)))

-- one element more
one_more : (fs : List ℤ) (f : ℤ) → length (fs ++ f ∷ []) + 1 ≡ length fs + 1 + 1
one_more fs f = omega (arith, length-append fs (f ∷ []))

-- nothing follows
nothing_follows : (ds ts fs : List ℤ) (ended : Bool) → (if ended then Ok (grid_from ds ts fs) else Err (NotGrid (length fs + 1))) ≡ unless (if ended then None else Some (length fs + 1)) (Ok (grid_from (ds ++ []) ts (fs ++ [])))
nothing_follows ds ts fs true = ap (λ l. Ok (grid_from l ts fs)) (sym (append-nil ds)) ∙ ap (λ l. Ok (grid_from (ds ++ []) ts l)) (sym (append-nil fs))
nothing_follows ds ts fs false = refl

-- a row of a later block follows, and others after it
later_row : (ds ts fs : List ℤ) (t : ℤ) (next : ℕ) (row : Listed) (rows : List Listed) (on start : Bool) →
    ((more : List ℤ) → (start ≡ true → more ≡ ds ++ row.density ∷ []) → (start ≡ false → more ≡ ds) →
    grown_on (rows_so_far more ts (fs ++ row.factor ∷ []) row.density t next) rows ≡ later_answer more ts (fs ++ row.factor ∷ []) row.density next rows) →
    grown_then (if on then Some (rows_so_far (if start then ds ++ row.density ∷ [] else ds) ts (fs ++ row.factor ∷ []) row.density t next) else None) (length fs + 1) (λ grown. grown_on grown rows)
    ≡ unless (if on then discontinued_from ts (length fs + 1 + 1) row.density next rows else Some (length fs + 1))
    (Ok (grid_from (ds ++ (if start then row.density ∷ densities_from (length ts) next rows else densities_from (length ts) next rows)) ts (fs ++ row.factor ∷ factors_of rows)))
later_row ds ts fs t next row rows false start more = refl
later_row ds ts fs t next row rows true true more =
    let all = ds ++ row.density ∷ [] in
    more all (λ _. refl) (λ no. cc no)
    ∙ ap (λ n. unless (discontinued_from ts n row.density next rows) (Ok (grid_from (all ++ densities_from (length ts) next rows) ts ((fs ++ row.factor ∷ []) ++ factors_of rows)))) (one_more fs row.factor)
    ∙ ap (λ l. unless (discontinued_from ts (length fs + 1 + 1) row.density next rows) (Ok (grid_from l ts ((fs ++ row.factor ∷ []) ++ factors_of rows)))) (append_assoc ds (row.density ∷ []) (densities_from (length ts) next rows))
    ∙ ap (λ l. unless (discontinued_from ts (length fs + 1 + 1) row.density next rows) (Ok (grid_from (ds ++ row.density ∷ densities_from (length ts) next rows) ts l))) (append_assoc fs (row.factor ∷ []) (factors_of rows))
later_row ds ts fs t next row rows true false more =
    more ds (λ no. cc no) (λ _. refl)
    ∙ ap (λ n. unless (discontinued_from ts n row.density next rows) (Ok (grid_from (ds ++ densities_from (length ts) next rows) ts ((fs ++ row.factor ∷ []) ++ factors_of rows)))) (one_more fs row.factor)
    ∙ ap (λ l. unless (discontinued_from ts (length fs + 1 + 1) row.density next rows) (Ok (grid_from (ds ++ densities_from (length ts) next rows) ts l))) (append_assoc fs (row.factor ∷ []) (factors_of rows))

-- a list that had two elements has two
two_more : (start : Bool) (ds more : List ℤ) (d : ℤ) → (start ≡ true → more ≡ ds ++ d ∷ []) → (start ≡ false → more ≡ ds) → 1 < length ds → 1 < length more
two_more true ds more d grown same two = omega (arith, ap length (grown refl), length-append ds (d ∷ []))
two_more false ds more d grown same two = omega (arith, ap length (same refl))

-- rows of later blocks
later : (ds ts fs : List ℤ) (d t : ℤ) (column : ℕ) (rows : List Listed) → 1 < length ds → grown_on (rows_so_far ds ts fs d t column) rows ≡ later_answer ds ts fs d column rows
later ds ts fs d t column [] two = nothing_follows ds ts fs (column == 0)
later ds ts fs d t column (row ∷ rows) two =
    let another : (length ds == 1) ≡ false = grind (arith, nat_tests) in
    rw another (later_row ds ts fs t (next_column (length ts) column) row rows (continues (listed_at ts column) d column row) (column == 0)
    (λ more grown same. later more ts (fs ++ row.factor ∷ []) row.density t (next_column (length ts) column) rows (two_more (column == 0) ds more row.density grown same two)))

-- the answer where the first block has this many rows more
abbrev first_answer : List ℤ → List ℤ → ℤ → ℤ → List Listed → ℕ → Result Grid FactorFault
first_answer ts fs d t rows k =
    unless (unrisen_from (length fs + 1) t (take k rows))
    (unless (discontinued_from (ts ++ temperatures_of (take k rows)) (length fs + k + 1) d 0 (drop k rows))
    (Ok (grid_from (d ∷ densities_from (length ts + k) 0 (drop k rows)) (ts ++ temperatures_of (take k rows)) (fs ++ factors_of rows))))

-- the first block has no more rows
no_more_first : (ts fs : List ℤ) (d t : ℤ) (rows : List Listed) → later_answer (d ∷ []) ts fs d 0 rows ≡ first_answer ts fs d t rows 0
no_more_first ts fs d t rows =
    let number : length fs + 1 ≡ length fs + 0 + 1 = omega arith in
    let width : length ts ≡ length ts + 0 = omega arith in
    ap (λ n. unless (discontinued_from ts n d 0 rows) (Ok (grid_from (d ∷ densities_from (length ts) 0 rows) ts (fs ++ factors_of rows)))) number
    ∙ ap (λ w. unless (discontinued_from ts (length fs + 0 + 1) d 0 rows) (Ok (grid_from (d ∷ densities_from w 0 rows) ts (fs ++ factors_of rows)))) width
    ∙ ap (λ l. unless (discontinued_from l (length fs + 0 + 1) d 0 rows) (Ok (grid_from (d ∷ densities_from (length ts + 0) 0 rows) l (fs ++ factors_of rows)))) (sym (append-nil ts))

-- a row more of the first block
first_row : (ts fs : List ℤ) (d t : ℤ) (row : Listed) (rows : List Listed) (k : ℕ) (risen : Bool) →
    grown_on (rows_so_far (d ∷ []) (ts ++ row.temperature ∷ []) (fs ++ row.factor ∷ []) d row.temperature 0) rows ≡ first_answer (ts ++ row.temperature ∷ []) (fs ++ row.factor ∷ []) d row.temperature rows k →
    grown_then (if risen then Some (rows_so_far (d ∷ []) (ts ++ row.temperature ∷ []) (fs ++ row.factor ∷ []) d row.temperature 0) else None) (length fs + 1) (λ grown. grown_on grown rows)
    ≡ unless (if risen then unrisen_from (length fs + 1 + 1) row.temperature (take k rows) else Some (length fs + 1))
    (unless (discontinued_from (ts ++ row.temperature ∷ temperatures_of (take k rows)) (length fs + suc k + 1) d 0 (drop k rows))
    (Ok (grid_from (d ∷ densities_from (length ts + suc k) 0 (drop k rows)) (ts ++ row.temperature ∷ temperatures_of (take k rows)) (fs ++ row.factor ∷ factors_of rows))))
first_row ts fs d t row rows k false more = refl
first_row ts fs d t row rows k true more =
    let shape : ℕ → List ℤ → ℕ → ℕ → List ℤ → Result Grid FactorFault = λ n temperatures number width factors.
    unless (unrisen_from n row.temperature (take k rows)) (unless (discontinued_from temperatures number d 0 (drop k rows)) (Ok (grid_from (d ∷ densities_from width 0 (drop k rows)) temperatures factors))) in
    let ts_more = ts ++ row.temperature ∷ [] in
    let fs_more = fs ++ row.factor ∷ [] in
    let number : length fs_more + k + 1 ≡ length fs + suc k + 1 = omega (arith, length-append fs (row.factor ∷ [])) in
    let width : length ts_more + k ≡ length ts + suc k = omega (arith, length-append ts (row.temperature ∷ [])) in
    let temperatures = append_assoc ts (row.temperature ∷ []) (temperatures_of (take k rows)) in
    let factors = append_assoc fs (row.factor ∷ []) (factors_of rows) in
    more
    ∙ ap (λ n. shape n (ts_more ++ temperatures_of (take k rows)) (length fs_more + k + 1) (length ts_more + k) (fs_more ++ factors_of rows)) (one_more fs row.factor)
    ∙ ap (λ l. shape (length fs + 1 + 1) l (length fs_more + k + 1) (length ts_more + k) (fs_more ++ factors_of rows)) temperatures
    ∙ ap (λ n. shape (length fs + 1 + 1) (ts ++ row.temperature ∷ temperatures_of (take k rows)) n (length ts_more + k) (fs_more ++ factors_of rows)) number
    ∙ ap (λ n. shape (length fs + 1 + 1) (ts ++ row.temperature ∷ temperatures_of (take k rows)) (length fs + suc k + 1) n (fs_more ++ factors_of rows)) width
    ∙ ap (λ l. shape (length fs + 1 + 1) (ts ++ row.temperature ∷ temperatures_of (take k rows)) (length fs + suc k + 1) (length ts + suc k) l) factors

-- rows of the first block and after it
first : (ts fs : List ℤ) (d t : ℤ) (rows : List Listed) → grown_on (rows_so_far (d ∷ []) ts fs d t 0) rows ≡ first_answer ts fs d t rows (width_from d rows)
first ts fs d t [] = nothing_follows (d ∷ []) ts fs true ∙ no_more_first ts fs d t []
first ts fs d t (row ∷ rows) = by (int_eq row.density d) refl (first (ts ++ row.temperature ∷ []) (fs ++ row.factor ∷ []) d row.temperature rows)
  where
    by : (same : Bool) → int_eq row.density d ≡ same →
        grown_on (rows_so_far (d ∷ []) (ts ++ row.temperature ∷ []) (fs ++ row.factor ∷ []) d row.temperature 0) rows ≡ first_answer (ts ++ row.temperature ∷ []) (fs ++ row.factor ∷ []) d row.temperature rows (width_from d rows) →
        grown_on (rows_so_far (d ∷ []) ts fs d t 0) (row ∷ rows) ≡ first_answer ts fs d t (row ∷ rows) (if int_eq row.density d then width_from d rows + 1 else 0)
    by true e more =
        let k = width_from d rows in
        let next : suc k ≡ k + 1 = omega arith in
        let P : ℕ → Type 0 = λ n. grown_on (rows_so_far (d ∷ []) ts fs d t 0) (row ∷ rows) ≡ first_answer ts fs d t (row ∷ rows) n in
        let here : P (suc k) = rw e (first_row ts fs d t row rows k (int_lt t row.temperature) more) in
        subst P next here ∙ ap (λ b. first_answer ts fs d t (row ∷ rows) (if b then k + 1 else 0)) (sym e)
    by false e more =
        let here : grown_on (rows_so_far (d ∷ []) ts fs d t 0) (row ∷ rows) ≡ later_answer (d ∷ []) ts fs d 0 (row ∷ rows) =
        rw e (later_row (d ∷ []) ts fs t (next_column (length ts) 0) row rows (continues (listed_at ts 0) d 0 row) true
        (λ all grown same. later all ts (fs ++ row.factor ∷ []) row.density t (next_column (length ts) 0) rows (omega (arith, ap length (grown refl))))) in
        here ∙ no_more_first ts fs d t (row ∷ rows) ∙ ap (λ b. first_answer ts fs d t (row ∷ rows) (if b then width_from d rows + 1 else 0)) (sym e)

-- the grid of rows is the one that grows from the first row
pub grid_grows : (row : Listed) (rows : List Listed) → grid_of_rows (row ∷ rows) ≡ grown_on (begun row) rows
unfolding grid_of_rows grid_in_blocks
grid_grows row rows =
    let k = width_from row.density rows in
    let itself = int_eq_itself row.density in
    let P : ℕ → Type 0 = λ n. grid_in_blocks n row.density (row ∷ rows) ≡ grown_on (begun row) rows in
    let next : suc k ≡ k + 1 = omega arith in
    let Q : ℕ → Type 0 = λ n. unless (unrisen_from 2 row.temperature (take k rows))
    (unless (discontinued_from (row.temperature ∷ temperatures_of (take k rows)) (n + 1) row.density 0 (drop k rows))
    (Ok (grid_from (row.density ∷ densities_from n 0 (drop k rows)) (row.temperature ∷ temperatures_of (take k rows)) (row.factor ∷ factors_of rows)))) ≡ grown_on (begun row) rows in
    let more : 1 + k ≡ suc k = omega arith in
    rw itself (subst P next (subst Q more (sym (first (row.temperature ∷ []) (row.factor ∷ []) row.density row.temperature rows))))

-- the grid that is made in the end, or none
pub finished : {E : Type 0} (grown : Grown) (made : Result Grid E) (answer : Option Grid) → OkIff made (IsGrid (grid_of grown)) (grid_of grown) → answer ≡ result_ok made →
    (grown.column == 0) ≡ true → Finishes grown answer
finished grown (Ok grid) answer is invariant zero row rows few answered =
    let all : grid_of_rows (row ∷ rows) ≡ Ok (grid_of grown) = rw zero at answered in
    rw invariant (all ∙ ap Ok (sym is.1))
finished grown (Err e) answer is invariant zero row rows few answered = absurd (is (grid_is row rows (grid_of grown) few (rw zero at answered)))

-- a last block that is short
pub unfinished : (grown : Grown) → (grown.column == 0) ≡ false → Finishes grown None
unfinished grown short row rows few answered = rw short at answered
