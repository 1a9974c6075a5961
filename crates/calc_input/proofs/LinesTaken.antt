-- The lines of an input, taken one after another.
use Rattle.std.proofs.Common.{◌≡◌, ℕ, ◌+◌, List, [], drop, ap, ◌∙◌, arith}
use Rattle.std.proofs.lemmas.List.{drop-drop, get_or-drop}
use Rattle.calc_input.specs.Lines.{line_at}

-- if the first n lines were taken, the next one is line n
pub line_due : (all lines : List (List ℕ)) (n : ℕ) → lines ≡ drop n all → line_at lines 0 ≡ line_at all n
line_due all lines n left =
    let same : n + 0 ≡ n = omega arith in
    ap (λ ls. line_at ls 0) left ∙ get_or-drop n all 0 [] ∙ ap (line_at all) same

-- and if m further lines are taken, n + m were
pub taken_more : (all lines : List (List ℕ)) (n m taken : ℕ) → lines ≡ drop n all → taken ≡ n + m → drop m lines ≡ drop taken all
taken_more all lines n m taken left sum = ap (drop m) left ∙ drop-drop m n all ∙ ap (λ k. drop k all) (let back : n + m ≡ taken = omega (arith, sum) in back)

-- of the lines of the form `table`, these are left after the volumes, after the count of factors, and after the factors
pub record AreTaken (all volumes counted factors : List (List ℕ)) (count many : ℕ) : Type 0 where
  pub after_volumes : line_at volumes 0 ≡ line_at all (count + 1)
  pub after_count : counted ≡ drop (count + 2) all
  pub after_factors : line_at factors 0 ≡ line_at all (count + many + 2)
  pub after_levels : drop 1 factors ≡ drop (count + many + 3) all

-- so they are if `count` volumes, a line, and `many` factors are taken after the first line
pub taken_in_order : (all first volumes counted factors : List (List ℕ)) (count many : ℕ) → first ≡ drop 1 all → volumes ≡ drop count first → counted ≡ drop 1 volumes → factors ≡ drop many counted →
    AreTaken all volumes counted factors count many
taken_in_order all first volumes counted factors count many one more then last =
    let at_count : volumes ≡ drop (count + 1) all = more ∙ taken_more all first 1 count (count + 1) one (omega arith) in
    let at_factors : counted ≡ drop (count + 2) all = then ∙ taken_more all volumes (count + 1) 1 (count + 2) at_count (omega arith) in
    let at_levels : factors ≡ drop (count + many + 2) all = last ∙ taken_more all counted (count + 2) many (count + many + 2) at_factors (omega arith) in
    record {
      after_volumes = line_due all volumes (count + 1) at_count;
      after_count = at_factors;
      after_factors = line_due all factors (count + many + 2) at_levels;
      after_levels = taken_more all factors (count + many + 2) 1 (count + many + 3) at_levels (omega arith);
    }
