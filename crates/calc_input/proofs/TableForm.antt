-- The form `table`: the lines that are read are expected, and the first that is refused is not.
use Rattle.std.proofs.Common.{◌≡◌, ℕ, ◌+◌, ◌-◌, ◌<◌, ◌≤◌, ◌&&◌, Bool, true, false, cond, nat_le, nat_lt, codes, option_and_then, Option, Some, None, List, [], ◌∷◌, drop, Result, Ok, Err, ℤ, pos, refl, subst, arith}
use Rattle.std.specs.Str.{bytes_eq}
use Rattle.std.proofs.lemmas.Bool.Decides.{nat_tests}
use Rattle.std.specs.Option.{IsSome}
use Rattle.farm_base.specs.Steps.{◌>>=◌, or_fault}
use Rattle.farm_vcf.specs.declared.grid.TheConstants.{MOST_FACTORS}
use Rattle.farm_vcf.specs.Grid.{Grid}
use Rattle.calc_input.specs.declared.levels_line.Levels.{Levels}
use Rattle.calc_input.specs.declared.forms.TableInput.{TableInput}
use Rattle.calc_input.specs.Lines.{is_blank_line, line_at, words_of}
use Rattle.calc_input.specs.Fields.{digits_of}
use Rattle.calc_input.specs.TableRows.{counted, rows_from}
use Rattle.calc_input.specs.FactorRows.{grid_from}
use Rattle.calc_input.specs.LevelsLine.{levels_of}
use Rattle.calc_input.specs.Forms.{ended, factor_count, first_used, table_input_of, unless_used, volume_count}
use Rattle.calc_input.specs.RefusedLine.{IsDueInTable, IsFactorLine, IsVolumeLine, line_numbered}
use Rattle.calc_input.proofs.DueBlanks.{blank_after_form, used_after_form}
use Rattle.calc_input.proofs.DueVolumes.{FindsVolumes, by_index, by_number, volumes_found}
use Rattle.calc_input.proofs.DueFactors.{FindsFactors, factors_found}
use Rattle.calc_input.proofs.Judging.{Judges, none_there, not_blank, some_there}
use Rattle.calc_input.proofs.TableLines.{AreCounts, blank_due, factor_due, factors_due, first_due, levels_due, volume_due}

-- the first line gives a count, and so is the expected one
first_of_counts : (lines : List (List ℕ)) (count number : ℕ) → volume_count lines ≡ Some count → number ≡ 1 → IsDueInTable lines number
first_of_counts lines count number is first = first_due lines number first (some_there (volume_count lines) count is)

-- the lines up to the last of the volumes that were read are expected
up_to_volumes : (lines : List (List ℕ)) (count index : ℕ) → volume_count lines ≡ Some count → index ≤ count →
    ((i : ℕ) → i < index → IsVolumeLine lines (i + 2)) → (number : ℕ) → 1 ≤ number → number < index + 2 → IsDueInTable lines number
up_to_volumes lines count index is within due number from_one early = by (nat_lt 1 number) refl
  where
    by : (b : Bool) → nat_lt 1 number ≡ b → IsDueInTable lines number
    by false e = first_of_counts lines count number is (grind (arith, nat_tests))
    by true e =
        let late : 1 < number = grind (arith, nat_tests) in
        let at : number - 2 + 2 ≡ number = omega arith in
        let P : ℕ → Type 0 = λ n. IsVolumeLine lines n in
        volume_due lines count number is late (omega arith) (subst P at (due (number - 2) (omega arith)))

-- the lines up to the count of factors are expected
up_to_factors : (lines : List (List ℕ)) (count : ℕ) → volume_count lines ≡ Some count → ((i : ℕ) → i < count → IsVolumeLine lines (i + 2)) →
    IsSome (factor_count count lines) → (number : ℕ) → 1 ≤ number → number < count + 3 → IsDueInTable lines number
up_to_factors lines count is due some number from_one early = by (nat_lt number (count + 2)) refl
  where
    by : (b : Bool) → nat_lt number (count + 2) ≡ b → IsDueInTable lines number
    by true e = let before : number < count + 2 = grind (arith, nat_tests) in up_to_volumes lines count count is (omega arith) due number from_one before
    by false e = let after : count + 2 ≤ number = grind (arith, nat_tests) in factors_due lines count number is (omega arith) some

-- the lines up to the last of the factors that were read are expected
up_to_factor_lines : (lines : List (List ℕ)) (count many index : ℕ) → AreCounts lines count many → ((i : ℕ) → i < count → IsVolumeLine lines (i + 2)) → index ≤ many →
    ((i : ℕ) → i < index → IsFactorLine lines (count + 2) many i) → (number : ℕ) → 1 ≤ number → number < count + index + 3 → IsDueInTable lines number
up_to_factor_lines lines count many index counts volumes within due number from_one early = by (nat_lt number (count + 3)) refl
  where
    by : (b : Bool) → nat_lt number (count + 3) ≡ b → IsDueInTable lines number
    by true e =
        let before : number < count + 3 = grind (arith, nat_tests) in
        up_to_factors lines count counts.volumes volumes (some_there (factor_count count lines) many counts.factors) number from_one before
    by false e =
        let after : count + 3 ≤ number = grind (arith, nat_tests) in
        factor_due lines count many number counts (omega arith) (omega arith) (due (number - (count + 3)) (omega arith))

-- a count is in its range
counted_within : (name : List ℕ) (least most count : ℕ) (words : List (List ℕ)) → counted name least most words ≡ Some count → least ≤ count
counted_within name least most count [] is = cc
counted_within name least most count (word ∷ []) is = cc
counted_within name least most count (word ∷ number ∷ []) is = named (bytes_eq word name) is
  where
    ranged : (value : ℕ) (b : Bool) → (nat_le least value && nat_le value most) ≡ b → cond b (Some value) None ≡ Some count → least ≤ count
    ranged value true test kept =
        let same : value ≡ count = cc in
        let above : least ≤ value = grind (arith, nat_tests) in
        omega (arith, same, above)
    ranged value false test kept = cc

    valued : (o : Option ℕ) → option_and_then (λ value. cond (nat_le least value && nat_le value most) (Some value) None) o ≡ Some count → least ≤ count
    valued None kept = cc
    valued (Some value) kept = ranged value (nat_le least value && nat_le value most) refl kept

    named : (b : Bool) → cond b (option_and_then (λ value. cond (nat_le least value && nat_le value most) (Some value) None) (digits_of number)) None ≡ Some count → least ≤ count
    named true kept = valued (digits_of number) kept
    named false kept = cc
counted_within name least most count (word ∷ number ∷ other ∷ words) is = cc

-- the levels and what follows them
levels_judged : (lines : List (List ℕ)) (count many : ℕ) (rows : List ℤ) (grid : Grid) → AreCounts lines count many →
    ((number : ℕ) → 1 ≤ number → number < count + many + 3 → IsDueInTable lines number) → (o : Option Levels) → levels_of (words_of (line_at lines (count + many + 2))) ≡ o →
    Judges {A = TableInput} (IsDueInTable lines) (or_fault {E = ℕ} (count + many + 3) o >>= λ levels.
    ended (count + many + 3) lines (record { table = rows; vcf = grid; levels = levels; line = count + many + 3 }))
levels_judged lines count many rows grid counts before None is = record {
  from_one = omega arith;
  before = before;
  here = λ due.
      let at : count + many + 3 - 1 ≡ count + many + 2 = omega arith in
      let P : ℕ → Type 0 = λ n. IsSome (levels_of (words_of (line_at lines n))) in
      none_there Levels (rw is at (subst P at (due.levels count many counts.volumes counts.factors refl)));
}
levels_judged lines count many rows grid counts before (Some levels) is = by (first_used (count + many + 3 + 1) (drop (count + many + 3) lines)) refl
  where
    here : IsDueInTable lines (count + many + 3)
    here =
        let at : count + many + 2 ≡ count + many + 3 - 1 = omega arith in
        let P : ℕ → Type 0 = λ n. IsSome (levels_of (words_of (line_at lines n))) in
        levels_due lines count many (count + many + 3) counts refl (subst P at (some_there (levels_of (words_of (line_at lines (count + many + 2)))) levels is))

    upto : (number : ℕ) → 1 ≤ number → (count + many + 3 < number → is_blank_line (line_numbered lines number) ≡ true) → IsDueInTable lines number
    upto number from_one blank = choose (nat_lt number (count + many + 3)) refl (nat_lt (count + many + 3) number) refl
      where
        choose : (b : Bool) → nat_lt number (count + many + 3) ≡ b → (c : Bool) → nat_lt (count + many + 3) number ≡ c → IsDueInTable lines number
        choose true e c d = before number from_one (grind (arith, nat_tests))
        choose false e true d = let late : count + many + 3 < number = grind (arith, nat_tests) in blank_due lines count many number counts late (blank late)
        choose false e false d =
            let at : count + many + 3 ≡ number = grind (arith, nat_tests) in
            let P : ℕ → Type 0 = λ n. IsDueInTable lines n in
            subst P at here

    by : (found : Option ℕ) → first_used (count + many + 3 + 1) (drop (count + many + 3) lines) ≡ found →
        Judges {A = TableInput} (IsDueInTable lines) (unless_used found (record { table = rows; vcf = grid; levels = levels; line = count + many + 3 }))
    by None none = λ number from_one. upto number from_one (λ late. blank_after_form lines (count + many + 3) none number late)
    by (Some number) found =
        let used = used_after_form lines (count + many + 3) number found in
        record {
          from_one = omega (arith, used.late);
          before = λ earlier from_one less. upto earlier from_one (λ late. used.before earlier late less);
          here = λ due. not_blank (line_numbered lines number) used.here (due.blank count many counts.volumes counts.factors used.late);
        }

-- the factors and what follows them
factors_judged : (lines : List (List ℕ)) (count many : ℕ) (rows : List ℤ) → AreCounts lines count many → ((i : ℕ) → i < count → IsVolumeLine lines (i + 2)) →
    (answer : Result Grid ℕ) → FindsFactors lines (count + 2) many answer →
    Judges {A = TableInput} (IsDueInTable lines) (answer >>= λ grid. or_fault {E = ℕ} (count + many + 3) (levels_of (words_of (line_at lines (count + many + 2)))) >>= λ levels.
    ended (count + many + 3) lines (record { table = rows; vcf = grid; levels = levels; line = count + many + 3 }))
factors_judged lines count many rows counts volumes (Ok grid) found =
    levels_judged lines count many rows grid counts (up_to_factor_lines lines count many many counts volumes (omega arith) found)
    (levels_of (words_of (line_at lines (count + many + 2)))) refl
factors_judged lines count many rows counts volumes (Err number) found =
    let at : number ≡ count + found.0 + 3 = omega (arith, found.2) in
    let index : number - (count + 3) ≡ found.0 = omega arith in
    let P : ℕ → Type 0 = λ i. IsFactorLine lines (count + 2) many i in
    record {
      from_one = omega arith;
      before = λ earlier from_one less. up_to_factor_lines lines count many found.0 counts volumes (omega (arith, found.1)) found.3 earlier from_one (omega arith);
      here = λ due. found.4 (subst P index (due.factor count many counts.volumes counts.factors (omega arith) (omega (arith, found.1))));
    }

-- the count of factors and what follows it
many_judged : (lines : List (List ℕ)) (count : ℕ) (rows : List ℤ) → volume_count lines ≡ Some count → ((i : ℕ) → i < count → IsVolumeLine lines (i + 2)) →
    (o : Option ℕ) → factor_count count lines ≡ o →
    Judges {A = TableInput} (IsDueInTable lines) (or_fault {E = ℕ} (count + 2) o >>= λ many. grid_from many (count + 2) lines >>= λ grid.
    or_fault {E = ℕ} (count + many + 3) (levels_of (words_of (line_at lines (count + many + 2)))) >>= λ levels.
    ended (count + many + 3) lines (record { table = rows; vcf = grid; levels = levels; line = count + many + 3 }))
many_judged lines count rows is volumes None none = record {
  from_one = omega arith;
  before = λ earlier from_one less. up_to_volumes lines count count is (omega arith) volumes earlier from_one less;
  here = λ due. none_there ℕ (rw none at (due.factors count is refl));
}
many_judged lines count rows is volumes (Some many) known =
    factors_judged lines count many rows (record { volumes = is; factors = known }) volumes (grid_from many (count + 2) lines)
    (factors_found lines (count + 2) many (counted_within (codes "factors") 1 MOST_FACTORS many (words_of (line_at lines (count + 1))) known))

-- the volumes and what follows them
rows_judged : (lines : List (List ℕ)) (count : ℕ) → volume_count lines ≡ Some count → (answer : Result (List ℤ) ℕ) → FindsVolumes lines 1 (pos 0) count answer →
    Judges {A = TableInput} (IsDueInTable lines) (answer >>= λ rows. or_fault {E = ℕ} (count + 2) (factor_count count lines) >>= λ many. grid_from many (count + 2) lines >>= λ grid.
    or_fault {E = ℕ} (count + many + 3) (levels_of (words_of (line_at lines (count + many + 2)))) >>= λ levels.
    ended (count + many + 3) lines (record { table = rows; vcf = grid; levels = levels; line = count + many + 3 }))
rows_judged lines count is (Ok rows) found =
    many_judged lines count rows is (λ i within. by_number lines (i + 2) i refl (found i within)) (factor_count count lines) refl
rows_judged lines count is (Err number) found =
    let at : number ≡ found.0 + 2 = omega (arith, found.2) in
    record {
      from_one = omega arith;
      before = λ earlier from_one less.
          up_to_volumes lines count found.0 is (omega (arith, found.1)) (λ i within. by_number lines (i + 2) i refl (found.3 i within)) earlier from_one (omega arith);
      here = λ due. found.4 (by_index lines number found.0 at (due.volume count is (omega arith) (omega (arith, found.1))));
    }

-- the form of an input with a table is what its lines are judged as
pub table_judged : (lines : List (List ℕ)) → Judges (IsDueInTable lines) (table_input_of lines)
unfolding table_input_of
table_judged lines = by (volume_count lines) refl
  where
    by : (o : Option ℕ) → volume_count lines ≡ o →
        Judges {A = TableInput} (IsDueInTable lines) (or_fault {E = ℕ} 1 o >>= λ count. rows_from count 1 (pos 0) lines >>= λ rows.
        or_fault {E = ℕ} (count + 2) (factor_count count lines) >>= λ many. grid_from many (count + 2) lines >>= λ grid.
        or_fault {E = ℕ} (count + many + 3) (levels_of (words_of (line_at lines (count + many + 2)))) >>= λ levels.
        ended (count + many + 3) lines (record { table = rows; vcf = grid; levels = levels; line = count + many + 3 }))
    by None none = record {
      from_one = omega arith;
      before = λ earlier from_one less. absurd (omega arith);
      here = λ due. none_there ℕ (rw none at (due.table refl));
    }
    by (Some count) is = rows_judged lines count is (rows_from count 1 (pos 0) lines) (volumes_found lines count 1 (pos 0))
