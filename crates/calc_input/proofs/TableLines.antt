-- The form `table`: a line is expected by its place.
use Rattle.std.proofs.Common.{◌≡◌, ℕ, ◌+◌, ◌-◌, ◌<◌, ◌≤◌, true, Some, List, subst, arith}
use Rattle.std.specs.Option.{IsSome}
use Rattle.calc_input.specs.Lines.{is_blank_line, words_of}
use Rattle.calc_input.specs.LevelsLine.{levels_of}
use Rattle.calc_input.specs.Forms.{factor_count, volume_count}
use Rattle.calc_input.specs.RefusedLine.{IsDueInTable, IsFactorLine, IsVolumeLine, line_numbered}
use Rattle.calc_input.proofs.Judging.{same_count}

-- the first line,
pub first_due : (lines : List (List ℕ)) (number : ℕ) → number ≡ 1 → IsSome (volume_count lines) → IsDueInTable lines number
first_due lines number first some = record {
  table = λ _. some;
  volume = λ count is late within. absurd (omega (arith, late, first));
  factors = λ count is at. absurd (omega (arith, at, first));
  factor = λ count many is are late within. absurd (omega (arith, late, first));
  levels = λ count many is are at. absurd (omega (arith, at, first));
  blank = λ count many is are late. absurd (omega (arith, late, first));
}

-- one of the volumes,
pub volume_due : (lines : List (List ℕ)) (count number : ℕ) → volume_count lines ≡ Some count → 1 < number → number ≤ count + 1 → IsVolumeLine lines number → IsDueInTable lines number
volume_due lines count number is late within line = record {
  table = λ first. absurd (omega (arith, late, first));
  volume = λ other other_is _ _. line;
  factors = λ other other_is at. let same = same_count (volume_count lines) count other is other_is in absurd (omega (arith, at, within, same));
  factor = λ other many other_is are after _. let same = same_count (volume_count lines) count other is other_is in absurd (omega (arith, after, within, same));
  levels = λ other many other_is are at. let same = same_count (volume_count lines) count other is other_is in absurd (omega (arith, at, within, same));
  blank = λ other many other_is are after. let same = same_count (volume_count lines) count other is other_is in absurd (omega (arith, after, within, same));
}

-- the count of factors,
pub factors_due : (lines : List (List ℕ)) (count number : ℕ) → volume_count lines ≡ Some count → number ≡ count + 2 → IsSome (factor_count count lines) → IsDueInTable lines number
factors_due lines count number is at some = record {
  table = λ first. absurd (omega (arith, at, first));
  volume = λ other other_is late within. let same = same_count (volume_count lines) count other is other_is in absurd (omega (arith, at, within, same));
  factors = λ other other_is _. let same = same_count (volume_count lines) count other is other_is in
      let P : ℕ → Type 0 = λ n. IsSome (factor_count n lines) in subst P same some;
  factor = λ other many other_is are after _. let same = same_count (volume_count lines) count other is other_is in absurd (omega (arith, at, after, same));
  levels = λ other many other_is are there. let same = same_count (volume_count lines) count other is other_is in absurd (omega (arith, at, there, same));
  blank = λ other many other_is are after. let same = same_count (volume_count lines) count other is other_is in absurd (omega (arith, at, after, same));
}

-- what the counts are, whatever they are called
pub record AreCounts (lines : List (List ℕ)) (count many : ℕ) : Type 0 where
  pub volumes : volume_count lines ≡ Some count
  pub factors : factor_count count lines ≡ Some many

-- an input has one count of volumes and one of factors
same_counts : (lines : List (List ℕ)) (count many other others : ℕ) → AreCounts lines count many → volume_count lines ≡ Some other → factor_count other lines ≡ Some others →
    (count ≡ other) × (many ≡ others)
same_counts lines count many other others counts is are =
    let same = same_count (volume_count lines) count other counts.volumes is in
    let P : ℕ → Type 0 = λ n. factor_count n lines ≡ Some many in
    (same, same_count (factor_count other lines) many others (subst P same counts.factors) are)

-- one of the factors,
pub factor_due : (lines : List (List ℕ)) (count many number : ℕ) → AreCounts lines count many → count + 2 < number → number ≤ count + many + 2 →
    IsFactorLine lines (count + 2) many (number - (count + 3)) → IsDueInTable lines number
factor_due lines count many number counts late within line = record {
  table = λ first. absurd (omega (arith, late, first));
  volume = λ other is _ early. let same = same_count (volume_count lines) count other counts.volumes is in absurd (omega (arith, late, early, same));
  factors = λ other is at. let same = same_count (volume_count lines) count other counts.volumes is in absurd (omega (arith, late, at, same));
  factor = λ other others is are _ _.
      let same = same_counts lines count many other others counts is are in
      let P : ℕ → Type 0 = λ n. IsFactorLine lines (n + 2) many (number - (n + 3)) in
      let Q : ℕ → Type 0 = λ n. IsFactorLine lines (other + 2) n (number - (other + 3)) in
      subst Q same.1 (subst P same.0 line);
  levels = λ other others is are at. let same = same_counts lines count many other others counts is are in absurd (omega (arith, at, within, same.0, same.1));
  blank = λ other others is are after. let same = same_counts lines count many other others counts is are in absurd (omega (arith, after, within, same.0, same.1));
}

-- the levels,
pub levels_due : (lines : List (List ℕ)) (count many number : ℕ) → AreCounts lines count many → number ≡ count + many + 3 → IsSome (levels_of (words_of (line_numbered lines number))) → IsDueInTable lines number
levels_due lines count many number counts at some = record {
  table = λ first. absurd (omega (arith, at, first));
  volume = λ other is _ early. let same = same_count (volume_count lines) count other counts.volumes is in absurd (omega (arith, at, early, same));
  factors = λ other is there. let same = same_count (volume_count lines) count other counts.volumes is in absurd (omega (arith, at, there, same));
  factor = λ other others is are _ within. let same = same_counts lines count many other others counts is are in absurd (omega (arith, at, within, same.0, same.1));
  levels = λ other others is are _. some;
  blank = λ other others is are after. let same = same_counts lines count many other others counts is are in absurd (omega (arith, at, after, same.0, same.1));
}

-- and a blank line after them.
pub blank_due : (lines : List (List ℕ)) (count many number : ℕ) → AreCounts lines count many → count + many + 3 < number → is_blank_line (line_numbered lines number) ≡ true → IsDueInTable lines number
blank_due lines count many number counts late blank = record {
  table = λ first. absurd (omega (arith, late, first));
  volume = λ other is _ early. let same = same_count (volume_count lines) count other counts.volumes is in absurd (omega (arith, late, early, same));
  factors = λ other is there. let same = same_count (volume_count lines) count other counts.volumes is in absurd (omega (arith, late, there, same));
  factor = λ other others is are _ within. let same = same_counts lines count many other others counts is are in absurd (omega (arith, late, within, same.0, same.1));
  levels = λ other others is are at. let same = same_counts lines count many other others counts is are in absurd (omega (arith, late, at, same.0, same.1));
  blank = λ other others is are _. blank;
}
