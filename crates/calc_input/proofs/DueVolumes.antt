-- The volumes of the capacity table: each line that is read is expected, and the one that is refused isn't.
use Rattle.std.proofs.Common.{◌≡◌, ℕ, zero, suc, ◌+◌, ◌-◌, ◌<◌, Bool, true, false, cond, option_and_then, Option, Some, None, List, Result, Ok, Err, ℤ, pos, refl, subst, arith}
use Rattle.std.proofs.lemmas.Int.{ints}
use Rattle.std.specs.Prelude.{◌≤ℤ◌}
use Rattle.std.specs.Int.RustNames.{int_lt}
use Rattle.calc_input.specs.Lines.{line_at, words_of}
use Rattle.calc_input.specs.TableRows.{volume_in, row_of, rows_from, rows_then, with_row}
use Rattle.calc_input.specs.RefusedLine.{IsVolumeLine}
use Rattle.calc_input.proofs.VolumeRows.{in_words}

-- the volume on line n, the first being 0
abbrev pub volume_at : List (List ℕ) → ℕ → Option ℤ
volume_at lines n = volume_in (words_of (line_at lines n))

-- Line n + index has one volume: the first of these lines isn't below a volume, and a later one not below the line before.
pub record IsVolumeAt (lines : List (List ℕ)) (n : ℕ) (least : ℤ) (index : ℕ) : Type 0 where
  pub volume : ℤ
  pub one : volume_at lines (n + index) ≡ Some volume
  pub first : index ≡ 0 → least ≤ℤ volume
  pub later : (before : ℤ) (earlier : ℕ) → index ≡ suc earlier → volume_at lines (n + earlier) ≡ Some before → before ≤ℤ volume

-- a line is a row: its volume, which isn't below the one before
row_known : (least row : ℤ) (line : List ℕ) → row_of least line ≡ Some row → (volume_in (words_of line) ≡ Some row) × (least ≤ℤ row)
unfolding row_of
row_known least row line is = by (volume_in (words_of line)) refl is
  where
    kept : (volume : ℤ) (b : Bool) → int_lt volume least ≡ b → cond b None (Some volume) ≡ Some row → (Some volume ≡ Some row) × (least ≤ℤ row)
    kept volume true test kept_is = cc
    kept volume false test kept_is =
        let same : volume ≡ row = cc in
        let P : ℤ → Type 0 = λ v. least ≤ℤ v in
        let above : least ≤ℤ volume = grind (arith, ints) in
        (kept_is, subst P same above)

    by : (v : Option ℤ) → volume_in (words_of line) ≡ v → option_and_then (λ w. cond (int_lt w least) None (Some w)) v ≡ Some row →
        (v ≡ Some row) × (least ≤ℤ row)
    by None known option_is = cc
    by (Some volume) known option_is = kept volume (int_lt volume least) refl option_is

-- a line is no row: it has no volume that isn't below the one before
no_row_known : (least : ℤ) (line : List ℕ) → row_of least line ≡ None → (volume : ℤ) → volume_in (words_of line) ≡ Some volume → least ≤ℤ volume → ⊥
unfolding row_of
no_row_known least line is volume known above = by (volume_in (words_of line)) known is
  where
    kept : (b : Bool) → int_lt volume least ≡ b → cond b None (Some volume) ≡ None → ⊥
    kept true test kept_is = let below : int_lt volume least ≡ true = test in grind (arith, ints)
    kept false test kept_is = cc

    by : (v : Option ℤ) → v ≡ Some volume → option_and_then (λ w. cond (int_lt w least) None (Some w)) v ≡ None → ⊥
    by None v_is option_is = cc
    by (Some other) v_is option_is =
        let same : other ≡ volume = cc in
        let P : ℤ → Type 0 = λ w. cond (int_lt w least) None (Some w) ≡ None in
        kept (int_lt volume least) refl (subst P same option_is)

-- the first of the lines
at_first : (lines : List (List ℕ)) (n : ℕ) (least row : ℤ) → row_of least (line_at lines n) ≡ Some row → IsVolumeAt lines n least 0
at_first lines n least row is =
    let known = row_known least row (line_at lines n) is in
    let here : n ≡ n + 0 = omega arith in
    let P : ℕ → Type 0 = λ k. volume_at lines k ≡ Some row in
    record {
      volume = row;
      one = subst P here known.0;
      first = λ _. known.1;
      later = λ before earlier no. absurd (omega arith);
    }

-- a line after the first, by its index among those after it
at_later : (lines : List (List ℕ)) (n : ℕ) (least row : ℤ) (index : ℕ) → volume_at lines n ≡ Some row → IsVolumeAt lines (n + 1) row index → IsVolumeAt lines n least (suc index)
at_later lines n least row index known later =
    let here : n + 1 + index ≡ n + suc index = omega arith in
    let P : ℕ → Type 0 = λ k. volume_at lines k ≡ Some later.volume in
    record {
      volume = later.volume;
      one = subst P here later.one;
      first = λ no. absurd (omega arith);
      later = λ before earlier next is. risen index earlier before (omega arith) is later.first later.later;
    }
  where
    risen : (i earlier : ℕ) (before : ℤ) → i ≡ earlier → volume_at lines (n + earlier) ≡ Some before → (i ≡ 0 → row ≤ℤ later.volume) →
        ((b : ℤ) (e : ℕ) → i ≡ suc e → volume_at lines (n + 1 + e) ≡ Some b → b ≤ℤ later.volume) → before ≤ℤ later.volume
    risen i zero before same is first more =
        let at : n + 0 ≡ n = omega arith in
        let Q : ℕ → Type 0 = λ k. volume_at lines k ≡ Some before in
        let there : volume_at lines n ≡ Some before = subst Q at is in
        let equal : row ≡ before = cc in
        let R : ℤ → Type 0 = λ v. v ≤ℤ later.volume in
        subst R equal (first same)
    risen i (suc earlier) before same is first more =
        let at : n + suc earlier ≡ n + 1 + earlier = omega arith in
        let Q : ℕ → Type 0 = λ k. volume_at lines k ≡ Some before in
        more before earlier same (subst Q at is)

-- and back
from_later : (lines : List (List ℕ)) (n : ℕ) (least row : ℤ) (index : ℕ) → volume_at lines n ≡ Some row → IsVolumeAt lines n least (suc index) → IsVolumeAt lines (n + 1) row index
from_later lines n least row index known at =
    let here : n + suc index ≡ n + 1 + index = omega arith in
    let P : ℕ → Type 0 = λ k. volume_at lines k ≡ Some at.volume in
    record {
      volume = at.volume;
      one = subst P here at.one;
      first = λ none.
          let before : n ≡ n + index = omega arith in
          let Q : ℕ → Type 0 = λ k. volume_at lines k ≡ Some row in
          at.later row index refl (subst Q before known);
      later = λ before earlier next is.
          let before_at : n + 1 + earlier ≡ n + index = omega arith in
          let Q : ℕ → Type 0 = λ k. volume_at lines k ≡ Some before in
          at.later before index refl (subst Q before_at is);
    }

-- What reading count lines from line n on finds: each is a volume line, or the first that isn't.
abbrev pub FindsVolumes : List (List ℕ) → ℕ → ℤ → ℕ → Result (List ℤ) ℕ → Type 0
FindsVolumes lines n least count (Ok rows) = (index : ℕ) → index < count → IsVolumeAt lines n least index
FindsVolumes lines n least count (Err number) =
    (index : ℕ) × (index < count) × (number ≡ n + index + 1) × ((earlier : ℕ) → earlier < index → IsVolumeAt lines n least earlier) × ¬ (IsVolumeAt lines n least index)

-- one more line before them
volumes_more : (lines : List (List ℕ)) (n : ℕ) (least row : ℤ) (count : ℕ) → row_of least (line_at lines n) ≡ Some row → (answer : Result (List ℤ) ℕ) →
    FindsVolumes lines (n + 1) row count answer → FindsVolumes lines n least (suc count) (with_row row answer)
volumes_more lines n least row count is (Ok rows) found = λ index within. by index within
  where
    by : (index : ℕ) → index < suc count → IsVolumeAt lines n least index
    by zero within = at_first lines n least row is
    by (suc index) within = at_later lines n least row index (row_known least row (line_at lines n) is).0 (found index (omega arith))
volumes_more lines n least row count is (Err number) found =
    (suc found.0, omega (arith, found.1), omega (arith, found.2), before, λ at. found.4 (from_later lines n least row found.0 (row_known least row (line_at lines n) is).0 at))
  where
    before : (earlier : ℕ) → earlier < suc found.0 → IsVolumeAt lines n least earlier
    before zero within = at_first lines n least row is
    before (suc earlier) within = at_later lines n least row earlier (row_known least row (line_at lines n) is).0 (found.3 earlier (omega arith))

-- the first line isn't an expected volume
volumes_stop : (lines : List (List ℕ)) (n : ℕ) (least : ℤ) (count : ℕ) → row_of least (line_at lines n) ≡ None → FindsVolumes lines n least (suc count) (Err (n + 1))
volumes_stop lines n least count is = (
  zero,
  omega arith,
  omega arith,
  λ earlier within. absurd (omega arith),
  λ at.
      let here : n + 0 ≡ n = omega arith in
      let P : ℕ → Type 0 = λ k. volume_at lines k ≡ Some at.volume in
      no_row_known least (line_at lines n) is at.volume (subst P here at.one) (at.first refl),
)

-- the volumes that are read are the expected ones, or the fault is at the first line that isn't
pub volumes_found : (lines : List (List ℕ)) (count n : ℕ) (least : ℤ) → FindsVolumes lines n least count (rows_from count n least lines)
unfolding rows_from
volumes_found lines zero n least = λ index within. absurd (omega arith)
volumes_found lines (suc count) n least = by (row_of least (line_at lines n)) refl (volumes_found lines count (n + 1))
  where
    by : (row : Option ℤ) → row_of least (line_at lines n) ≡ row → ((r : ℤ) → FindsVolumes lines (n + 1) r count (rows_from count (n + 1) r lines)) →
        FindsVolumes lines n least (suc count) (rows_then row n (λ r. rows_from count (n + 1) r lines))
    by None is after = volumes_stop lines n least count is
    by (Some row) is after = volumes_more lines n least row count is (rows_from count (n + 1) row lines) (after row)

-- a volume is never below zero
not_below_zero : (lines : List (List ℕ)) (n : ℕ) (volume : ℤ) → volume_at lines n ≡ Some volume → pos 0 ≤ℤ volume
not_below_zero lines n volume is = let inside = in_words (words_of (line_at lines n)) volume is in grind (arith, ints)

-- a volume line by its number is one by its index after the first line, and back
pub by_number : (lines : List (List ℕ)) (number index : ℕ) → number ≡ index + 2 → IsVolumeAt lines 1 (pos 0) index → IsVolumeLine lines number
by_number lines number index counted at =
    let here : 1 + index ≡ number - 1 = omega arith in
    let P : ℕ → Type 0 = λ k. volume_at lines k ≡ Some at.volume in
    record {
      volume = at.volume;
      one = subst P here at.one;
      not_falling = λ before late is.
          let next : index ≡ suc (index - 1) = omega arith in
          let there : number - 1 - 1 ≡ 1 + (index - 1) = omega arith in
          let Q : ℕ → Type 0 = λ k. volume_at lines k ≡ Some before in
          at.later before (index - 1) next (subst Q there is);
    }

-- a line of a volume, counted from the first line, is that volume counted from the first volume
pub by_index : (lines : List (List ℕ)) (number index : ℕ) → number ≡ index + 2 → IsVolumeLine lines number → IsVolumeAt lines 1 (pos 0) index
by_index lines number index counted line =
    let here : number - 1 ≡ 1 + index = omega arith in
    let P : ℕ → Type 0 = λ k. volume_at lines k ≡ Some line.volume in
    let one : volume_at lines (1 + index) ≡ Some line.volume = subst P here line.one in
    record {
      volume = line.volume;
      one = one;
      first = λ none. not_below_zero lines (1 + index) line.volume one;
      later = λ before earlier next is.
          let there : 1 + earlier ≡ number - 1 - 1 = omega arith in
          let Q : ℕ → Type 0 = λ k. volume_at lines k ≡ Some before in
          line.not_falling before (omega arith) (subst Q there is);
    }
