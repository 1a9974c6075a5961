-- The text of a quantity, from the end of a buffer.
use Rattle.std.proofs.Common.{◌≡◌, ℕ, ◌+◌, ◌-◌, ◌/◌, ◌^◌, ◌<◌, ◌≤◌, true, false, List, [], ◌∷◌, ◌++◌, length, take, drop, set, replicate, refl, sym, ap, ◌∙◌, arith, ℤ, pos, negsuc, lit<}
use Rattle.std.proofs.lemmas.Fmt.{length-decimal-le}
use Rattle.std.proofs.lemmas.Int.{ints}
use Rattle.std.proofs.lemmas.List.{take-append-drop, drop-append-le, drop-replicate, take-replicate, append-nil, length-replicate, drop-set}
use Rattle.std.proofs.Math.Nat.{pow-le-pow_right, one-le-pow, div-le_self}
use Rattle.std.specs.Fmt.{decimal}
use Rattle.std.specs.Int.RustNames.{int_lt, unsigned_abs}
use Rattle.farm_fixed.specs.Printing.{padded, magnitude_text, quantity_text}
use Rattle.farm_fixed.specs.Range.{IsWithin, IsSmall}

-- a quantity of a unit has no great magnitude
pub small_units : (least most value : ℤ) (places : ℕ) → IsSmall least most places → IsWithin least most value → unsigned_abs value ≤ 10 ^ 17
small_units least (pos m) (pos n) places small within = let low = small.low in let high = small.high in let below = within.high in omega (arith, ints)
small_units least (negsuc m) (pos n) places small within = let below = within.high in absurd (omega (arith, ints))
small_units (pos m) most (negsuc n) places small within = let above = within.low in absurd (omega (arith, ints))
small_units (negsuc m) most (negsuc n) places small within = let low = small.low in let above = within.low in omega (arith, ints)

-- scales are small and not zero
pub small_scale : (places : ℕ) → places ≤ 5 → 10 ^ places ≤ 10 ^ 5
small_scale places h = pow-le-pow_right {n = 10} (lit< tt) h

-- a power of ten is above zero
pub some_scale : (places : ℕ) → 0 < 10 ^ places
some_scale places = one-le-pow places 10 (lit< tt)

-- how many digits a number has
pub short_decimals : (places n : ℕ) → 0 < places → places ≤ 5 → n < 10 ^ places → length (decimal n) ≤ places
short_decimals places n some few below = let scale = small_scale places few in length-decimal-le places n some below (omega arith)

-- a small number has few digits
pub short_whole : (n : ℕ) → n ≤ 10 ^ 17 → length (decimal n) ≤ 18
short_whole n small = length-decimal-le 18 n (lit< tt) (omega arith) (omega arith)

-- a quotient of a small number is small
pub small_quotient : (n scale : ℕ) → n ≤ 10 ^ 17 → n / scale ≤ 10 ^ 17
small_quotient n scale small = let less : n / scale ≤ n = div-le_self n scale in omega arith

-- the end of a buffer of zeros with digits at its end
padded_of : (places n start from : ℕ) → from + places ≡ 32 → length (decimal n) ≤ places → start + length (decimal n) ≡ 32 →
    drop from (replicate start 48 ++ decimal n) ≡ padded places n
padded_of places n start from few short ends =
    let long : length (replicate {A = ℕ} start 48) ≡ start = length-replicate {A = ℕ} start 48 in
    let within : from ≤ length (replicate {A = ℕ} start 48) = omega arith in
    let count : start - from ≡ places - length (decimal n) = omega arith in
    drop-append-le from (replicate start 48) (decimal n) within
    ∙ ap (λ front. front ++ decimal n) (drop-replicate from start 48)
    ∙ ap (λ k. replicate k 48 ++ decimal n) count

-- a buffer of zeros once digits were written at its end
digits_at_end : (n start : ℕ) (old new : List ℕ) → old ≡ replicate 32 48 → start ≤ 32 →
    drop start new ≡ decimal n ++ drop 32 old → take start new ≡ take start old → new ≡ replicate start 48 ++ decimal n
digits_at_end n start old new blank within written before =
    let nothing : drop 32 old ≡ [] = ap (drop 32) blank in
    let zeros : take start new ≡ replicate start 48 = before ∙ ap (take start) blank ∙ take-replicate start 32 48 within in
    let digits : drop start new ≡ decimal n = written ∙ ap (λ rest. decimal n ++ rest) nothing ∙ append-nil (decimal n) in
    sym (take-append-drop start new) ∙ ap (λ front. front ++ drop start new) zeros ∙ ap (λ rest. replicate start 48 ++ rest) digits

-- digits at the end of zeros are padded
pub padded_at_end : (places n start : ℕ) (old new : List ℕ) → places ≤ 5 → length (decimal n) ≤ places → old ≡ replicate 32 48 →
    start + length (decimal n) ≡ 32 → drop start new ≡ decimal n ++ drop 32 old → take start new ≡ take start old → drop (32 - places) new ≡ padded places n
padded_at_end places n start old new few short blank ends written before =
    ap (drop (32 - places)) (digits_at_end n start old new blank (omega arith) written before) ∙ padded_of places n start (32 - places) (omega arith) short ends

-- the text of a magnitude, and a minus in front of it where the value is below zero
pub not_below_zero : (places : ℕ) (value : ℤ) → int_lt value (pos 0) ≡ false → magnitude_text places (unsigned_abs value) ≡ quantity_text places value
unfolding quantity_text
not_below_zero places (pos n) above = refl
not_below_zero places (negsuc n) above = cc

-- the text of a number below zero has a minus
below_zero : (places : ℕ) (value : ℤ) → int_lt value (pos 0) ≡ true → 45 ∷ magnitude_text places (unsigned_abs value) ≡ quantity_text places value
unfolding quantity_text
below_zero places (pos n) below = absurd (grind (arith, ints))
below_zero places (negsuc n) below = refl

-- a minus that is written in front makes that text
pub minus_in_front : (places : ℕ) (value : ℤ) (start : ℕ) (buffer : List ℕ) → 0 < start → start ≤ length buffer → int_lt value (pos 0) ≡ true →
    drop start buffer ≡ magnitude_text places (unsigned_abs value) → drop (start - 1) (set buffer (start - 1) 45) ≡ quantity_text places value
minus_in_front places value start buffer some within below text =
    let next : start - 1 + 1 ≡ start = omega arith in
    drop-set buffer (start - 1) 45 (omega arith) ∙ ap (λ k. 45 ∷ drop k buffer) next ∙ ap (λ t. 45 ∷ t) text ∙ below_zero places value below
