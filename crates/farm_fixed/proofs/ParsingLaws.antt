-- Reading in the words of the rule, and what a cut value reads as.
use Rattle.std.proofs.Common.{◌≡◌, ℕ, ◌-◌, ◌*◌, ◌^◌, ◌<◌, ◌≤◌, min, Bool, true, false, if◌then◌else◌, List, [], ◌∷◌, ◌++◌, length, replicate, Option, Some, None, Result, Ok, Err, nat_lt, ◌==◌, refl, sym, ap, ◌∙◌, subst, arith, ℤ, pos, negsuc, neg_ℤ, ◌≤ℤ◌}
use Rattle.std.proofs.lemmas.Bool.Decides.{nat_tests}
use Rattle.std.proofs.lemmas.Int.{ints}
use Rattle.std.specs.Int.RustNames.{unsigned_abs}
use Rattle.std.specs.Result.{OkIff, MatchResult, IsErrAnd}
use Rattle.std.specs.Str.Parse.{digits_value}
use Rattle.farm_base.proofs.BoolTests.{lt-ltb, le-ltb}
use Rattle.farm_fixed.specs.declared.fault.ReadFault.{ReadFault}
use Rattle.farm_fixed.specs.declared.fault.ReadFault.TheVariants.{Empty, BadByte, TooFine, OutOfRange}
use Rattle.farm_fixed.specs.Range.{IsWithin, is_within, IsSmall}
use Rattle.farm_fixed.specs.Text.{Number, IsTextOf, bad_offset, signed, value_of}
use Rattle.farm_fixed.specs.Parsing.{number_of, quantity_from, unless_bad, quantity_of, IsReadAs}
use Rattle.farm_fixed.proofs.BadBytes.{bad_at_from_some}
use Rattle.farm_fixed.proofs.Parts.{text_of_parts}
use Rattle.farm_fixed.proofs.Values.{cut_scaled}

-- what passes the test is within the range
pub is_within-true : (least most value : ℤ) → is_within least most value ≡ true → IsWithin least most value
is_within-true least most value e = record { low = grind (arith, ints); high = grind (arith, ints) }

-- a value in its range passes the test
pub is_within-from : (least most value : ℤ) → IsWithin least most value → is_within least most value ≡ true
is_within-from least most value within = let low = within.low in let high = within.high in grind (arith, ints)

-- a cut magnitude at most the greatest value was not cut
above_most : (most : ℤ) (n : ℕ) → unsigned_abs most ≤ 10 ^ 17 → pos (min n (10 ^ 18)) ≤ℤ most → n < 10 ^ 18
above_most (pos m) n small high = omega (arith, ints)
above_most (negsuc m) n small high = omega (arith, ints)

-- nor one at least the least value, under a minus
below_least : (least : ℤ) (n : ℕ) → unsigned_abs least ≤ 10 ^ 17 → least ≤ℤ neg_ℤ (pos (min n (10 ^ 18))) → n < 10 ^ 18
below_least (pos m) n small low = omega (arith, ints)
below_least (negsuc m) n small low = omega (arith, ints)

-- a value that is cut off is outside the range of every unit
pub not_cut : (least most : ℤ) (places : ℕ) (negative : Bool) (n : ℕ) → IsSmall least most places → IsWithin least most (signed negative (min n (10 ^ 18))) → n < 10 ^ 18
not_cut least most places true n small within = below_least least n small.low within.low
not_cut least most places false n small within = above_most most n small.high within.high

-- a magnitude at most the greatest value is small
in_range : (most : ℤ) (n : ℕ) → unsigned_abs most ≤ 10 ^ 17 → pos n ≤ℤ most → n < 10 ^ 18
in_range (pos m) n small high = omega (arith, ints)
in_range (negsuc m) n small high = omega (arith, ints)

-- and so is one at least the least value, under a minus
in_range_below : (least : ℤ) (n : ℕ) → unsigned_abs least ≤ 10 ^ 17 → least ≤ℤ neg_ℤ (pos n) → n < 10 ^ 18
in_range_below (pos m) n small low = omega (arith, ints)
in_range_below (negsuc m) n small low = omega (arith, ints)

-- a value in range has a small magnitude
pub small_within : (least most : ℤ) (places : ℕ) (negative : Bool) (n : ℕ) → IsSmall least most places → IsWithin least most (signed negative n) → n < 10 ^ 18
small_within least most places true n small within = in_range_below least n small.low within.low
small_within least most places false n small within = in_range most n small.high within.high

-- a small magnitude is not cut
cut_same : (n : ℕ) → n < 10 ^ 18 → min n (10 ^ 18) ≡ n
cut_same n h = omega arith

-- the range is asked of the value as it was cut off
within_cut : (least most : ℤ) (places : ℕ) (negative : Bool) (n : ℕ) (v : ℤ) → IsSmall least most places → v ≡ signed negative (min n (10 ^ 18)) →
    (IsWithin least most v → v ≡ signed negative n) × (IsWithin least most (signed negative n) → v ≡ signed negative n)
within_cut least most places negative n v small is = (
  λ within. is ∙ ap (signed negative) (cut_same n (not_cut least most places negative n small (subst (IsWithin least most) is within))),
  λ within. is ∙ ap (signed negative) (cut_same n (small_within least most places negative n small within)),
)

-- a value outside its range fails the test
outside_test : (least most value : ℤ) (b : Bool) → is_within least most value ≡ b → ¬ (IsWithin least most value) → b ≡ false
outside_test least most value true e outside = absurd (outside (is_within-true least most value e))
outside_test least most value false e outside = refl

-- the value of the parts where it is in range
pub from_within : (places : ℕ) (least most : ℤ) (number : Number) → length number.fraction ≤ places → IsWithin least most (value_of places number) →
    quantity_from places least most number ≡ Ok (value_of places number)
unfolding quantity_from
from_within places least most number fits within = simp (le-ltb places (length number.fraction) fits, is_within-from least most (value_of places number) within)

-- a number outside the range is refused
pub from_outside : (places : ℕ) (least most : ℤ) (number : Number) → length number.fraction ≤ places → ¬ (IsWithin least most (value_of places number)) →
    quantity_from places least most number ≡ Err OutOfRange
unfolding quantity_from
from_outside places least most number fits outside =
    simp (le-ltb places (length number.fraction) fits, outside_test least most (value_of places number) (is_within least most (value_of places number)) refl outside)

-- a number with too many decimals is refused
pub from_fine : (places : ℕ) (least most : ℤ) (number : Number) → places < length number.fraction → quantity_from places least most number ≡ Err TooFine
unfolding quantity_from
from_fine places least most number fine = simp (lt-ltb places (length number.fraction) fine)

-- the same by the value as it was cut off
pub from_cut_within : (places : ℕ) (least most : ℤ) (number : Number) (v : ℤ) → IsSmall least most places → length number.fraction ≤ places →
    v ≡ signed number.negative (min (digits_value 10 (number.whole ++ number.fraction ++ replicate (places - length number.fraction) 48)) (10 ^ 18)) →
    IsWithin least most v → quantity_from places least most number ≡ Ok v
from_cut_within places least most number v small fits is within =
    let n = digits_value 10 (number.whole ++ number.fraction ++ replicate (places - length number.fraction) 48) in
    let same : v ≡ value_of places number = (within_cut least most places number.negative n v small is).0 within in
    from_within places least most number fits (subst (IsWithin least most) same within) ∙ ap Ok (sym same)

-- a cut value outside the range comes from a number outside it
pub from_cut_outside : (places : ℕ) (least most : ℤ) (number : Number) (v : ℤ) → IsSmall least most places → length number.fraction ≤ places →
    v ≡ signed number.negative (min (digits_value 10 (number.whole ++ number.fraction ++ replicate (places - length number.fraction) 48)) (10 ^ 18)) →
    ¬ (IsWithin least most v) → quantity_from places least most number ≡ Err OutOfRange
from_cut_outside places least most number v small fits is outside =
    let n = digits_value 10 (number.whole ++ number.fraction ++ replicate (places - length number.fraction) 48) in
    from_outside places least most number fits (λ within.
    let same : v ≡ value_of places number = (within_cut least most places number.negative n v small is).1 within in
    outside (subst (IsWithin least most) (sym same) within))

-- what is read of a text that isn't empty
pub quantity_of-bad : (places : ℕ) (least most : ℤ) (text : List ℕ) (offset : ℕ) → 0 < length text → bad_offset text ≡ Some offset → quantity_of places least most text ≡ Err (BadByte offset)
unfolding quantity_of
quantity_of-bad places least most [] offset some e = absurd (omega arith)
quantity_of-bad places least most (byte ∷ bytes) offset some e = ap (λ o. unless_bad o (quantity_from places least most (number_of (byte ∷ bytes)))) e

-- a number is read by its parts
pub quantity_of-number : (places : ℕ) (least most : ℤ) (text : List ℕ) → 0 < length text → bad_offset text ≡ None → quantity_of places least most text ≡ quantity_from places least most (number_of text)
unfolding quantity_of
quantity_of-number places least most [] some e = absurd (omega arith)
quantity_of-number places least most (byte ∷ bytes) some e = ap (λ o. unless_bad o (quantity_from places least most (number_of (byte ∷ bytes)))) e

-- an empty text is refused
pub quantity_of-empty : (places : ℕ) (least most : ℤ) (text : List ℕ) → length text ≡ 0 → quantity_of places least most text ≡ Err Empty
unfolding quantity_of
quantity_of-empty places least most [] e = refl
quantity_of-empty places least most (byte ∷ bytes) e = absurd (omega arith)

-- what a number is read as is right
right_from : (places : ℕ) (least most : ℤ) (byte : ℕ) (bytes : List ℕ) (fine within : Bool) → let text = byte ∷ bytes in let number = number_of text in
    nat_lt places (length number.fraction) ≡ fine → is_within least most (value_of places number) ≡ within → IsTextOf text number →
    IsReadAs places least most text (if fine then Err TooFine else (if within then Ok (value_of places number) else Err OutOfRange))
right_from places least most byte bytes true within f r w = (number_of (byte ∷ bytes), w, grind (arith, nat_tests))
right_from places least most byte bytes false true f r w = (number_of (byte ∷ bytes), w, grind (arith, nat_tests), refl, is_within-true least most (value_of places (number_of (byte ∷ bytes))) r)
right_from places least most byte bytes false false f r w = (
  number_of (byte ∷ bytes),
  w,
  grind (arith, nat_tests),
  λ within.
      let value = value_of places (number_of (byte ∷ bytes)) in
      let no : is_within least most value ≡ true = is_within-from least most value within in cc,
)

-- what a text is read as is right, by its first bad byte
right_unless : (places : ℕ) (least most : ℤ) (byte : ℕ) (bytes : List ℕ) (bad : Option ℕ) → bad_offset (byte ∷ bytes) ≡ bad →
    IsReadAs places least most (byte ∷ bytes) (unless_bad bad (quantity_from places least most (number_of (byte ∷ bytes))))
unfolding quantity_from
right_unless places least most byte bytes (Some offset) e = (omega arith, bad_at_from_some (byte ∷ bytes) offset e)
right_unless places least most byte bytes None e =
    let number = number_of (byte ∷ bytes) in
    right_from places least most byte bytes (nat_lt places (length number.fraction)) (is_within least most (value_of places number)) refl refl (text_of_parts (byte ∷ bytes) e)

-- what a text is read as is right in the words of the rule
pub parsing_is_right : (places : ℕ) (least most : ℤ) (text : List ℕ) → IsReadAs places least most text (quantity_of places least most text)
unfolding quantity_of
parsing_is_right places least most [] = refl
parsing_is_right places least most (byte ∷ bytes) = right_unless places least most byte bytes (bad_offset (byte ∷ bytes)) refl

-- an answer that is what the text is read as is right
pub right_answer_for : (places : ℕ) (least most : ℤ) (text : List ℕ) (answer : Result ℤ ReadFault) → answer ≡ quantity_of places least most text → IsReadAs places least most text answer
right_answer_for places least most text answer is = subst (IsReadAs places least most text) (sym is) (parsing_is_right places least most text)

-- the value as it is cut off, from the digits that were read
pub value_from_digits : (places : ℕ) (number : Number) (negative : Bool) (value decimals zeros magnitude : ℕ) (v : ℤ) →
    negative ≡ number.negative → decimals ≡ length number.fraction → value ≡ min (digits_value 10 (number.whole ++ number.fraction)) (10 ^ 18) →
    zeros ≡ places - decimals → magnitude ≡ min (value * 10 ^ zeros) (10 ^ 18) → v ≡ signed negative magnitude →
    v ≡ signed number.negative (min (digits_value 10 (number.whole ++ number.fraction ++ replicate (places - length number.fraction) 48)) (10 ^ 18))
value_from_digits places number negative value decimals zeros magnitude v n d digits z scaled is =
    let missing : zeros ≡ places - length number.fraction = z ∙ ap (λ k. places - k) d in
    is
    ∙ ap (λ b. signed b magnitude) n
    ∙ ap (signed number.negative) (cut_scaled (10 ^ 18) value magnitude zeros (number.whole ++ number.fraction) digits scaled
    ∙ ap (λ k. min (digits_value 10 (number.whole ++ number.fraction ++ replicate k 48)) (10 ^ 18)) missing)

-- what the test for an empty text says
pub empty_length : (text : List ℕ) (b : Bool) → b ≡ (length text == 0) → b ≡ true → length text ≡ 0
empty_length text b e h = grind (arith, nat_tests)

-- a text that is not empty has a byte
pub some_length : (text : List ℕ) (b : Bool) → b ≡ (length text == 0) → b ≡ false → 0 < length text
some_length text b e h = grind (arith, nat_tests)

-- what a number is read as, by its answer
abbrev pub Answered : ℕ → ℤ → ℤ → Number → Result ℤ ReadFault → Type 0
Answered places least most number answer = answer ≡ quantity_from places least most number

-- `new` says whether the value is in range
pub from_new : {E : Type 0} (places : ℕ) (least most : ℤ) (number : Number) (v : ℤ) (new : Result ℤ E) → IsSmall least most places → length number.fraction ≤ places →
    v ≡ signed number.negative (min (digits_value 10 (number.whole ++ number.fraction ++ replicate (places - length number.fraction) 48)) (10 ^ 18)) →
    OkIff new (IsWithin least most v) v → MatchResult new (λ x. Answered places least most number (Ok x)) (λ _. Answered places least most number (Err OutOfRange))
from_new places least most number v (Ok x) small fits is within =
    ap Ok within.1 ∙ sym (from_cut_within places least most number v small fits is within.0)
from_new places least most number v (Err e) small fits is outside = sym (from_cut_outside places least most number v small fits is outside)

-- the same once the error is reported as a fault of parsing
pub from_mapped : {E : Type 0} (places : ℕ) (least most : ℤ) (number : Number) (new : Result ℤ E) (answer : Result ℤ ReadFault) (post : E → ReadFault → Type 0) →
    ((e : E) (fault : ReadFault) → post e fault → fault ≡ OutOfRange) →
    MatchResult new (λ x. Answered places least most number (Ok x)) (λ _. Answered places least most number (Err OutOfRange)) →
    MatchResult new (λ x. answer ≡ Ok x) (λ e. IsErrAnd answer (post e)) → Answered places least most number answer
from_mapped places least most number (Ok x) answer post range_kept answered is = is ∙ answered
from_mapped places least most number (Err e) (Ok x) post range_kept answered is = absurd is
from_mapped places least most number (Err e) (Err fault) post range_kept answered is = ap Err (range_kept e fault is) ∙ answered
