-- The reader of moments.
use Rattle.std.proofs.Common.{◌≡◌, ℕ, zero, suc, ◌-◌, ◌^◌, ◌<◌, ◌≤◌, ltb, List, ◌∷◌, ◌++◌, length, get_or, take, drop, replicate, Option, Some, None, Result, Ok, Err, ◌⊎◌, refl, sym, ap, subst, ◌∙◌, length-append, arith, inl, inr, ℤ, pos, negsuc}
use Rattle.std.specs.Int.{w64, byte_at, bytes_high_first, cast_signed, cast_unsigned, from_be_bytes, to_be_bytes}
use mir.Val.{SFits}
use Rattle.std.proofs.lemmas.Bool.{ltb-true}
use Rattle.std.proofs.lemmas.Int.{ints, of_z-to_z, to_z-of_z, to_z_pos}
use Rattle.std.proofs.lemmas.List.{length-replicate}
use Rattle.farm_base.specs.Steps.{◌>>=◌}
use Rattle.byte_readers.specs.ByteReaders as readers
use Rattle.byte_readers.specs.Readers.{IsBytes, Takes}
use Rattle.byte_readers.proofs.NumberReaders.{wide64}
use Rattle.farm_history.specs.Decoding.{first_above, moment_at, number_at, unless_above}
use Rattle.farm_history.specs.Encoding.{signed_bytes}
use Rattle.farm_history.specs.History.{IsMoment}
use Rattle.farm_history.proofs.Above.{none_with_zeros, none_with_rest, none_of_front, IsAbove, above_found, some_none, none_le, le_none, value_of_eight, value_of-to_be_bytes}
use Rattle.farm_history.proofs.NumberReaders.{IsBytes-with_zeros, guard_err, number_reader, short_number}
use Rattle.farm_history.proofs.Readers.{IsBadFrom, IsPlacing, made_reader, same_reader}

-- the last moment, and its bytes
abbrev last : ℕ
last = 253000000000

-- the bytes of the last moment
abbrev last_bytes : List ℕ
last_bytes = to_be_bytes w64 253000000000

-- each byte of a number is one
byte_below : (i n : ℕ) → byte_at i n < 256
byte_below zero n = omega arith
byte_below (suc i) n = omega arith

-- a byte and then bytes are bytes
IsBytes-cons : (byte : ℕ) (bytes : List ℕ) → byte < 256 → IsBytes bytes → IsBytes (byte ∷ bytes)
IsBytes-cons byte bytes first rest zero = first
IsBytes-cons byte bytes first rest (suc i) = rest i

-- the bytes of a number are bytes
IsBytes-number : (k n : ℕ) → IsBytes (bytes_high_first k n)
IsBytes-number zero n = λ i. omega arith
IsBytes-number (suc k) n = IsBytes-cons (byte_at k n) (bytes_high_first k n) (byte_below k n) (IsBytes-number k n)

-- a number that is at most the last moment has no byte too great, and one without such a byte is at most that
no_byte : (n : ℕ) → n ≤ last → first_above last_bytes (to_be_bytes w64 n) ≡ None
no_byte n le =
    le_none last_bytes (to_be_bytes w64 n) (IsBytes-number 8 last) refl
    (let small = value_of-to_be_bytes n (omega arith) in let most = value_of-to_be_bytes last (omega arith) in omega arith)

-- eight bytes of which none is too great are a number that is at most the last moment
at_most : (bytes : List ℕ) → IsBytes bytes → length bytes ≡ 8 → first_above last_bytes bytes ≡ None → from_be_bytes w64 bytes ≤ last
at_most bytes fits len none =
    let le = none_le last_bytes bytes fits (sym len) none in
    let small = value_of_eight bytes len in
    let most = value_of-to_be_bytes last (omega arith) in
    omega arith

-- a number of eight bytes that is at most the last moment
bounded_at : List ℕ → Result (ℕ × List ℕ) ℕ
bounded_at bytes = unless_above (first_above last_bytes bytes) (number_at w64 bytes)

-- what was read has no byte that is too great
unless_ok : {A : Type 0} (option : Option ℕ) (read : Result A ℕ) (x : A) → unless_above option read ≡ Ok x → (option ≡ None) × (read ≡ Ok x)
unless_ok None read x e = (refl, e)
unless_ok (Some left) read x e = absurd cc

-- what was refused has one, or could not be read
unless_err : {A : Type 0} (option : Option ℕ) (read : Result A ℕ) (left : ℕ) → unless_above option read ≡ Err left → (option ≡ Some left) ⊎ ((option ≡ None) × (read ≡ Err left))
unless_err None read left e = inr (refl, e)
unless_err (Some place) read left e = inl cc

-- a moment is read again
bounded_again : (n : ℕ) (rest : List ℕ) → n ≤ last → bounded_at (to_be_bytes w64 n ++ rest) ≡ Ok (n, rest)
unfolding bounded_at
bounded_again n rest le =
    rw (none_with_rest last_bytes (to_be_bytes w64 n) rest refl (no_byte n le)) ((number_reader w64 (2 ^ 64) wide64).reads.again n rest (omega arith))

-- a moment that is read was so written
bounded_takes : (bytes : List ℕ) (n : ℕ) (rest : List ℕ) → IsBytes bytes → bounded_at bytes ≡ Ok (n, rest) → Takes bytes (to_be_bytes w64 n) rest × (n ≤ last)
unfolding bounded_at
bounded_takes bytes n rest fits e =
    let both = unless_ok (first_above last_bytes bytes) (number_at w64 bytes) (n, rest) e in
    let t = (number_reader w64 (2 ^ 64) wide64).reads.takes bytes n rest fits both.1 in
    let none = none_of_front last_bytes (to_be_bytes w64 n) rest (subst (λ text. first_above last_bytes text ≡ None) t.0.parts both.0) in
    let le = none_le last_bytes (to_be_bytes w64 n) (IsBytes-number 8 n) refl none in
    let small = value_of-to_be_bytes n t.1 in
    let most = value_of-to_be_bytes last (omega arith) in
    (t.0, omega arith)

-- where a byte is too great, no moment follows
bad_above : (bytes : List ℕ) (left : ℕ) → IsAbove last_bytes bytes left → IsBadFrom (λ n. n ≤ last) (to_be_bytes w64) bytes left
bad_above bytes left w = record {
  front = w.front;
  back = w.byte ∷ w.after;
  parts = w.parts;
  left_is = w.left_is;
  value = last;
  value_fits = omega arith;
  more = w.tail;
  good = w.begins;
  unfinished = λ n rest le whole.
      let long = length-append (to_be_bytes w64 n) rest in
      let same = ap length whole in
      absurd (omega (arith, w.within));
  bad = λ n byte after rest further le there whole.
      let same : byte ≡ w.byte = sym (ap (λ t. get_or t 0 0) there) in
      let none = none_with_rest last_bytes (to_be_bytes w64 n) rest refl (no_byte n le) in
      let text = ap (λ b. w.front ++ b ∷ further) (sym same) ∙ whole in
      some_none _ _ none (ap (first_above last_bytes) (sym text) ∙ w.always further);
}

-- where bytes are missing, zeros can follow
bad_short : (bytes : List ℕ) (left : ℕ) → IsBytes bytes → first_above last_bytes bytes ≡ None → number_at w64 bytes ≡ Err left → IsBadFrom (λ n. n ≤ last) (to_be_bytes w64) bytes left
bad_short bytes left fits none e =
    let g = guard_err (ltb (length bytes) 8) (from_be_bytes w64 (take 8 bytes), drop 8 bytes) left e in
    let short = ltb-true _ _ g.0 in
    let zeros : List ℕ = replicate (8 - length bytes) 0 in
    let len : length (bytes ++ zeros) ≡ 8 = omega (arith, length-append bytes zeros, length-replicate {A = ℕ} (8 - length bytes) 0) in
    subst (IsBadFrom (λ n. n ≤ last) (to_be_bytes w64) bytes) (sym g.1)
    (short_number w64 (2 ^ 64) wide64 (λ n. n ≤ last) bytes short fits
    (at_most (bytes ++ zeros) (IsBytes-with_zeros bytes (8 - length bytes) fits) len (none_with_zeros last_bytes bytes (8 - length bytes) none)))

-- numbers up to the last moment
bounded_reader : IsPlacing (λ n. n ≤ last) (to_be_bytes w64) bounded_at
unfolding bounded_at
bounded_reader = record {
  reads = record { again = bounded_again; takes = bounded_takes };
  refuses = λ bytes left fits e.
      elim (unless_err (first_above last_bytes bytes) (number_at w64 bytes) left e) [
        | inl above ↦ bad_above bytes left (above_found last_bytes bytes left above)
        | inr both ↦ bad_short bytes left fits both.0 both.1
      ];
  some = 0;
  some_fits = omega arith;
}

-- a number up to the last moment is a moment
is_moment : (n : ℕ) → n ≤ last → IsMoment (cast_signed w64 n)
is_moment n le = rw (to_z_pos w64 n (omega arith)) (record { low = omega (arith, ints); high = omega (arith, ints) })

-- a moment fits 64 bits, and is a number up to the last one
pub moment_fits : (z : ℤ) → IsMoment z → SFits w64 z
moment_fits z h = omega (arith, ints, h.low, h.high)

-- a moment, as a number without a sign, is at most the last one
moment_of : (z : ℤ) → IsMoment z → cast_unsigned w64 z ≤ last
moment_of (pos n) h = omega (arith, ints, h.high)
moment_of (negsuc n) h = absurd (omega (arith, ints, h.low))

-- the test may stand before the number is made
unless_made : {A B : Type 0} (option : Option ℕ) (read : Result A ℕ) (make : A → B) →
    unless_above option (read >>= λ x. Ok (make x)) ≡ (unless_above option read >>= λ x. Ok (make x))
unless_made None read make = refl
unless_made (Some left) read make = refl

-- moments
pub moment_reader : IsPlacing IsMoment signed_bytes moment_at
unfolding moment_at readers.signed_at bounded_at
moment_reader =
    same_reader
    (made_reader bounded_reader (record {
      to = is_moment;
      same = λ n le. ap (to_be_bytes w64) (of_z-to_z w64 n (omega arith));
      of = λ z. cast_unsigned w64 z;
      back = λ z h. to_z-of_z w64 z (moment_fits z h);
      of_fits = moment_of;
    }))
    (λ bytes. unless_made (first_above last_bytes bytes) (number_at w64 bytes) (λ x. (cast_signed w64 x.0, x.1)))
