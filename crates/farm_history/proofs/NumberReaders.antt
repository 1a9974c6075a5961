-- Readers of numbers and of single bytes.
use Rattle.std.proofs.Common.{◌≡◌, ℕ, ◌-◌, ◌^◌, ◌<◌, Bool, true, false, cond, ltb, List, [], ◌∷◌, ◌++◌, length, get_or, take, drop, replicate, Result, Ok, Err, refl, sym, ap, subst, ◌∙◌, append-nil, length-append, arith, inl, inr}
use Rattle.std.specs.Int.{Width, w64, byte_len, from_be_bytes, to_be_bytes}
use Rattle.std.specs.Int.RustNames.{FitsSigned}
use Rattle.std.proofs.lemmas.Bool.{cases_lt, ltb-true}
use Rattle.std.proofs.lemmas.List.{length-replicate, get_or-replicate, get_or_append_left, get_or-append_right, get_or_past}
use Rattle.byte_readers.specs.ByteReaders as readers
use Rattle.byte_readers.specs.Readers.{IsBytes, IsReader}
use Rattle.byte_readers.proofs.NumberReaders as numbers
use Rattle.byte_readers.proofs.NumberReaders.{IsWide, signed64_made, wide64}
use Rattle.byte_readers.proofs.Readers.{reader_as, tested_reader}
use Rattle.farm_history.specs.Decoding.{byte_at, number_at, signed_at}
use Rattle.farm_history.specs.Encoding.{signed_bytes}
use Rattle.farm_history.proofs.Readers.{IsBadFrom, IsPlacing, made_reader}

-- zeros are bytes
IsBytes-zeros : (k : ℕ) → IsBytes (replicate k 0)
IsBytes-zeros k i =
    elim (cases_lt i k) [
      | inl lt ↦ rw (get_or-replicate {A = ℕ} k i 0 0 lt) (omega arith)
      | inr le ↦ rw (get_or_past (replicate {A = ℕ} k 0) i 0 (omega (arith, length-replicate {A = ℕ} k 0))) (omega arith)
    ]

-- bytes after bytes are bytes
IsBytes-append : (first second : List ℕ) → IsBytes first → IsBytes second → IsBytes (first ++ second)
IsBytes-append first second f s i =
    elim (cases_lt i (length first)) [
      | inl lt ↦ rw (get_or_append_left first second 0 i lt) (f i)
      | inr le ↦ rw (get_or-append_right first second (length first) i 0 refl le) (s (i - length first))
    ]

-- bytes and as many zeros as are missing are bytes
pub IsBytes-with_zeros : (bytes : List ℕ) (k : ℕ) → IsBytes bytes → IsBytes (bytes ++ replicate k 0)
IsBytes-with_zeros bytes k h = IsBytes-append bytes (replicate k 0) h (IsBytes-zeros k)

-- bytes are missing
abbrev no_bytes : (A : Type 0) → Result A ℕ
no_bytes A = Err 0

-- a test that failed reports that nothing was read
pub guard_err : {A : Type 0} (b : Bool) (x : A) (left : ℕ) → cond b (no_bytes A) (Ok x) ≡ Err left → (b ≡ true) × (left ≡ 0)
guard_err true x left e = (refl, cc)
guard_err false x left e = absurd cc

-- bytes that end before a number does
pub short_number : (w : Width) (limit : ℕ) → IsWide w limit → (fits : ℕ → Type 0) (bytes : List ℕ) → length bytes < byte_len w → IsBytes bytes →
    fits (from_be_bytes w (bytes ++ replicate (byte_len w - length bytes) 0)) → IsBadFrom fits (to_be_bytes w) bytes 0
short_number w limit wide fits bytes short h good =
    let zeros : List ℕ = replicate (byte_len w - length bytes) 0 in
    let len : length (bytes ++ zeros) ≡ byte_len w = omega (arith, length-append bytes zeros, length-replicate {A = ℕ} (byte_len w - length bytes) 0) in
    record {
      front = bytes;
      back = [];
      parts = sym (append-nil bytes);
      left_is = refl;
      value = from_be_bytes w (bytes ++ zeros);
      value_fits = good;
      more = zeros;
      good = wide.back (bytes ++ zeros) len (IsBytes-with_zeros bytes (byte_len w - length bytes) h);
      unfinished = λ n rest fn whole. absurd (omega (arith, ap length whole, length-append (to_be_bytes w n) rest, wide.len n));
      bad = λ n byte after rest further fn there whole. absurd (cc there);
    }

-- numbers of a width
pub number_reader : (w : Width) (limit : ℕ) → IsWide w limit → IsPlacing (λ n. n < limit) (to_be_bytes w) (number_at w)
number_reader w limit wide = record {
  reads = numbers.number_reader 0 w limit wide;
  refuses = λ bytes left fits e.
      let g = guard_err (ltb (length bytes) (byte_len w)) (from_be_bytes w (take (byte_len w) bytes), drop (byte_len w) bytes) left e in
      let short = ltb-true _ _ g.0 in
      let missing = byte_len w - length bytes in
      subst (IsBadFrom (λ n. n < limit) (to_be_bytes w) bytes) (sym g.1)
      (short_number w limit wide (λ n. n < limit) bytes short fits (wide.below (bytes ++ replicate missing 0) (IsBytes-with_zeros bytes missing fits)));
  some = 0;
  some_fits = wide.some;
}

-- signed numbers
pub signed_reader : IsPlacing (FitsSigned w64) signed_bytes signed_at
unfolding readers.signed_at
signed_reader = made_reader (number_reader w64 (2 ^ 64) wide64) signed64_made

-- a byte that was refused failed its test, and is where the refusal points
byte_err : (b : Bool) (p : ℕ × List ℕ) (k left : ℕ) → cond b (Ok p) (Err k) ≡ Err left → (b ≡ false) × (k ≡ left)
byte_err true p k left e = absurd cc
byte_err false p k left e = (refl, cc)

-- any byte
any_byte : IsReader {F = ℕ} (λ b. Unit {0}) (λ b. b ∷ []) (readers.byte_at 0)
any_byte = record { again = λ b rest h. refl; takes = λ bytes b rest fits e. (((numbers.byte_reader 0).takes bytes b rest fits e).0, tt) }

-- a byte that is refused can't stand there
byte_refuses : (test : ℕ → Bool) (some : ℕ) → test some ≡ true → (bytes : List ℕ) (left : ℕ) → byte_at test bytes ≡ Err left →
    IsBadFrom (λ b. test b ≡ true) (λ b. b ∷ []) bytes left
byte_refuses test some passes [] left e = record {
  front = [];
  back = [];
  parts = refl;
  left_is = cc;
  value = some;
  value_fits = passes;
  more = some ∷ [];
  good = refl;
  unfinished = λ b rest h whole. absurd (cc whole);
  bad = λ b byte after rest further h there whole. absurd (cc there);
}
byte_refuses test some passes (byte ∷ bytes) left e =
    let g = byte_err (test byte) (byte, bytes) (length (byte ∷ bytes)) left e in
    record {
      front = [];
      back = byte ∷ bytes;
      parts = refl;
      left_is = g.1;
      value = some;
      value_fits = passes;
      more = some ∷ [];
      good = refl;
      unfinished = λ b rest h whole. absurd (cc whole);
      bad = λ b there_byte after rest further h there whole.
          let same : byte ≡ b = ap (λ t. get_or t 0 0) there ∙ ap (λ t. get_or t 0 0) whole in
          absurd (cc (same, h, g.0));
    }

-- a byte that passes a test
pub byte_reader : (test : ℕ → Bool) (some : ℕ) → test some ≡ true → IsPlacing (λ b. test b ≡ true) (λ b. b ∷ []) (byte_at test)
byte_reader test some passes = record {
  reads = reader_as (tested_reader length test any_byte) (λ b h. h.1) (λ b h. (tt, h));
  refuses = λ bytes left fits e. byte_refuses test some passes bytes left e;
  some = some;
  some_fits = passes;
}
