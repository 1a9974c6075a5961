-- Readers of bytes and numbers.
use Rattle.std.proofs.Common.{◌≡◌, ℕ, zero, suc, ◌^◌, ◌<◌, ◌≤◌, ◌==◌, Bool, true, false, cond, ltb, List, [], ◌∷◌, ◌++◌, length, take, drop, Ok, Err, refl, sym, ap, subst, ◌∙◌, length-append, arith}
use Rattle.std.specs.Int.{Width, w16, w32, w64, byte_len, cast_signed, cast_unsigned, from_be_bytes, to_be_bytes}
use Rattle.std.specs.Int.RustNames.{FitsSigned}
use Rattle.std.proofs.lemmas.Bool.{ltb-false, le-ltb}
use Rattle.std.proofs.lemmas.Int.{ints, of_z-to_z, to_z-of_z}
use Rattle.std.proofs.lemmas.List.{take_at, drop_at, take-append-drop, length-take}
use Rattle.std.proofs.lemmas.Nat.{be_bytes_2, be_bytes_4, be_bytes_8, from_be_bytes-to_be_bytes_2, from_be_bytes-to_be_bytes_4, from_be_bytes-to_be_bytes_8}
use Rattle.byte_readers.specs.ByteReaders.{byte_at, number_at, signed_at}
use Rattle.byte_readers.specs.Readers.{IsBytes, IsReader, Takes}
use Rattle.byte_readers.proofs.Readers.{IsBytes-drop, IsBytes-take, IsMade, made_reader, ok_is}

-- a byte is one, and so is the rest
pub IsBytes-rest : (b : ℕ) (bytes : List ℕ) → IsBytes (b ∷ bytes) → IsBytes bytes
IsBytes-rest b bytes h i = h (suc i)

-- a byte that is read was so written
byte_takes : {F : Type 0} (short : F) (bytes : List ℕ) (b : ℕ) (rest : List ℕ) → IsBytes bytes → byte_at short bytes ≡ Ok (b, rest) → Takes bytes (b ∷ []) rest × (b < 2 ^ 8)
byte_takes short [] b rest fits e = absurd cc
byte_takes short (byte ∷ bytes) b rest fits e =
    subst (λ (p : ℕ × List ℕ). Takes (byte ∷ bytes) (p.0 ∷ []) p.1 × (p.0 < 2 ^ 8)) (ok_is (byte, bytes) (b, rest) e)
    (record { parts = refl; rest_fits = IsBytes-rest byte bytes fits }, omega (arith, fits 0))

-- bytes
pub byte_reader : {F : Type 0} (short : F) → IsReader (λ b. b < 2 ^ 8) (λ b. b ∷ []) (byte_at short)
byte_reader short = record { again = λ b rest h. refl; takes = byte_takes short }

-- a byte that is up to 1 says yes or no
flag_same : (flag_byte : Bool → ℕ) → flag_byte false ≡ 0 → flag_byte true ≡ 1 → (byte : ℕ) → byte ≤ 1 → flag_byte (byte == 1) ∷ [] ≡ byte ∷ []
flag_same flag_byte zero_is one_is zero h = ap (λ byte. byte ∷ []) zero_is
flag_same flag_byte zero_is one_is (suc zero) h = ap (λ byte. byte ∷ []) one_is
flag_same flag_byte zero_is one_is (suc (suc byte)) h = absurd (omega (arith, h))

-- the byte of a flag gives it back
flag_back : (flag_byte : Bool → ℕ) → flag_byte false ≡ 0 → flag_byte true ≡ 1 → (flag : Bool) → (flag_byte flag == 1) ≡ flag
flag_back flag_byte zero_is one_is false = rw zero_is refl
flag_back flag_byte zero_is one_is true = rw one_is refl

-- the byte of a flag is at most 1
flag_fits : (flag_byte : Bool → ℕ) → flag_byte false ≡ 0 → flag_byte true ≡ 1 → (flag : Bool) → flag_byte flag ≤ 1
flag_fits flag_byte zero_is one_is false = omega (arith, zero_is)
flag_fits flag_byte zero_is one_is true = omega (arith, one_is)

-- yes and no are made of bytes that fit, which are those up to 1
pub flag_made : (fits : ℕ → Type 0) → ((byte : ℕ) → fits byte → byte ≤ 1) → ((byte : ℕ) → byte ≤ 1 → fits byte) →
    (flag_byte : Bool → ℕ) → flag_byte false ≡ 0 → flag_byte true ≡ 1 →
    IsMade fits (λ byte. byte ∷ []) (λ flag. Unit {0}) (λ flag. flag_byte flag ∷ []) (λ byte. byte == 1)
flag_made fits from to flag_byte zero_is one_is = record {
  to = λ byte h. tt;
  same = λ byte h. flag_same flag_byte zero_is one_is byte (from byte h);
  of = flag_byte;
  back = λ flag h. flag_back flag_byte zero_is one_is flag;
  of_fits = λ flag h. to (flag_byte flag) (flag_fits flag_byte zero_is one_is flag);
}

-- a width: how many bytes it has, and that numbers below a limit and their bytes are one
pub record IsWide (w : Width) (limit : ℕ) : Type 0 where
  pub len : (n : ℕ) → length (to_be_bytes w n) ≡ byte_len w
  pub back : (bytes : List ℕ) → length bytes ≡ byte_len w → IsBytes bytes → to_be_bytes w (from_be_bytes w bytes) ≡ bytes
  pub again : (n : ℕ) → n < limit → from_be_bytes w (to_be_bytes w n) ≡ n
  pub below : (bytes : List ℕ) → IsBytes bytes → from_be_bytes w bytes < limit
  pub some : 0 < limit

-- numbers of two bytes
pub wide16 : IsWide w16 (2 ^ 16)
wide16 = record {
  len = λ n. refl;
  back = λ bytes len fits. be_bytes_2 bytes _ len fits refl;
  again = λ n lt. from_be_bytes-to_be_bytes_2 n lt;
  below = λ bytes fits. omega (arith, fits 0, fits 1);
  some = omega arith;
}

-- numbers of four bytes
pub wide32 : IsWide w32 (2 ^ 32)
wide32 = record {
  len = λ n. refl;
  back = λ bytes len fits. be_bytes_4 bytes _ len fits refl;
  again = λ n lt. from_be_bytes-to_be_bytes_4 n lt;
  below = λ bytes fits. omega (arith, fits 0, fits 1, fits 2, fits 3);
  some = omega arith;
}

-- numbers of eight bytes
pub wide64 : IsWide w64 (2 ^ 64)
wide64 = record {
  len = λ n. refl;
  back = λ bytes len fits. be_bytes_8 bytes _ len fits refl;
  again = λ n lt. from_be_bytes-to_be_bytes_8 n lt;
  below = λ bytes fits. omega (arith, fits 0, fits 1, fits 2, fits 3, fits 4, fits 5, fits 6, fits 7);
  some = omega arith;
}

-- bytes that were there
pub there : {F A : Type 0} (short : Bool) (fault : F) (x y : A) → cond short (Err fault) (Ok x) ≡ Ok y → (short ≡ false) × (x ≡ y)
there true fault x y e = absurd cc
there false fault x y e = (refl, cc)

-- a number is read again
number_again : {F : Type 0} (short : F) (w : Width) (limit : ℕ) → IsWide w limit → (n : ℕ) (rest : List ℕ) → n < limit → number_at short w (to_be_bytes w n ++ rest) ≡ Ok (n, rest)
number_again short w limit wide n rest lt =
    let len = wide.len n in
    let long : ltb (length (to_be_bytes w n ++ rest)) (byte_len w) ≡ false = le-ltb _ _ (omega (arith, length-append (to_be_bytes w n) rest)) in
    rw (long, take_at (to_be_bytes w n) rest (byte_len w) len, drop_at (to_be_bytes w n) rest (byte_len w) len, wide.again n lt) refl

-- a number that is read was so written
number_takes : {F : Type 0} (short : F) (w : Width) (limit : ℕ) → IsWide w limit → (bytes : List ℕ) (n : ℕ) (rest : List ℕ) → IsBytes bytes → number_at short w bytes ≡ Ok (n, rest) →
    Takes bytes (to_be_bytes w n) rest × (n < limit)
number_takes short w limit wide bytes n rest fits e =
    let front = take (byte_len w) bytes in
    let g = there (ltb (length bytes) (byte_len w)) short (from_be_bytes w front, drop (byte_len w) bytes) (n, rest) e in
    let long = ltb-false _ _ g.0 in
    let n_is : from_be_bytes w front ≡ n = ap (λ (p : ℕ × List ℕ). p.0) g.1 in
    let rest_is : drop (byte_len w) bytes ≡ rest = ap (λ (p : ℕ × List ℕ). p.1) g.1 in
    let front_fits = IsBytes-take (byte_len w) bytes fits in
    let text : to_be_bytes w n ≡ front = ap (to_be_bytes w) (sym n_is) ∙ wide.back front (omega (arith, length-take (byte_len w) bytes)) front_fits in
    let parts : bytes ≡ to_be_bytes w n ++ rest =
    sym (take-append-drop (byte_len w) bytes) ∙ ap (λ t. t ++ drop (byte_len w) bytes) (sym text) ∙ ap (λ t. to_be_bytes w n ++ t) rest_is in
    (record { parts = parts; rest_fits = subst IsBytes rest_is (IsBytes-drop (byte_len w) bytes fits) }, subst (λ k. k < limit) n_is (wide.below front front_fits))

-- numbers of a width
pub number_reader : {F : Type 0} (short : F) (w : Width) (limit : ℕ) → IsWide w limit → IsReader (λ n. n < limit) (to_be_bytes w) (number_at short w)
number_reader short w limit wide = record { again = number_again short w limit wide; takes = number_takes short w limit wide }

-- signed numbers of two bytes are made of numbers
pub signed16_made : IsMade (λ n. n < 2 ^ 16) (to_be_bytes w16) (FitsSigned w16) (λ z. to_be_bytes w16 (cast_unsigned w16 z)) (cast_signed w16)
signed16_made = record {
  to = λ n lt. omega (arith, ints);
  same = λ n lt. ap (to_be_bytes w16) (of_z-to_z w16 n lt);
  of = λ z. cast_unsigned w16 z;
  back = λ z fits. to_z-of_z w16 z fits;
  of_fits = λ z fits. omega (arith, ints);
}

-- signed numbers of eight bytes are
pub signed64_made : IsMade (λ n. n < 2 ^ 64) (to_be_bytes w64) (FitsSigned w64) (λ z. to_be_bytes w64 (cast_unsigned w64 z)) (cast_signed w64)
signed64_made = record {
  to = λ n lt. omega (arith, ints);
  same = λ n lt. ap (to_be_bytes w64) (of_z-to_z w64 n lt);
  of = λ z. cast_unsigned w64 z;
  back = λ z fits. to_z-of_z w64 z fits;
  of_fits = λ z fits. omega (arith, ints);
}

-- signed numbers of two bytes
pub signed16_reader : {F : Type 0} (short : F) → IsReader (FitsSigned w16) (λ z. to_be_bytes w16 (cast_unsigned w16 z)) (signed_at short w16)
unfolding signed_at
signed16_reader short = made_reader (number_reader short w16 (2 ^ 16) wide16) signed16_made

-- signed numbers of eight bytes
pub signed64_reader : {F : Type 0} (short : F) → IsReader (FitsSigned w64) (λ z. to_be_bytes w64 (cast_unsigned w64 z)) (signed_at short w64)
unfolding signed_at
signed64_reader short = made_reader (number_reader short w64 (2 ^ 64) wide64) signed64_made
