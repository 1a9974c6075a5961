-- Readers of bytes, numbers and texts.
use Rattle.std.proofs.Common.{◌≡◌, ℕ, ◌^◌, ◌<◌, ◌≤◌, false, ltb, leb, List, [], ◌∷◌, ◌++◌, length, take, drop, Ok, refl, sym, subst, length-append, arith, ℤ, pos, negsuc}
use Rattle.std.specs.Int.{Width, w16, w32, w64, to_be_bytes}
use Rattle.std.specs.Int.RustNames.{FitsSigned, unsigned_abs}
use Rattle.std.proofs.lemmas.Bool.{ltb-false, le-ltb, leb-true}
use Rattle.std.proofs.lemmas.Int.{ints}
use Rattle.std.proofs.lemmas.List.{take_at, drop_at, take-append-drop, length-take}
use Rattle.farm_fixed.specs.Range.{IsWithin, is_within}
use Rattle.farm_fixed.proofs.ParsingLaws.{is_within-from, is_within-true}
use Rattle.farm_fixed.specs.declared.limits.TheConstants.{LEAST_DENSITY, LEAST_FACTOR, LEAST_TEMPERATURE, MOST_DENSITY, MOST_FACTOR, MOST_HEIGHT, MOST_TEMPERATURE}
use Rattle.byte_readers.proofs.NumberReaders as numbers
use Rattle.byte_readers.proofs.NumberReaders.{IsWide, flag_made, there, wide16, wide32}
use Rattle.site_decoding.specs.declared.fault.SiteBytesFault.TheVariants.{BadSite}
use Rattle.site_decoding.specs.ByteReaders.{Reader, byte_at, byte_up_to, bytes_at, flag_at, natural_at, number_at, signed_at, tested_at, text_at}
use Rattle.site_decoding.specs.Decoding.{density_at, factor_at, height_at, temperature_at}
use Rattle.site_encoding.specs.Encoding.{flag_byte, natural_bytes, signed_bytes, text_bytes}
use Rattle.site_decoding.specs.Readers.{IsBytes, IsReader, Takes}
use Rattle.site_decoding.proofs.Readers.{IsBytes-drop, after_reader, made_reader, reader_as, tested_reader}

-- bytes
pub byte_reader : IsReader (λ b. b < 2 ^ 8) (λ b. b ∷ []) byte_at
byte_reader = numbers.byte_reader BadSite

-- bytes up to one
pub byte_up_to_reader : (most : ℕ) → most < 2 ^ 8 → IsReader (λ b. b ≤ most) (λ b. b ∷ []) (byte_up_to most)
unfolding byte_up_to
byte_up_to_reader most small =
    reader_as (tested_reader (λ byte. leb byte most) byte_reader) (λ b h. leb-true b most h.1) (λ b h. (omega (arith, h, small), grind (arith, h)))

-- yes and no
pub flag_reader : IsReader (λ flag. Unit {0}) (λ flag. flag_byte flag ∷ []) flag_at
unfolding flag_at
flag_reader = made_reader (byte_up_to_reader 1 (omega arith)) (flag_made (λ byte. byte ≤ 1) (λ byte h. h) (λ byte h. h) flag_byte refl refl)

-- numbers of a width
pub number_reader : (w : Width) (limit : ℕ) → IsWide w limit → IsReader (λ n. n < limit) (to_be_bytes w) (number_at w)
number_reader = numbers.number_reader BadSite

-- numbers of two bytes are read exactly
pub number16_reader : IsReader (λ n. n < 2 ^ 16) (to_be_bytes w16) (number_at w16)
number16_reader = number_reader w16 (2 ^ 16) wide16

-- numbers of four bytes are read exactly
pub number32_reader : IsReader (λ n. n < 2 ^ 32) (to_be_bytes w32) (number_at w32)
number32_reader = number_reader w32 (2 ^ 32) wide32

-- a whole number from 0 up to below a limit
pub record IsNatural (limit : ℕ) (number : ℤ) : Type 0 where
  pub is_pos : number ≡ pos (unsigned_abs number)
  pub below : unsigned_abs number < limit

-- numbers that aren't below 0
pub natural_reader : (w : Width) (limit : ℕ) → IsWide w limit → IsReader (IsNatural limit) (natural_bytes w) (natural_at w)
unfolding natural_at
natural_reader w limit wide =
    made_reader (number_reader w limit wide) (record {
      to = λ n lt. record { is_pos = refl; below = lt };
      same = λ n lt. refl;
      of = unsigned_abs;
      back = λ number h. sym h.is_pos;
      of_fits = λ number h. h.below;
    })

-- signed numbers of 16 bits
pub signed16_reader : IsReader (FitsSigned w16) (signed_bytes w16) (signed_at w16)
signed16_reader = numbers.signed16_reader BadSite

-- signed numbers of 64 bits
pub signed64_reader : IsReader (FitsSigned w64) (signed_bytes w64) (signed_at w64)
signed64_reader = numbers.signed64_reader BadSite

-- Quantities.

-- what is read and lies in a range
ranged_reader : {fits : ℤ → Type 0} {text : ℤ → List ℕ} {read : Reader ℤ} (least most : ℤ) → IsReader fits text read →
    ((z : ℤ) → IsWithin least most z → fits z) → IsReader (IsWithin least most) text (λ bytes. tested_at (is_within least most) read bytes)
ranged_reader least most reader of_type =
    reader_as (tested_reader (is_within least most) reader) (λ z h. is_within-true least most z h.1) (λ z h. (of_type z h, is_within-from least most z h))

-- a number from 0 up to most is natural
pub natural_within : (least most limit : ℕ) → most < limit → (z : ℤ) → IsWithin (pos least) (pos most) z → IsNatural limit z
natural_within least most limit small (pos n) h = record { is_pos = refl; below = omega (arith, ints, h.high, small) }
natural_within least most limit small (negsuc n) h = absurd (omega (arith, ints, h.low))

-- densities
pub density_reader : IsReader (IsWithin LEAST_DENSITY MOST_DENSITY) (natural_bytes w16) density_at
unfolding density_at
density_reader = ranged_reader LEAST_DENSITY MOST_DENSITY (natural_reader w16 (2 ^ 16) wide16) (natural_within 4000 12000 (2 ^ 16) (omega arith))

-- temperatures
pub temperature_reader : IsReader (IsWithin LEAST_TEMPERATURE MOST_TEMPERATURE) (signed_bytes w16) temperature_at
unfolding temperature_at
temperature_reader = ranged_reader LEAST_TEMPERATURE MOST_TEMPERATURE signed16_reader (λ z h. omega (arith, ints, h.low, h.high))

-- factors
pub factor_reader : IsReader (IsWithin LEAST_FACTOR MOST_FACTOR) (natural_bytes w32) factor_at
unfolding factor_at
factor_reader = ranged_reader LEAST_FACTOR MOST_FACTOR (natural_reader w32 (2 ^ 32) wide32) (natural_within 50000 150000 (2 ^ 32) (omega arith))

-- heights
pub height_reader : IsReader (IsWithin (pos 0) MOST_HEIGHT) (natural_bytes w16) height_at
unfolding height_at
height_reader = ranged_reader (pos 0) MOST_HEIGHT (natural_reader w16 (2 ^ 16) wide16) (natural_within 0 50000 (2 ^ 16) (omega arith))

-- Texts.

-- this many bytes are read again
bytes_again : (count : ℕ) (text rest : List ℕ) → length text ≡ count → bytes_at count (text ++ rest) ≡ Ok (text, rest)
bytes_again count text rest len =
    let long : ltb (length (text ++ rest)) count ≡ false = le-ltb _ _ (omega (arith, length-append text rest)) in
    rw (long, take_at text rest count len, drop_at text rest count len) refl

-- this many bytes that are read stand there
bytes_takes : (count : ℕ) (bytes text rest : List ℕ) → IsBytes bytes → bytes_at count bytes ≡ Ok (text, rest) → Takes bytes text rest × (length text ≡ count)
bytes_takes count bytes text rest fits e =
    let g = there (ltb (length bytes) count) BadSite (take count bytes, drop count bytes) (text, rest) e in
    let long = ltb-false _ _ g.0 in
    subst (λ (p : List ℕ × List ℕ). Takes bytes p.0 p.1 × (length p.0 ≡ count)) g.1
    (record { parts = sym (take-append-drop count bytes); rest_fits = IsBytes-drop count bytes fits }, omega (arith, length-take count bytes))

-- texts of less than 256 bytes
pub text_reader : IsReader (λ (text : List ℕ). length text < 2 ^ 8) text_bytes text_at
unfolding text_at
text_reader =
    after_reader {key = length} {text_after = λ text. text} byte_reader (record { fits_key = λ text h. h; parts = λ text h. refl })
    (λ count small. record {
      again = λ text rest h. bytes_again count text rest h.0;
      takes = λ bytes text rest fits e. let t = bytes_takes count bytes text rest fits e in (t.0, (t.1, omega (arith, t.1, small)));
    })
