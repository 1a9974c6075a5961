-- Readers of lists, and of things that may be missing.
use Rattle.std.proofs.Common.{◌≡◌, ℕ, ◌^◌, ◌<◌, Bool, true, false, List, [], ◌∷◌, ◌++◌, length, Option, Some, None, Ok, refl, subst, arith}
use Rattle.std.specs.Prelude.{All, IfSome}
use Rattle.std.specs.Int.{Width}
use Rattle.std.specs.List.{flat_map}
use Rattle.byte_readers.proofs.ListReaders.{counted_reader}
use Rattle.byte_readers.proofs.NumberReaders.{IsWide}
use Rattle.site_decoding.specs.ByteReaders.{Reader, counted_at, list_at, option_after, option_at, short_list_at}
use Rattle.site_encoding.specs.Encoding.{flag_byte, list_bytes, option_bytes, short_list_bytes}
use Rattle.site_decoding.specs.Readers.{IsBytes, IsReader, Takes}
use Rattle.site_decoding.proofs.NumberReaders.{byte_reader, flag_reader, number_reader}
use Rattle.site_decoding.proofs.Readers.{after_reader, bind_ok, ok_is, reader_as}

-- a list of a length below a limit, each of which fits
abbrev pub AreListed : {A : Type 0} → (A → Type 0) → ℕ → List A → Type 0
AreListed fits limit xs = (length xs < limit) × All fits xs

-- lists after a count
listed_reader : {A : Type 0} {fits : A → Type 0} {text : A → List ℕ} {read : Reader A} → IsReader fits text read → (limit count : ℕ) → count < limit →
    IsReader (λ xs. (length xs ≡ count) × AreListed fits limit xs) (flat_map text) (counted_at read count)
listed_reader reader limit count small =
    reader_as (counted_reader reader count) (λ xs h. (h.0, (omega (arith, h.0, small), h.1))) (λ xs h. (h.0, h.1.1))

-- lists after a count of one byte
pub short_list_reader : {A : Type 0} {fits : A → Type 0} {text : A → List ℕ} {read : Reader A} → IsReader fits text read →
    IsReader (AreListed fits (2 ^ 8)) (short_list_bytes text) (short_list_at read)
short_list_reader {text = text} reader =
    after_reader {key = length} {text_after = flat_map text} byte_reader (record { fits_key = λ xs h. h.0; parts = λ xs h. refl })
    (λ count small. listed_reader reader (2 ^ 8) count small)

-- lists after a count of several bytes
pub list_reader : {A : Type 0} {fits : A → Type 0} {text : A → List ℕ} {read : Reader A} → (w : Width) (limit : ℕ) → IsWide w limit → IsReader fits text read →
    IsReader (AreListed fits limit) (list_bytes w text) (list_at w read)
list_reader {text = text} w limit wide reader =
    after_reader {key = length} {text_after = flat_map text} (number_reader w limit wide) (record { fits_key = λ xs h. h.0; parts = λ xs h. refl })
    (λ count small. listed_reader reader limit count small)

-- Things that may be missing.

-- whether a thing is there
is_there : {A : Type 0} → Option A → Bool
is_there None = false
is_there (Some thing) = true

-- the bytes after those that say so
after_flag : {A : Type 0} → (A → List ℕ) → Option A → List ℕ
after_flag text None = []
after_flag text (Some thing) = text thing

-- the bytes of a thing that may be missing are that byte and those after it
flag_and_after : {A : Type 0} (text : A → List ℕ) (thing : Option A) → option_bytes text thing ≡ (flag_byte (is_there thing) ∷ []) ++ after_flag text thing
unfolding is_there after_flag
flag_and_after text None = refl
flag_and_after text (Some thing) = refl

-- what fits, where it is known whether a thing is there
abbrev IsFlagged : {A : Type 0} → (A → Type 0) → Bool → Option A → Type 0
IsFlagged fits flag thing = (is_there thing ≡ flag) × IfSome thing fits

-- nothing is read again
nothing_again : {A : Type 0} (fits : A → Type 0) (text : A → List ℕ) (read : Reader A) (thing : Option A) (rest : List ℕ) → IsFlagged fits false thing →
    option_after read false (after_flag text thing ++ rest) ≡ Ok (thing, rest)
unfolding is_there after_flag
nothing_again fits text read None rest h = refl
nothing_again fits text read (Some thing) rest h = absurd (cc h.0)

-- nothing has no bytes
nothing_takes : {A : Type 0} (fits : A → Type 0) (text : A → List ℕ) (read : Reader A) (bytes : List ℕ) (thing : Option A) (rest : List ℕ) → IsBytes bytes →
    option_after read false bytes ≡ Ok (thing, rest) → Takes bytes (after_flag text thing) rest × IsFlagged fits false thing
unfolding is_there after_flag
nothing_takes {A} fits text read bytes thing rest bytes_fit e =
    subst (λ (p : Option A × List ℕ). Takes bytes (after_flag text p.0) p.1 × IsFlagged fits false p.0) (ok_is (None, bytes) (thing, rest) e)
    (record { parts = refl; rest_fits = bytes_fit }, (refl, tt))

-- a thing is read again
thing_again : {A : Type 0} (fits : A → Type 0) (text : A → List ℕ) (read : Reader A) → IsReader fits text read → (thing : Option A) (rest : List ℕ) → IsFlagged fits true thing →
    option_after read true (after_flag text thing ++ rest) ≡ Ok (thing, rest)
unfolding is_there after_flag
thing_again fits text read reader None rest h = absurd (cc h.0)
thing_again fits text read reader (Some thing) rest h = rw (reader.again thing rest h.1) refl

-- a thing that was read was so written
thing_takes : {A : Type 0} (fits : A → Type 0) (text : A → List ℕ) (read : Reader A) → IsReader fits text read → (bytes : List ℕ) (thing : Option A) (rest : List ℕ) → IsBytes bytes →
    option_after read true bytes ≡ Ok (thing, rest) → Takes bytes (after_flag text thing) rest × IsFlagged fits true thing
unfolding is_there after_flag
thing_takes {A} fits text read reader bytes thing rest bytes_fit e =
    let b = bind_ok (read bytes) (λ x. Ok (Some x.0, x.1)) (thing, rest) e in
    let t = reader.takes bytes b.0.0 b.0.1 bytes_fit b.1 in
    let made : Option A × List ℕ = (Some b.0.0, b.0.1) in
    subst (λ (p : Option A × List ℕ). Takes bytes (after_flag text p.0) p.1 × IsFlagged fits true p.0) (ok_is made (thing, rest) b.2) (t.0, (refl, t.1))

-- what is read after the byte that says whether a thing is there
flagged_reader : {A : Type 0} {fits : A → Type 0} {text : A → List ℕ} {read : Reader A} → IsReader fits text read → (flag : Bool) →
    IsReader (IsFlagged fits flag) (after_flag text) (option_after read flag)
flagged_reader {fits = fits} {text = text} {read = read} reader false = record { again = nothing_again fits text read; takes = nothing_takes fits text read }
flagged_reader {fits = fits} {text = text} {read = read} reader true = record { again = thing_again fits text read reader; takes = thing_takes fits text read reader }

-- things that may be missing
pub option_reader : {A : Type 0} {fits : A → Type 0} {text : A → List ℕ} {read : Reader A} → IsReader fits text read →
    IsReader (λ thing. IfSome thing fits) (option_bytes text) (option_at read)
option_reader {text = text} reader =
    after_reader {key = is_there} {text_after = after_flag text} flag_reader (record { fits_key = λ thing h. tt; parts = λ thing h. flag_and_after text thing })
    (λ flag any. flagged_reader reader flag)
