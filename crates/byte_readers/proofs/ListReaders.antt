-- Readers of this many things.
use Rattle.std.proofs.Common.{◌≡◌, ℕ, zero, suc, List, [], ◌∷◌, ◌++◌, get_or, length, Ok, refl, ap, subst, arith}
use Rattle.std.specs.Prelude.{All}
use Rattle.std.specs.List.{flat_map}
use Rattle.farm_base.specs.Steps.{◌>>=◌}
use Rattle.byte_readers.specs.ByteReaders.{Reader, ◌▸◌, counted_at}
use Rattle.byte_readers.specs.Readers.{IsBytes, IsReader, Takes}
use Rattle.byte_readers.proofs.Readers.{bind_ok, ok_is, then_reader}

-- what holds of each of a list holds of the first
pub all_head : {A : Type 0} (P : A → Type 0) (x : A) (xs : List A) → All P (x ∷ xs) → P x
all_head P x xs all = all 0 x (omega arith)

-- and of each of the others
pub all_tail : {A : Type 0} (P : A → Type 0) (x : A) (xs : List A) → All P (x ∷ xs) → All P xs
all_tail P x xs all k d within = all (suc k) d (omega (arith, within))

-- and what holds of these holds of each
pub all_cons : {A : Type 0} (P : A → Type 0) (x : A) (xs : List A) → P x → All P xs → All P (x ∷ xs)
all_cons P x xs here others zero d within = here
all_cons P x xs here others (suc k) d within = others k d (omega (arith, within))

-- what holds of each, said in other words
pub all_as : {A : Type 0} (P Q : A → Type 0) (xs : List A) → ((x : A) → P x → Q x) → All P xs → All Q xs
all_as {A} P Q xs so all k d within = so (get_or xs k d) (all k d within)

-- this many things, each of which fits
abbrev pub AreCounted : {A : Type 0} → (A → Type 0) → ℕ → List A → Type 0
AreCounted fits count xs = (length xs ≡ count) × All fits xs

-- no things are read again
none_again : {F A : Type 0} (fits : A → Type 0) (text : A → List ℕ) (read : Reader F A) (xs : List A) (rest : List ℕ) → AreCounted fits 0 xs →
    counted_at read zero (flat_map text xs ++ rest) ≡ Ok (xs, rest)
none_again fits text read [] rest h = refl
none_again fits text read (x ∷ xs) rest h = absurd (omega (arith, h.0))

-- no things that were read have no bytes
none_takes : {F A : Type 0} (fits : A → Type 0) (text : A → List ℕ) (read : Reader F A) (bytes : List ℕ) (xs : List A) (rest : List ℕ) → IsBytes bytes →
    counted_at read zero bytes ≡ Ok (xs, rest) → Takes bytes (flat_map text xs) rest × AreCounted fits 0 xs
none_takes {A = A} fits text read bytes xs rest bytes_fit e =
    subst (λ (p : List A × List ℕ). Takes bytes (flat_map text p.0) p.1 × AreCounted fits 0 p.0) (ok_is ([], bytes) (xs, rest) e)
    (record { parts = refl; rest_fits = bytes_fit }, (refl, λ k d within. absurd (omega (arith, within))))

-- one thing and then others, as they are read
abbrev OneAndOthers : {F A : Type 0} → (A → Type 0) → (A → List ℕ) → Reader F A → ℕ → Type 0
OneAndOthers {A = A} fits text read count =
    IsReader (λ (p : A × List A). fits p.0 × AreCounted fits count p.1) (λ p. text p.0 ++ flat_map text p.1) (read ▸ counted_at read count)

-- one thing more is read again
more_again : {F A : Type 0} (fits : A → Type 0) (text : A → List ℕ) (read : Reader F A) (count : ℕ) → OneAndOthers fits text read count →
    (xs : List A) (rest : List ℕ) → AreCounted fits (suc count) xs → counted_at read (suc count) (flat_map text xs ++ rest) ≡ Ok (xs, rest)
more_again fits text read count pair [] rest h = absurd (omega (arith, h.0))
more_again fits text read count pair (x ∷ xs) rest h =
    let others : AreCounted fits count xs = (omega (arith, h.0), all_tail fits x xs h.1) in
    ap (λ r. r >>= λ p. Ok (p.0.0 ∷ p.0.1, p.1)) (pair.again (x, xs) rest (all_head fits x xs h.1, others))

-- one thing more that was read was so written
more_takes : {F A : Type 0} (fits : A → Type 0) (text : A → List ℕ) (read : Reader F A) (count : ℕ) → OneAndOthers fits text read count →
    (bytes : List ℕ) (xs : List A) (rest : List ℕ) → IsBytes bytes → counted_at read (suc count) bytes ≡ Ok (xs, rest) →
    Takes bytes (flat_map text xs) rest × AreCounted fits (suc count) xs
more_takes {A = A} fits text read count pair bytes xs rest bytes_fit e =
    let both = bind_ok ((read ▸ counted_at read count) bytes) (λ p. Ok (p.0.0 ∷ p.0.1, p.1)) (xs, rest) e in
    let p = both.0 in
    let t = pair.takes bytes p.0 p.1 bytes_fit both.1 in
    let made : List A × List ℕ = (p.0.0 ∷ p.0.1, p.1) in
    subst (λ (q : List A × List ℕ). Takes bytes (flat_map text q.0) q.1 × AreCounted fits (suc count) q.0) (ok_is made (xs, rest) both.2)
    (t.0, (omega (arith, t.1.1.0), all_cons fits p.0.0 p.0.1 t.1.0 t.1.1.1))

-- lists of a known length
pub counted_reader : {F A : Type 0} {fits : A → Type 0} {text : A → List ℕ} {read : Reader F A} → IsReader fits text read → (count : ℕ) →
    IsReader (AreCounted fits count) (flat_map text) (counted_at read count)
counted_reader {fits = fits} {text = text} {read = read} reader zero = record { again = none_again fits text read; takes = none_takes fits text read }
counted_reader {fits = fits} {text = text} {read = read} reader (suc count) =
    let pair = then_reader reader (λ x h. counted_reader reader count) in
    record { again = more_again fits text read count pair; takes = more_takes fits text read count pair }
