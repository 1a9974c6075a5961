-- What a reader has to do with the bytes of values: what was written is read, and what is read was so written.
use Rattle.std.proofs.Common.{◌≡◌, ℕ, ◌+◌, Bool, true, false, cond, List, ◌++◌, take, drop, Result, Ok, Err, inl, inr, refl, sym, ap, subst, ◌∙◌, append_assoc, arith}
use Rattle.std.proofs.lemmas.Bool.{cases_lt}
use Rattle.std.proofs.lemmas.List.{get_or-drop, get_or-take, get_or_past, length-take}
use Rattle.farm_base.specs.Steps.{◌>>=◌}
use Rattle.byte_readers.specs.ByteReaders.{Reader, after_at, made_at, tested_at, then_at}
use Rattle.byte_readers.specs.Readers.{IsBytes, IsReader, Takes}

-- what is left after some bytes is bytes
pub IsBytes-drop : (n : ℕ) (bytes : List ℕ) → IsBytes bytes → IsBytes (drop n bytes)
IsBytes-drop n bytes h i = rw get_or-drop (h (n + i))

-- a prefix of bytes is bytes
pub IsBytes-take : (n : ℕ) (bytes : List ℕ) → IsBytes bytes → IsBytes (take n bytes)
IsBytes-take n bytes h i =
    elim (cases_lt i n) [
      | inl lt ↦ rw (get_or-take n bytes i 0 lt) (h i)
      | inr le ↦ rw (get_or_past (take n bytes) i 0 (omega (arith, length-take n bytes))) (omega arith)
    ]

-- one text and then another are taken as one
Takes-then : (bytes first middle second rest : List ℕ) → Takes bytes first middle → Takes middle second rest → Takes bytes (first ++ second) rest
Takes-then bytes first middle second rest t u = record {
  parts = t.parts ∙ ap (λ text. first ++ text) u.parts ∙ sym (append_assoc first second rest);
  rest_fits = u.rest_fits;
}

-- a value that was read
abbrev read_as : {F A : Type 0} → A → Result A F
read_as x = Ok x

-- two values that are read are one
pub ok_is : {F A : Type 0} (x y : A) → read_as {F = F} x ≡ read_as y → x ≡ y
ok_is x y e = cc

-- the value of a step that did not fail
pub bind_ok : {F A B : Type 0} (r : Result A F) (f : A → Result B F) (y : B) → (r >>= f) ≡ Ok y → (x : A) × (r ≡ Ok x) × (f x ≡ Ok y)
bind_ok (Ok x) f y e = (x, refl, e)
bind_ok (Err d) f y e = absurd cc

-- a test that was passed
pub passed : {F A : Type 0} (test : Bool) (x y : A) (fault : F) → cond test (Ok x) (Err fault) ≡ read_as y → (test ≡ true) × (x ≡ y)
passed true x y fault e = (refl, cc)
passed false x y fault e = absurd cc

-- what is made of values: each value made fits, and each that fits is made
pub record IsMade {A C : Type 0} (fits : A → Type 0) (text : A → List ℕ) (fits_made : C → Type 0) (text_made : C → List ℕ) (make : A → C) : Type 0 where
  pub to : (a : A) → fits a → fits_made (make a)
  pub same : (a : A) → fits a → text_made (make a) ≡ text a
  pub of : C → A
  pub back : (c : C) → fits_made c → make (of c) ≡ c
  pub of_fits : (c : C) → fits_made c → fits (of c)

-- the text of a value that was made
pub text_of : {A C : Type 0} {fits : A → Type 0} {text : A → List ℕ} {fits_made : C → Type 0} {text_made : C → List ℕ} {make : A → C} →
    (made : IsMade fits text fits_made text_made make) (c : C) → fits_made c → text_made c ≡ text (made.of c)
text_of {text_made = text_made} made c h = ap text_made (sym (made.back c h)) ∙ made.same (made.of c) (made.of_fits c h)

-- a reader of what is made of values
pub made_reader : {F A C : Type 0} {fits : A → Type 0} {text : A → List ℕ} {read : Reader F A} {fits_made : C → Type 0} {text_made : C → List ℕ} {make : A → C} →
    IsReader fits text read → IsMade fits text fits_made text_made make → IsReader fits_made text_made (made_at make read)
made_reader {text = text} {read = read} {fits_made = fits_made} {text_made = text_made} {make = make} reader made = record {
  again = λ c rest h.
      let a = made.of c in
      let there : read (text_made c ++ rest) ≡ Ok (a, rest) = ap (λ t. read (t ++ rest)) (text_of made c h) ∙ reader.again a rest (made.of_fits c h) in
      ap (λ r. r >>= λ x. Ok (make x.0, x.1)) there ∙ ap (λ v. Ok (v, rest)) (made.back c h);
  takes = λ bytes c rest bytes_fit e.
      let b = bind_ok (read bytes) (λ x. Ok (make x.0, x.1)) (c, rest) e in
      let t = reader.takes bytes b.0.0 b.0.1 bytes_fit b.1 in
      let p = ok_is (make b.0.0, b.0.1) (c, rest) b.2 in
      let text_is = made.same b.0.0 t.1 in
      subst (λ (q : _ × List ℕ). Takes bytes (text_made q.0) q.1 × fits_made q.0) p
      (record { parts = t.0.parts ∙ ap (λ w. w ++ b.0.1) (sym text_is); rest_fits = t.0.rest_fits }, made.to b.0.0 t.1);
}

-- what two readers took
then_takes : {F A B : Type 0} {fits : A → Type 0} {text : A → List ℕ} {read : Reader F A} {fits_second : A → B → Type 0} {text_second : A → B → List ℕ} {read_second : A → Reader F B} →
    IsReader fits text read → ((a : A) → fits a → IsReader (fits_second a) (text_second a) (read_second a)) →
    (bytes : List ℕ) (p : A × B) (rest : List ℕ) → IsBytes bytes → then_at read read_second bytes ≡ Ok (p, rest) →
    Takes bytes (text p.0 ++ text_second p.0 p.1) rest × (fits p.0 × fits_second p.0 p.1)
then_takes {F = F} {A = A} {B = B} {fits = fits} {text = text} {read = read} {fits_second = fits_second} {text_second = text_second} {read_second = read_second} reader second bytes p rest bytes_fit e =
    let one = bind_ok (read bytes) (λ a. read_second a.0 a.1 >>= λ b. Ok ((a.0, b.0), b.1)) (p, rest) e in
    let a = one.0 in
    let two = bind_ok (read_second a.0 a.1) (λ b. Ok ((a.0, b.0), b.1)) (p, rest) one.2 in
    let b = two.0 in
    let t = reader.takes bytes a.0 a.1 bytes_fit one.1 in
    let u = (second a.0 t.1).takes a.1 b.0 b.1 t.0.rest_fits two.1 in
    let both = Takes-then bytes (text a.0) a.1 (text_second a.0 b.0) b.1 t.0 u.0 in
    let made : (A × B) × List ℕ = ((a.0, b.0), b.1) in
    subst (λ (q : (A × B) × List ℕ). Takes bytes (text q.0.0 ++ text_second q.0.0 q.0.1) q.1 × (fits q.0.0 × fits_second q.0.0 q.0.1))
    (ok_is made (p, rest) two.2) (both, (t.1, u.1))

-- one reader and another are a reader of both values
pub then_reader : {F A B : Type 0} {fits : A → Type 0} {text : A → List ℕ} {read : Reader F A} {fits_second : A → B → Type 0} {text_second : A → B → List ℕ} {read_second : A → Reader F B} →
    IsReader fits text read → ((a : A) → fits a → IsReader (fits_second a) (text_second a) (read_second a)) →
    IsReader (λ (p : A × B). fits p.0 × fits_second p.0 p.1) (λ p. text p.0 ++ text_second p.0 p.1) (then_at read read_second)
then_reader {A = A} {B = B} {fits = fits} {text = text} {read = read} {fits_second = fits_second} {text_second = text_second} {read_second = read_second} reader second = record {
  again = λ p rest h.
      let first : read ((text p.0 ++ text_second p.0 p.1) ++ rest) ≡ Ok (p.0, text_second p.0 p.1 ++ rest) =
      ap read (append_assoc (text p.0) (text_second p.0 p.1) rest) ∙ reader.again p.0 (text_second p.0 p.1 ++ rest) h.0 in
      rw (first, (second p.0 h.0).again p.1 rest h.1) refl;
  takes = λ bytes p rest bytes_fit e. then_takes reader second bytes p rest bytes_fit e;
}

-- a value that passes a test
pub tested_reader : {F A : Type 0} {fits : A → Type 0} {text : A → List ℕ} {read : Reader F A} (fault : List ℕ → F) (test : A → Bool) →
    IsReader fits text read → IsReader (λ x. fits x × (test x ≡ true)) text (tested_at test fault read)
tested_reader {A = A} {fits = fits} {text = text} {read = read} fault test reader = record {
  again = λ x rest h. rw (reader.again x rest h.0, h.1) refl;
  takes = λ bytes x rest bytes_fit e.
      let b = bind_ok (read bytes) (λ a. cond (test a.0) (Ok a) (Err (fault bytes))) (x, rest) e in
      let g = passed (test b.0.0) b.0 (x, rest) (fault bytes) b.2 in
      let t = reader.takes bytes b.0.0 b.0.1 bytes_fit b.1 in
      subst (λ (q : A × List ℕ). Takes bytes (text q.0) q.1 × (fits q.0 × (test q.0 ≡ true))) g.1 (t.0, (t.1, g.0));
}

-- what follows a key and is read by it: each value that fits has a key that fits, and its text begins with the key's
pub record IsKeyed {A B : Type 0} (fits : A → Type 0) (text : A → List ℕ) (fits_all : B → Type 0) (text_all : B → List ℕ) (key : B → A) (text_after : B → List ℕ) : Type 0 where
  pub fits_key : (b : B) → fits_all b → fits (key b)
  pub parts : (b : B) → fits_all b → text_all b ≡ text (key b) ++ text_after b

-- a reader of keys and of what follows each
pub after_reader : {F A B : Type 0} {fits : A → Type 0} {text : A → List ℕ} {read : Reader F A} {fits_all : B → Type 0} {text_all : B → List ℕ} {key : B → A} {text_after : B → List ℕ} {second : A → Reader F B} →
    IsReader fits text read → IsKeyed fits text fits_all text_all key text_after →
    ((a : A) → fits a → IsReader (λ b. (key b ≡ a) × fits_all b) text_after (second a)) → IsReader fits_all text_all (after_at read second)
after_reader {A = A} {B = B} {text = text} {read = read} {fits_all = fits_all} {text_all = text_all} {key = key} {text_after = text_after} {second = second} reader keyed seconds = record {
  again = λ b rest h.
      let whole : read (text_all b ++ rest) ≡ Ok (key b, text_after b ++ rest) =
      ap (λ t. read (t ++ rest)) (keyed.parts b h) ∙ ap read (append_assoc (text (key b)) (text_after b) rest) ∙ reader.again (key b) (text_after b ++ rest) (keyed.fits_key b h) in
      rw (whole, (seconds (key b) (keyed.fits_key b h)).again b rest (refl, h)) refl;
  takes = λ bytes b rest bytes_fit e.
      let one = bind_ok (read bytes) (λ a. second a.0 a.1) (b, rest) e in
      let a = one.0 in
      let t = reader.takes bytes a.0 a.1 bytes_fit one.1 in
      let u = (seconds a.0 t.1).takes a.1 b rest t.0.rest_fits one.2 in
      let both = Takes-then bytes (text a.0) a.1 (text_after b) rest t.0 u.0 in
      let text_is : text a.0 ++ text_after b ≡ text_all b = ap (λ k. text k ++ text_after b) (sym u.1.0) ∙ sym (keyed.parts b u.1.1) in
      (subst (λ w. Takes bytes w rest) text_is both, u.1.1);
}

-- a reader of the same values, said in other words
pub reader_as : {F A : Type 0} {fits fits_as : A → Type 0} {text : A → List ℕ} {read : Reader F A} → IsReader fits text read →
    ((x : A) → fits x → fits_as x) → ((x : A) → fits_as x → fits x) → IsReader fits_as text read
reader_as reader to from = record {
  again = λ x rest h. reader.again x rest (from x h);
  takes = λ bytes x rest bytes_fit e. let t = reader.takes bytes x rest bytes_fit e in (t.0, to x t.1);
}
