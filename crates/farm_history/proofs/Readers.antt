-- Readers that say where bytes are bad: where such a reader fails, no continuation of the bytes before helps.
use Rattle.std.proofs.Common.{◌≡◌, ℕ, List, ◌∷◌, ◌++◌, length, Result, Ok, Err, ◌⊎◌, inl, inr, refl, sym, ap, subst, ◌∙◌, append_assoc}
use Rattle.farm_base.specs.Steps.{◌>>=◌}
use Rattle.byte_readers.specs.ByteReaders.{made_at, then_at}
use Rattle.byte_readers.specs.Readers.{IsBytes, IsReader}
use Rattle.byte_readers.proofs.Readers as readers
use Rattle.byte_readers.proofs.Readers.{IsMade, ok_is, text_of}
use Rattle.farm_history.specs.Decoding.{Reader}

-- From some bytes on there is no value's text: the front before them can be continued to one, has none at its start, and no
-- continuation of it and one byte more has one.
pub record IsBadFrom {A : Type 0} (fits : A → Type 0) (text : A → List ℕ) (bytes : List ℕ) (left : ℕ) : Type 0 where
  pub front : List ℕ
  pub back : List ℕ
  pub parts : bytes ≡ front ++ back
  pub left_is : length back ≡ left
  pub value : A
  pub value_fits : fits value
  pub more : List ℕ
  pub good : text value ≡ front ++ more
  pub unfinished : (x : A) (rest : List ℕ) → fits x → front ≡ text x ++ rest → ⊥
  pub bad : (x : A) (byte : ℕ) (after rest further : List ℕ) → fits x → back ≡ byte ∷ after → front ++ byte ∷ further ≡ text x ++ rest → ⊥

-- a reader reads the texts of the values that fit, and where it fails it gives how many bytes are left from the first bad one on
pub record IsPlacing {A : Type 0} (fits : A → Type 0) (text : A → List ℕ) (read : Reader A) : Type 0 where
  pub reads : IsReader fits text read
  pub refuses : (bytes : List ℕ) (left : ℕ) → IsBytes bytes → read bytes ≡ Err left → IsBadFrom fits text bytes left
  pub some : A
  pub some_fits : fits some

-- a read that stops with this many bytes left
abbrev refused_at : (A : Type 0) → ℕ → Result A ℕ
refused_at A left = Err left

-- two places are one
pub err_is : (A : Type 0) (x y : ℕ) → refused_at A x ≡ refused_at A y → x ≡ y
err_is A x y e = cc

-- which of two steps failed
pub bind_err : {A B : Type 0} (r : Result A ℕ) (f : A → Result B ℕ) (left : ℕ) → (r >>= f) ≡ Err left → (r ≡ Err left) ⊎ ((x : A) × (r ≡ Ok x) × (f x ≡ Err left))
bind_err (Ok x) f left e = inr (x, refl, e)
bind_err {A} {B} (Err d) f left e = inl (ap (refused_at A) (err_is B d left e))

-- a step that makes something of a value does not fail
pub bind_made : {A B : Type 0} (r : Result A ℕ) (f : A → B) (left : ℕ) → (r >>= λ x. Ok (f x)) ≡ refused_at B left → r ≡ Err left
bind_made (Ok x) f left e = absurd cc
bind_made {A} {B} (Err d) f left e = ap (refused_at A) (err_is B d left e)

-- texts with values at their start that are the same have the same value there
pub one_start : {A : Type 0} {fits : A → Type 0} {text : A → List ℕ} {read : Reader A} → IsPlacing fits text read →
    (x y : A) (s t : List ℕ) → fits x → fits y → text x ++ s ≡ text y ++ t → (x ≡ y) × (s ≡ t)
one_start {read = read} reader x y s t fx fy e =
    let both = ok_is (x, s) (y, t) (sym (reader.reads.again x s fx) ∙ ap read e ∙ reader.reads.again y t fy) in
    (ap (λ p. p.0) both, ap (λ p. p.1) both)

-- a reader of what is made of values
pub made_reader : {A C : Type 0} {fits : A → Type 0} {text : A → List ℕ} {read : Reader A} {fits_made : C → Type 0} {text_made : C → List ℕ} {make : A → C} →
    IsPlacing fits text read → IsMade fits text fits_made text_made make → IsPlacing fits_made text_made (made_at make read)
made_reader {text = text} {read = read} {fits_made = fits_made} {text_made = text_made} {make = make} reader made = record {
  reads = readers.made_reader reader.reads made;
  refuses = λ bytes left bytes_fit e.
      let w = reader.refuses bytes left bytes_fit (bind_made (read bytes) (λ x. (make x.0, x.1)) left e) in
      record {
        front = w.front;
        back = w.back;
        parts = w.parts;
        left_is = w.left_is;
        value = make w.value;
        value_fits = made.to w.value w.value_fits;
        more = w.more;
        good = made.same w.value w.value_fits ∙ w.good;
        unfinished = λ c rest h whole. w.unfinished (made.of c) rest (made.of_fits c h) (whole ∙ ap (λ t. t ++ rest) (text_of made c h));
        bad = λ c byte after rest further h there whole. w.bad (made.of c) byte after rest further (made.of_fits c h) there (whole ∙ ap (λ t. t ++ rest) (text_of made c h));
      };
  some = make reader.some;
  some_fits = made.to reader.some reader.some_fits;
}

-- where the first of two readers fails both do
bad_first : {A B : Type 0} {fits : A → Type 0} {text : A → List ℕ} {fits_second : A → B → Type 0} {text_second : A → B → List ℕ} {read_second : A → Reader B} {bytes : List ℕ} {left : ℕ} →
    ((a : A) → fits a → IsPlacing (fits_second a) (text_second a) (read_second a)) → IsBadFrom fits text bytes left →
    IsBadFrom (λ (p : A × B). fits p.0 × fits_second p.0 p.1) (λ p. text p.0 ++ text_second p.0 p.1) bytes left
bad_first {text = text} {text_second = text_second} second w =
    let other = second w.value w.value_fits in
    record {
      front = w.front;
      back = w.back;
      parts = w.parts;
      left_is = w.left_is;
      value = (w.value, other.some);
      value_fits = (w.value_fits, other.some_fits);
      more = w.more ++ text_second w.value other.some;
      good = ap (λ t. t ++ text_second w.value other.some) w.good ∙ append_assoc w.front w.more (text_second w.value other.some);
      unfinished = λ p rest h whole. w.unfinished p.0 (text_second p.0 p.1 ++ rest) h.0 (whole ∙ append_assoc (text p.0) (text_second p.0 p.1) rest);
      bad = λ p byte after rest further h there whole.
          w.bad p.0 byte after (text_second p.0 p.1 ++ rest) further h.0 there (whole ∙ append_assoc (text p.0) (text_second p.0 p.1) rest);
    }

-- where the second fails after what the first read, both do
bad_second : {A B : Type 0} {fits : A → Type 0} {text : A → List ℕ} {read : Reader A} (fits_second : A → B → Type 0) (text_second : A → B → List ℕ) →
    IsPlacing fits text read → (a : A) → fits a → (bytes middle : List ℕ) (left : ℕ) → bytes ≡ text a ++ middle → IsBadFrom (fits_second a) (text_second a) middle left →
    IsBadFrom (λ (p : A × B). fits p.0 × fits_second p.0 p.1) (λ p. text p.0 ++ text_second p.0 p.1) bytes left
bad_second {A = A} {B = B} {text = text} fits_second text_second reader a fa bytes middle left parts w = record {
  front = text a ++ w.front;
  back = w.back;
  parts = parts ∙ ap (λ t. text a ++ t) w.parts ∙ sym (append_assoc (text a) w.front w.back);
  left_is = w.left_is;
  value = (a, w.value);
  value_fits = (fa, w.value_fits);
  more = w.more;
  good = ap (λ t. text a ++ t) w.good ∙ sym (append_assoc (text a) w.front w.more);
  unfinished = λ p rest h whole.
      let same = one_start reader a p.0 w.front (text_second p.0 p.1 ++ rest) fa h.0 (whole ∙ append_assoc (text p.0) (text_second p.0 p.1) rest) in
      w.unfinished p.1 rest (subst (λ x. fits_second x p.1) (sym same.0) h.1) (same.1 ∙ ap (λ x. text_second x p.1 ++ rest) (sym same.0));
  bad = λ p byte after rest further h there whole.
      let same = one_start reader a p.0 (w.front ++ byte ∷ further) (text_second p.0 p.1 ++ rest) fa h.0
      (sym (append_assoc (text a) w.front (byte ∷ further)) ∙ whole ∙ append_assoc (text p.0) (text_second p.0 p.1) rest) in
      w.bad p.1 byte after rest further (subst (λ x. fits_second x p.1) (sym same.0) h.1) there (same.1 ∙ ap (λ x. text_second x p.1 ++ rest) (sym same.0));
}

-- one reader and another are a reader of both values
pub then_reader : {A B : Type 0} {fits : A → Type 0} {text : A → List ℕ} {read : Reader A} {fits_second : A → B → Type 0} {text_second : A → B → List ℕ} {read_second : A → Reader B} →
    IsPlacing fits text read → ((a : A) → fits a → IsPlacing (fits_second a) (text_second a) (read_second a)) →
    IsPlacing (λ (p : A × B). fits p.0 × fits_second p.0 p.1) (λ p. text p.0 ++ text_second p.0 p.1) (then_at read read_second)
then_reader {A = A} {B = B} {fits = fits} {text = text} {read = read} {fits_second = fits_second} {text_second = text_second} {read_second = read_second} reader second = record {
  reads = readers.then_reader reader.reads (λ a h. (second a h).reads);
  refuses = λ bytes left bytes_fit e.
      elim (bind_err (read bytes) (λ a. read_second a.0 a.1 >>= λ b. Ok ((a.0, b.0), b.1)) left e) [
        | inl first ↦ bad_first second (reader.refuses bytes left bytes_fit first)
        | inr then ↦
            let a = then.0 in
            let t = reader.reads.takes bytes a.0 a.1 bytes_fit then.1 in
            let w = (second a.0 t.1).refuses a.1 left t.0.rest_fits (bind_made (read_second a.0 a.1) (λ b. ((a.0, b.0), b.1)) left then.2) in
            bad_second fits_second text_second reader a.0 t.1 bytes a.1 left t.0.parts w
      ];
  some = (reader.some, (second reader.some reader.some_fits).some);
  some_fits = (reader.some_fits, (second reader.some reader.some_fits).some_fits);
}

-- readers that give the same are the same
pub same_reader : {A : Type 0} {fits : A → Type 0} {text : A → List ℕ} {read other : Reader A} →
    IsPlacing fits text read → ((bytes : List ℕ) → other bytes ≡ read bytes) → IsPlacing fits text other
same_reader {text = text} reader same = record {
  reads = record {
    again = λ x rest h. same (text x ++ rest) ∙ reader.reads.again x rest h;
    takes = λ bytes x rest bytes_fit e. reader.reads.takes bytes x rest bytes_fit (sym (same bytes) ∙ e);
  };
  refuses = λ bytes left bytes_fit e. reader.refuses bytes left bytes_fit (sym (same bytes) ∙ e);
  some = reader.some;
  some_fits = reader.some_fits;
}
