-- Readers that are chosen by a test, and readers of values with no bytes.
use Rattle.std.proofs.Common.{◌≡◌, ℕ, Bool, true, false, cond, List, [], ◌++◌, Result, Ok, refl, sym, ap, subst}
use Rattle.byte_readers.specs.Readers.{Takes}
use Rattle.byte_readers.proofs.Readers.{ok_is}
use Rattle.farm_history.proofs.Readers.{IsPlacing}

-- one reader or another
pub choose_reader : {A : Type 0} {fits : A → Type 0} {text : A → List ℕ} (first second : List ℕ → Result (A × List ℕ) ℕ) (b : Bool) →
    ((b ≡ true) → IsPlacing fits text first) → ((b ≡ false) → IsPlacing fits text second) → IsPlacing fits text (λ bytes. cond b (first bytes) (second bytes))
choose_reader first second true if_true if_false = if_true refl
choose_reader first second false if_true if_false = if_false refl

-- a reader of the values of a number is one of the same number's
pub of_number : {A : Type 0} {text : A → List ℕ} (fits : ℕ → A → Type 0) (number same : ℕ) (read : List ℕ → Result (A × List ℕ) ℕ) → number ≡ same →
    IsPlacing (fits same) text read → IsPlacing (fits number) text read
of_number {text = text} fits number same read e reader = subst (λ k. IsPlacing (fits k) text read) (sym e) reader

-- the reader of the one value that fits, which has no bytes
pub only_reader : {A : Type 0} {fits : A → Type 0} {text : A → List ℕ} (value : A) → fits value → text value ≡ [] → ((x : A) → fits x → value ≡ x) →
    IsPlacing fits text (λ bytes. Ok (value, bytes))
only_reader {A = A} {fits = fits} {text = text} value good none one = record {
  reads = record {
    again = λ x rest h.
        subst (λ y. ◌≡◌ {A = Result (A × List ℕ) ℕ} (Ok (value, text y ++ rest)) (Ok (y, rest))) (one x h) (ap (λ t. Ok (value, t ++ rest)) none);
    takes = λ bytes x rest bytes_fit e.
        subst (λ (p : A × List ℕ). Takes bytes (text p.0) p.1 × fits p.0) (ok_is (value, bytes) (x, rest) e)
        (record { parts = ap (λ t. t ++ bytes) (sym none); rest_fits = bytes_fit }, good);
  };
  refuses = λ bytes left bytes_fit e. absurd (cc e);
  some = value;
  some_fits = good;
}
