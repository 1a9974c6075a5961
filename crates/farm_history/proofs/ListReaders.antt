-- The readers of short lists and of the kinds of dips.
use Rattle.std.proofs.Common.{◌≡◌, ℕ, zero, suc, ◌-◌, ◌≤◌, true, leb, List, [], ◌∷◌, ◌++◌, length, take, replicate, Ok, refl, sym, ap, subst, length-append, arith, ℤ, pos, w64}
use mir.Val.{SFits}
use Rattle.std.specs.List.{AllByRecursion, flat_map}
use Rattle.std.proofs.lemmas.Bool.{leb-true, le-leb}
use Rattle.std.proofs.lemmas.List.{length-replicate, length-take-le, take_at}
use Rattle.byte_readers.specs.Readers.{Takes}
use Rattle.byte_readers.proofs.NumberReaders.{flag_made}
use Rattle.byte_readers.proofs.Readers.{ok_is}
use Rattle.farm_history.specs.declared.few.Few.{Few}
use Rattle.farm_history.specs.Commands.{IsShortList, numbers_of}
use Rattle.farm_history.specs.Decoding.{kind_at, list_at, list_of, numbers_at}
use Rattle.farm_history.specs.Encoding.{kind_byte, list_bytes, signed_bytes}
use Rattle.farm_history.proofs.NumberReaders.{byte_reader, signed_reader}
use Rattle.farm_history.proofs.Readers.{IsPlacing, made_reader, then_reader}

-- each number fits 64 bits
abbrev pub AllFit : List ℤ → Type 0
AllFit numbers = AllByRecursion (SFits w64) numbers

-- this many numbers, each of which fits
abbrev IsCounted : ℕ → List ℤ → Type 0
IsCounted count numbers = (length numbers ≡ count) × AllFit numbers

-- no numbers are read again
none_again : (numbers : List ℤ) (rest : List ℕ) → IsCounted 0 numbers → numbers_at zero (flat_map signed_bytes numbers ++ rest) ≡ Ok (numbers, rest)
none_again [] rest h = refl
none_again (number ∷ numbers) rest h = absurd (omega (arith, h.0))

-- reading no numbers
none_reader : IsPlacing (IsCounted 0) (flat_map signed_bytes) (numbers_at zero)
none_reader = record {
  reads = record {
    again = none_again;
    takes = λ bytes numbers rest fits e.
        subst (λ (p : List ℤ × List ℕ). Takes bytes (flat_map signed_bytes p.0) p.1 × IsCounted 0 p.0) (ok_is ([], bytes) (numbers, rest) e)
        (record { parts = refl; rest_fits = fits }, (refl, tt));
  };
  refuses = λ bytes left fits e. absurd (cc e);
  some = [];
  some_fits = (refl, tt);
}

-- a number and others from the list of all
first_and_others : List ℤ → ℤ × List ℤ
first_and_others [] = (pos 0, [])
first_and_others (number ∷ numbers) = (number, numbers)

-- a list of numbers is its first one and the others
one_and_others : (count : ℕ) (numbers : List ℤ) → IsCounted (suc count) numbers → (first_and_others numbers).0 ∷ (first_and_others numbers).1 ≡ numbers
unfolding first_and_others
one_and_others count [] h = absurd (omega (arith, h.0))
one_and_others count (number ∷ numbers) h = refl

-- the first number and the others are of their types
others_fit : (count : ℕ) (numbers : List ℤ) → IsCounted (suc count) numbers → SFits w64 (first_and_others numbers).0 × IsCounted count (first_and_others numbers).1
unfolding first_and_others
others_fit count [] h = absurd (omega (arith, h.0))
others_fit count (number ∷ numbers) h = (h.1.0, (omega (arith, h.0), h.1.1))

-- reading this many numbers
numbers_reader : (count : ℕ) → IsPlacing (IsCounted count) (flat_map signed_bytes) (numbers_at count)
numbers_reader zero = none_reader
numbers_reader (suc count) =
    made_reader (then_reader signed_reader (λ first fits. numbers_reader count)) (record {
      to = λ p h. (omega (arith, h.1.0), (h.0, h.1.1));
      same = λ p h. refl;
      of = first_and_others;
      back = one_and_others count;
      of_fits = others_fit count;
    })

-- a list in a command is short and has eight numbers
abbrev pub IsGoodList : Few → Type 0
IsGoodList few = IsShortList few × (length few.values ≡ 8) × AllFit few.values

-- zeros fit
zeros_fit : (k : ℕ) → AllFit (replicate k (pos 0))
zeros_fit zero = tt
zeros_fit (suc k) = (record { sfits = omega arith }, zeros_fit k)

-- numbers and zeros after them fit
with_zeros_fit : (numbers : List ℤ) (k : ℕ) → AllFit numbers → AllFit (numbers ++ replicate k (pos 0))
with_zeros_fit [] k fits = zeros_fit k
with_zeros_fit (number ∷ numbers) k fits = (fits.0, with_zeros_fit numbers k fits.1)

-- a prefix of numbers that fit does
front_fits : (k : ℕ) (numbers : List ℤ) → AllFit numbers → AllFit (take k numbers)
front_fits zero numbers fits = tt
front_fits (suc k) [] fits = tt
front_fits (suc k) (number ∷ numbers) fits = (fits.0, front_fits k numbers fits.1)

-- the list that is made of a count and numbers is good
list_is_good : (count : ℕ) (numbers : List ℤ) → count ≤ 8 → IsCounted count numbers → IsGoodList (list_of (count, numbers))
list_is_good count numbers few h =
    let zeros : List ℤ = replicate (8 - count) (pos 0) in
    let front : take count (numbers ++ zeros) ≡ numbers = take_at numbers zeros count h.0 in
    let long = length-append numbers zeros in
    let rest : length zeros ≡ 8 - count = length-replicate (8 - count) (pos 0) in
    (record { count = few; zeros = ap (λ t. t ++ zeros) (sym front) }, omega (arith, h.0), with_zeros_fit numbers (8 - count) h.1)

-- its bytes are those of the count and of the numbers
bytes_of_made : (count : ℕ) (numbers : List ℤ) → length numbers ≡ count → list_bytes (list_of (count, numbers)) ≡ (count ∷ []) ++ flat_map signed_bytes numbers
bytes_of_made count numbers len = ap (λ t. count ∷ flat_map signed_bytes t) (take_at numbers (replicate (8 - count) (pos 0)) count len)

-- short lists
pub list_reader : IsPlacing IsGoodList list_bytes list_at
unfolding list_at
list_reader =
    made_reader (then_reader (byte_reader (λ count. leb count 8) 0 refl) (λ count fits. numbers_reader count)) (record {
      to = λ p h. list_is_good p.0 p.1 (leb-true p.0 8 h.0) h.1;
      same = λ p h. bytes_of_made p.0 p.1 h.1.0;
      of = λ few. (few.count, numbers_of few);
      back = λ few h. ap (λ v. record { count = few.count; values = v }) (sym h.0.zeros);
      of_fits = λ few h. (le-leb few.count 8 h.0.count, (length-take-le few.count few.values (omega (arith, h.1, h.0.count)), front_fits few.count few.values h.2));
    })

-- kinds of dips
pub kind_reader : IsPlacing (λ outage. Unit {0}) (λ outage. kind_byte outage ∷ []) kind_at
unfolding kind_at
kind_reader =
    made_reader (byte_reader (λ kind. leb kind 1) 0 refl)
    (flag_made (λ kind. leb kind 1 ≡ true) (λ kind h. leb-true kind 1 h) (λ kind h. le-leb kind 1 h) kind_byte refl refl)
