-- The reader of what is named for a second tank.
use Rattle.std.proofs.Common.{◌≡◌, ℕ, zero, suc, ◌==◌, true, false, leb, List, [], ◌∷◌, Option, Some, None, Ok, refl, ap, ◌∙◌, arith}
use Rattle.std.proofs.lemmas.Bool.{eqb-true, leb-true}
use Rattle.farm_history.specs.declared.plan.Gauged.{Gauged}
use Rattle.farm_history.specs.Decoding.{gauged_at, second_after, second_at}
use Rattle.farm_history.specs.Encoding.{IsTypedGauged, IsTypedSecond, gauged_bytes, second_bytes}
use Rattle.byte_readers.specs.ByteReaders.{made_at}
use Rattle.farm_history.proofs.Choices.{choose_reader, of_number, only_reader}
use Rattle.farm_history.proofs.NumberReaders.{byte_reader}
use Rattle.farm_history.proofs.PlanReaders.{gauged_reader, no_gauged}
use Rattle.farm_history.proofs.Readers.{IsPlacing, made_reader, then_reader}

-- the byte that says whether anything is named for a second tank
unfoldable flag_of : Option Gauged → ℕ
flag_of None = 0
flag_of (Some gauged) = 1

-- the bytes after it
unfoldable after_flag : Option Gauged → List ℕ
after_flag None = []
after_flag (Some gauged) = gauged_bytes gauged

-- the bytes of what is named are that byte and those after it
flag_and_after : (second : Option Gauged) → second_bytes second ≡ flag_of second ∷ after_flag second
unfolding flag_of after_flag
flag_and_after None = refl
flag_and_after (Some gauged) = refl

-- what is named for a second tank, with this byte
abbrev IsOfFlag : ℕ → Option Gauged → Type 0
IsOfFlag flag second = (flag_of second ≡ flag) × IsTypedSecond second

-- with the byte 0 nothing is named
nothing_only : (second : Option Gauged) → IsOfFlag 0 second → None ≡ second
unfolding flag_of
nothing_only None h = refl
nothing_only (Some gauged) h = absurd (omega (arith, h.0))

-- nothing is named
nothing_reader : IsPlacing (IsOfFlag 0) after_flag (λ bytes. Ok (None, bytes))
unfolding flag_of after_flag
nothing_reader = only_reader None (refl, tt) refl nothing_only

-- what is named
some_parts : Option Gauged → Gauged
some_parts None = no_gauged
some_parts (Some gauged) = gauged

-- what is named has the byte 1
some_to : (gauged : Gauged) → IsTypedGauged gauged → IsOfFlag 1 (Some gauged)
unfolding flag_of
some_to gauged h = (refl, h)

-- the bytes after it are those of what is named
some_same : (gauged : Gauged) → after_flag (Some gauged) ≡ gauged_bytes gauged
unfolding after_flag
some_same gauged = refl

-- with the byte 1 something is named
some_back : (second : Option Gauged) → IsOfFlag 1 second → Some (some_parts second) ≡ second
unfolding flag_of some_parts
some_back None h = absurd (omega (arith, h.0))
some_back (Some gauged) h = refl

-- which is of its type
some_fits : (second : Option Gauged) → IsOfFlag 1 second → IsTypedGauged (some_parts second)
unfolding flag_of some_parts
some_fits None h = absurd (omega (arith, h.0))
some_fits (Some gauged) h = h.1

-- something is named
something_reader : IsPlacing (IsOfFlag 1) after_flag (made_at Some gauged_at)
something_reader =
    made_reader gauged_reader (record { to = some_to; same = λ gauged h. some_same gauged; of = some_parts; back = some_back; of_fits = some_fits })

-- a byte up to 1 that isn't 0 is 1
second_flag : (flag : ℕ) → leb flag 1 ≡ true → (flag == 0) ≡ false → flag ≡ 1
second_flag zero h none = absurd cc
second_flag (suc zero) h none = refl
second_flag (suc (suc flag)) h none = absurd (omega (arith, leb-true (suc (suc flag)) 1 h))

-- what follows such a byte
after_reader : (flag : ℕ) → leb flag 1 ≡ true → IsPlacing (IsOfFlag flag) after_flag (second_after flag)
after_reader flag h =
    choose_reader (λ bytes. Ok (None, bytes)) (made_at Some gauged_at) (flag == 0)
    (λ here. of_number IsOfFlag flag 0 (λ bytes. Ok (None, bytes)) (eqb-true flag 0 here) nothing_reader)
    (λ none. of_number IsOfFlag flag 1 (made_at Some gauged_at) (second_flag flag h none) something_reader)

-- the byte is up to 1
flag_is_flag : (second : Option Gauged) → leb (flag_of second) 1 ≡ true
unfolding flag_of
flag_is_flag None = refl
flag_is_flag (Some gauged) = refl

-- what is named for a second tank
pub second_reader : IsPlacing IsTypedSecond second_bytes second_at
unfolding second_at
second_reader =
    made_reader (then_reader (byte_reader (λ flag. leb flag 1) 0 refl) after_reader) (record {
      to = λ p h. h.1.1;
      same = λ p h. flag_and_after p.1 ∙ ap (λ flag. flag ∷ after_flag p.1) h.1.0;
      of = λ second. (flag_of second, second);
      back = λ second h. refl;
      of_fits = λ second h. (flag_is_flag second, (refl, h));
    })
