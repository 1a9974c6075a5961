-- Things read one after another, as a loop does.
use Rattle.std.proofs.Common.{◌≡◌, ℕ, suc, ◌+◌, ◌-◌, ◌<◌, List, [], ◌∷◌, ◌++◌, Result, Ok, Err, refl, sym, ap, ◌∙◌, append_assoc, arith}
use Rattle.farm_base.specs.Steps.{◌>>=◌}
use Rattle.byte_readers.specs.ByteReaders.{Reader, counted_at}

-- what a reader of lists gives
abbrev pub Listed : Type 0 → Type 0 → Type 0
Listed F A = Result (List A × List ℕ) F

-- things before those that are read
abbrev pub with_front : {F A : Type 0} → List A → Listed F A → Listed F A
with_front front read = read >>= λ x. Ok (front ++ x.0, x.1)

-- one thing and then others
abbrev after_one : {F A : Type 0} → A → Listed F A → Listed F A
after_one {A = A} item read =
    ◌>>=◌ {B = List A × List ℕ} (◌>>=◌ {B = (A × List A) × List ℕ} read (λ others. Ok ((item, others.0), others.1))) (λ both. Ok (both.0.0 ∷ both.0.1, both.1))

-- things that were read
abbrev all_read : {F A : Type 0} → List A × List ℕ → Listed F A
all_read x = Ok x

-- a thing at the front of those that are read is one more before the others
regroup : {F A : Type 0} (front : List A) (item : A) (read : Listed F A) → with_front front (after_one item read) ≡ with_front (front ++ item ∷ []) read
regroup {F} {A} front item (Ok x) = ap (λ (items : List A). all_read {F = F} (items, x.1)) (sym (append_assoc front (item ∷ []) x.0))
regroup front item (Err fault) = refl

-- reading continues with one thing more
pub goes_on : {F A : Type 0} (read : Reader F A) (front : List A) (count i : ℕ) (bytes : List ℕ) (item : A) (after : List ℕ) (total : Listed F A) → i < count →
    read bytes ≡ Ok (item, after) → with_front front (counted_at read (count - i) bytes) ≡ total →
    with_front (front ++ item ∷ []) (counted_at read (count - (i + 1)) after) ≡ total
goes_on read front count i bytes item after total below here so_far =
    let one_less : count - i ≡ suc (count - (i + 1)) = omega arith in
    let step : with_front front (counted_at read (count - i) bytes) ≡ with_front (front ++ item ∷ []) (counted_at read (count - (i + 1)) after) =
    rw (one_less, here) (regroup front item (counted_at read (count - (i + 1)) after)) in
    sym step ∙ so_far

-- reading ends where a thing can't be read
pub ends : {F A : Type 0} (read : Reader F A) (front : List A) (count i : ℕ) (bytes : List ℕ) (fault : F) (total : Listed F A) → i < count →
    read bytes ≡ Err fault → with_front front (counted_at read (count - i) bytes) ≡ total → total ≡ Err fault
ends read front count i bytes fault total below here so_far =
    let one_less : count - i ≡ suc (count - (i + 1)) = omega arith in
    let step : with_front front (counted_at read (count - i) bytes) ≡ Err fault = rw (one_less, here) refl in
    sym so_far ∙ step
