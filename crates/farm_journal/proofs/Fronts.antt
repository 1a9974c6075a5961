-- What bytes begin with.
use Rattle.std.proofs.Common.{◌≡◌, ℕ, ◌≤◌, List, [], ◌∷◌, ◌++◌, length, take, drop, refl, sym, ap, ◌∙◌, arith, length-append, length-take}
use Rattle.std.proofs.lemmas.List.{drop-take, drop_at, take-take, take_all, take_at}
use Rattle.std.proofs.Math.Seq.{take-add}
use Rattle.farm_journal.specs.Windows.{BeginsWith}

-- what bytes begin with is no longer than they are
pub begins_size : (front bytes : List ℕ) → BeginsWith front bytes → length front ≤ length bytes
begins_size front bytes begins = omega (arith, ap length begins, length-take (length front) bytes)

-- each list begins with itself
pub begins_same : (front bytes : List ℕ) → front ≡ bytes → BeginsWith front bytes
begins_same front bytes same = ap (λ bytes. take (length front) bytes) (sym same) ∙ take_all (length front) front (omega arith)

-- bytes begin with the first of them
pub begins_take : (size : ℕ) (bytes : List ℕ) → size ≤ length bytes → BeginsWith (take size bytes) bytes
begins_take size bytes within =
    let whole : length (take size bytes) ≡ size = omega (arith, length-take size bytes) in
    ap (λ size. take size bytes) whole

-- bytes begin as a longer front of them does
pub begins_front : (size : ℕ) (front bytes : List ℕ) → size ≤ length front → BeginsWith front bytes → take size bytes ≡ take size front
begins_front size front bytes within begins =
    sym (take-take size (length front) bytes within) ∙ ap (λ bytes. take size bytes) begins

-- bytes begin with the beginning of a prefix of them
pub begins_then : (first front bytes : List ℕ) → BeginsWith first front → BeginsWith front bytes → BeginsWith first bytes
begins_then first front bytes begins then =
    begins_front (length first) front bytes (begins_size first front begins) then ∙ begins

-- bytes begin with two lists if they begin with the first, and continue with the second
pub begins_append : (first next bytes : List ℕ) → BeginsWith first bytes → BeginsWith next (drop (length first) bytes) →
    BeginsWith (first ++ next) bytes
begins_append first next bytes begins goes_on =
    ap (λ size. take size bytes) (length-append first next)
    ∙ take-add (length first) (length next) bytes
    ∙ ap (λ front. front ++ take (length next) (drop (length first) bytes)) begins
    ∙ ap (λ back. first ++ back) goes_on

-- and so they begin with the first of two
pub begins_first : (first next bytes : List ℕ) → BeginsWith (first ++ next) bytes → BeginsWith first bytes
begins_first first next bytes begins =
    begins_then first (first ++ next) bytes (take_at first next (length first) refl) begins

-- bytes that begin with 1 are that, and then the others
pub begins_with_1 : (bytes : List ℕ) → BeginsWith (1 ∷ []) bytes → bytes ≡ 1 ∷ drop 1 bytes
begins_with_1 [] begins = cc
begins_with_1 (first ∷ rest) begins = let is : first ≡ 1 = cc in ap (λ first. first ∷ rest) is

-- and after it they continue with the second
pub begins_second : (first next bytes : List ℕ) → BeginsWith (first ++ next) bytes → BeginsWith next (drop (length first) bytes)
begins_second first next bytes begins =
    sym (drop-take (length first) (length next) bytes)
    ∙ ap (λ size. drop (length first) (take size bytes)) (sym (length-append first next))
    ∙ ap (λ bytes. drop (length first) bytes) begins
    ∙ drop_at first next (length first) refl
