-- Texts appended one after another.
use Rattle.std.proofs.Common.{◌≡◌, List, ℕ, ◌++◌, Result, ap, ◌∙◌, append_assoc}
use Rattle.text_pieces.specs.Pieces.{Lengthens}
use Rattle.text_pieces.proofs.Lengths.{appended_both}

-- one text more after what was appended
pub one_more : (old before now first second : List ℕ) → before ≡ old ++ first → now ≡ before ++ second → now ≡ old ++ (first ++ second)
one_more old before now first second so_far is = is ∙ ap (λ t. t ++ second) so_far ∙ append_assoc old first second

-- and a last one, which may fail
pub last_more : {U E : Type 0} (old middle new first second : List ℕ) (result : Result U E) → middle ≡ old ++ first →
    Lengthens middle new second result → Lengthens old new (first ++ second) result
last_more {U} old middle new first second result so_far then =
    appended_both {T = Unit {0}} old middle new first second tt result (record { ok = so_far; err = tt }) then
