-- Buffers that begin as they did, and texts appended to them one after another.
use Rattle.std.proofs.Common.{◌≡◌, ℕ, List, [], ◌∷◌, ◌++◌, length, take, refl, ap, ◌∙◌, append_assoc, Result, Ok, Err}
use Rattle.text_pieces.specs.Pieces.{Lengthens}

-- what begins as a longer text does begins as its front
pub begins_before : (front rest long text : List ℕ) → long ≡ front ++ rest → take (length long) text ≡ long →
    take (length front) text ≡ front
begins_before [] rest long text whole begins = refl
begins_before (b ∷ front) rest [] text whole begins = absurd (cc whole)
begins_before (b ∷ front) rest (c ∷ long) [] whole begins = absurd (cc begins)
begins_before (b ∷ front) rest (c ∷ long) (a ∷ text) whole begins =
    let shorter = begins_before front rest long text (cc whole) (cc begins) in cc (whole, begins, shorter)

-- a text appended, and then another, are both appended as one
pub appended_both : {T U E : Type 0} (old middle new first second : List ℕ) (x : T) (result : Result U E) →
    Lengthens {E = E} old middle first (Ok x) → Lengthens middle new second result → Lengthens old new (first ++ second) result
appended_both old middle new first second x (Ok y) before then = record {
  ok = then.ok ∙ ap (λ t. t ++ second) before.ok ∙ append_assoc old first second;
  err = tt;
}
appended_both old middle new first second x (Err e) before then =
    record { ok = tt; err = begins_before old first middle new before.ok then.err }
