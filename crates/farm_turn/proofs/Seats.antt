-- What the seat of a pass, or of passes that were joined, knows and holds.
use Rattle.std.proofs.Common.{◌≡◌, List, [], ◌∷◌, ◌++◌, sym, ap, ap₂, ◌∙◌, append_assoc}
use Rattle.atomic_table.specs.Table.{Me}
use Rattle.farm_turn.specs.declared.views.Known.{Known}
use Rattle.farm_turn.specs.declared.views.View.{View}
use Rattle.farm_turn.specs.Views.{PassView, one, joined, together}

-- a seat that came of the badge of one pass knows what the pass does, and holds no slot
pub seat_of_badge : {S E R : Type 0} (taken badge : List (View E R)) (me : Me S (View E R)) (k : Known E R) → taken ≡ badge → badge ≡ one k ∷ [] → taken ≡ me.0 ∷ [] → me.1 ≡ [] → me ≡ (one k, [])
seat_of_badge taken badge me k a b c d = let e : me.0 ≡ one k = cc in λ i. (e i, d i)

-- the seat of a pass that took in the seat of those after it
pub seat_joined : {S E R : Type 0} (front others new : Me S (View E R)) (pass : PassView E R) (done : List (PassView E R)) → new ≡ (joined front.0 others.0, front.1) → front ≡ (one pass.known, []) → others ≡ (together done, [])
    → new ≡ (together (pass ∷ done), [])
seat_joined front others new pass done a b c = a ∙ ap₂ (λ f o. (joined f.0 o.0, f.1)) b c

-- a list whose last element was taken off, with those that were taken off before
pub taken_off : {X : Type 0} (before left done whole : List X) (x : X) → before ≡ left ++ x ∷ [] → before ++ done ≡ whole → left ++ x ∷ done ≡ whole
taken_off before left done whole x a b = sym (append_assoc left (x ∷ []) done) ∙ (ap (λ l. l ++ done) (sym a) ∙ b)
