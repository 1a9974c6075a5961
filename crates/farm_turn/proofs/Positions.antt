-- Where the passes of one seat stand among all passes.
use Rattle.std.proofs.Common.{◌≡◌, ℕ, zero, suc, List, [], ◌∷◌, ◌++◌, set, refl, sym, ap, ◌∙◌, append_assoc}
use mathlib.Core.Option.{some, some-injective, some-ne-none}
use mathlib.Core.List.{append-nil}
use lib.ListN.{get_elem?}
use Rattle.farm_turn.specs.declared.views.Known.{Known}
use Rattle.farm_turn.specs.declared.views.View.{View}
use Rattle.farm_turn.specs.Views.{all_known}

module _ {E R : Type 0} where
  -- what the passes of one seat know stands between what those before and those after it know
  pub record Positioned (views : List (View E R)) (id : ℕ) (v : View E R) : Type 0 where
    pub before : List (Known E R)
    pub after : List (Known E R)
    pub here : all_known views ≡ before ++ (v.known ++ after)
    pub changed : (w : View E R) → all_known (set views id w) ≡ before ++ (w.known ++ after)

  -- each view stands between those before it and those after it
  pub position : (views : List (View E R)) (id : ℕ) (v : View E R) → get_elem? views id ≡ some v → Positioned views id v
  position [] id v e = absurd (some-ne-none v (sym e))
  position (x ∷ xs) zero v e = record { before = []; after = all_known xs; here = ap (λ u. u.known ++ all_known xs) (some-injective x v e); changed = λ w. refl }
  position (x ∷ xs) (suc id) v e =
      let p = position xs id v e in
      record {
        before = x.known ++ p.before;
        after = p.after;
        here = ap (λ l. x.known ++ l) p.here ∙ sym (append_assoc x.known p.before (v.known ++ p.after));
        changed = λ w. ap (λ l. x.known ++ l) (p.changed w) ∙ sym (append_assoc x.known p.before (w.known ++ p.after));
      }

  -- a new seat stands last
  pub all_known-push : (views : List (View E R)) (w : View E R) → all_known (views ++ w ∷ []) ≡ all_known views ++ w.known
  all_known-push [] w = append-nil w.known
  all_known-push (x ∷ xs) w = ap (λ l. x.known ++ l) (all_known-push xs w) ∙ sym (append_assoc x.known (all_known xs) w.known)
