-- When listeners have the same.
use Rattle.std.specs.Prelude.{◌≡◌, ℕ, List, map, ◌&&◌}
use Rattle.std.specs.Bool.{Decides}
use Rattle.std.specs.Cmp.Lexicographic.{pointwise}
use Rattle.std.proofs.Common.{ap, eqb}
use Rattle.std.specs.declared.vec.Vec.{Vec}
use Rattle.std.specs.declared.alloc.Global.{Global}
use Rattle.case_trials.proofs.Lists.{both, mapped_decides, numbers_decide}
use Rattle.case_trials.specs.declared.visited.Visited.{Visited}
use Rattle.case_trials.specs.Visits.{seen}

-- the bytes of connections are the same if those of each are
written_decide : (xs ys : List (Vec ℕ Global)) → Decides (pointwise (λ x y. pointwise eqb x.items y.items) xs ys) (map (λ written. written.items) xs ≡ map (λ written. written.items) ys)
written_decide = mapped_decides (λ written. written.items) (λ x y. pointwise eqb x.items y.items) (λ x y. numbers_decide x.items y.items)

-- two listeners have the same if their ports and their connections are
visit_decides : (a b : Visited) →
    Decides (pointwise eqb a.ports.items b.ports.items && pointwise (λ x y. pointwise eqb x.items y.items) a.written.items b.written.items) (seen a ≡ seen b)
visit_decides a b = both _ _ (numbers_decide a.ports.items b.ports.items) (written_decide a.written.items b.written.items) (λ p q. cc) (λ e. (ap (λ s. s.0) e, ap (λ s. s.1) e))

-- listeners have the same if each has
pub visits_decide : (xs ys : List Visited) →
    Decides (pointwise (λ a b. pointwise eqb a.ports.items b.ports.items && pointwise (λ x y. pointwise eqb x.items y.items) a.written.items b.written.items) xs ys) (map seen xs ≡ map seen ys)
visits_decide = mapped_decides seen _ visit_decides
