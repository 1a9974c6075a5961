-- Points of a bottom, from the test of each.
use Rattle.std.proofs.Common.{◌≡◌, ℕ, zero, suc, ◌+◌, ◌-◌, ◌<◌, ◌≤◌, ◌^◌, Bool, true, false, ◌&&◌, List, [], ◌∷◌, length, get_or, pos, ◌<ℤ◌, Some, None, refl, sym, ◌∙◌, subst, add-one, arith}
use Rattle.std.proofs.lemmas.Int.{ints}
use Rattle.std.specs.Ordering.{int_eq}
use Rattle.farm_fixed.specs.Range.{IsWithin}
use Rattle.strap_courses.specs.Courses.{Point, last_point}
use Rattle.strap_courses.specs.Faults.{Follows, bad_point, follows, is_bottom_volume, unfollowed}

-- the last point is at the last index
pub last_at : (points : List Point) (d : Point) → 0 < length points → last_point points ≡ get_or points (length points - 1) d
last_at [] d some = absurd (omega arith)
last_at (point ∷ []) d some = refl
last_at (point ∷ next ∷ points) d some =
    let e : length (point ∷ next ∷ points) - 1 ≡ suc (length (next ∷ points) - 1) = omega arith in
    last_at (next ∷ points) d (omega arith) ∙ (rw e refl)

-- a point that passes its test follows the one before it
pub follows_is : (before point : Point) → follows before point ≡ true → Follows before point
follows_is before point accepted = record {
  higher = grind (arith, ints);
  no_less = grind (arith, ints);
  volume = record { low = grind (arith, ints); high = grind (arith, ints) };
}

-- the first of points that all follow
follows_first : (b : Bool) (n : ℕ) (before point : Point) (points : List Point) → follows before point ≡ b → unfollowed n before (point ∷ points) ≡ None → follows before point ≡ true
follows_first true n before point points test none = test
follows_first false n before point points test none = let some : Some n ≡ None = (rw test at none) in cc

-- and of the others each follows
follows_rest : (b : Bool) (n : ℕ) (before point : Point) (points : List Point) → follows before point ≡ b → unfollowed n before (point ∷ points) ≡ None → unfollowed (n + 1) point points ≡ None
follows_rest true n before point points test none = rw test at none
follows_rest false n before point points test none = let some : Some n ≡ None = (rw test at none) in cc

-- where no point is left that doesn't follow, each follows the one before it
pub each_follows : (n : ℕ) (before : Point) (points : List Point) (d e : Point) (i : ℕ) → unfollowed n before points ≡ None → i < length points →
    Follows (get_or (before ∷ points) i d) (get_or points i e)
each_follows n before [] d e i none short = absurd (omega arith)
each_follows n before (point ∷ points) d e zero none short = follows_is before point (follows_first (follows before point) n before point points refl none)
each_follows n before (point ∷ points) d e (suc i) none short =
    each_follows (n + 1) point points d e i (follows_rest (follows before point) n before point points refl none) (omega arith)

-- a fault isn't `None`
pub not_none : (n : ℕ) → Some n ≡ None → ⊥
not_none n some = cc

-- the points of a bottom without a fault: the first starts it
first_volume : (b : Bool) (point : Point) (points : List Point) → (int_eq point.0 (pos 0) && is_bottom_volume point) ≡ b → bad_point (point ∷ points) ≡ None → IsWithin (pos 0) (pos (10 ^ 9)) point.1
first_volume true point points test none = record { low = grind (arith, ints); high = grind (arith, ints) }
first_volume false point points test none = absurd (not_none 1 (rw test at none))

-- and the others follow
others : (b : Bool) (point : Point) (points : List Point) → (int_eq point.0 (pos 0) && is_bottom_volume point) ≡ b → bad_point (point ∷ points) ≡ None → unfollowed 2 point points ≡ None
others true point points test none = rw test at none
others false point points test none = absurd (not_none 1 (rw test at none))

-- each point of a bottom follows the one before it
pub point_follows : (points : List Point) (d e : Point) (i : ℕ) → bad_point points ≡ None → i + 1 < length points →
    Follows (get_or points i d) (get_or points (i + 1) e)
point_follows [] d e i none short = absurd (omega arith)
point_follows (point ∷ points) d e i none short =
    let P : ℕ → Type 0 = λ k. Follows (get_or (point ∷ points) i d) (get_or (point ∷ points) k e) in
    subst P (sym (add-one i)) (each_follows 2 point points d e i (others (int_eq point.0 (pos 0) && is_bottom_volume point) point points refl none) (omega arith))

-- the volume of each is in range
pub point_volume : (points : List Point) (d : Point) (i : ℕ) → bad_point points ≡ None → i < length points → IsWithin (pos 0) (pos (10 ^ 9)) (get_or points i d).1
point_volume [] d i none short = absurd (omega arith)
point_volume (point ∷ points) d zero none short = first_volume (int_eq point.0 (pos 0) && is_bottom_volume point) point points refl none
point_volume (point ∷ points) d (suc i) none short =
    (each_follows 2 point points d d i (others (int_eq point.0 (pos 0) && is_bottom_volume point) point points refl none) (omega arith)).volume

-- a bottom without a fault has a point
pub some_point : (points : List Point) → bad_point points ≡ None → 0 < length points
some_point [] none = cc
some_point (point ∷ points) none = omega arith

-- two points next to each other, by the number of the second
pub record Neighbours (low high : Point) : Type 0 where
  pub higher : low.0 <ℤ high.0
  pub before : IsWithin (pos 0) (pos (10 ^ 9)) low.1
  pub volume : IsWithin (pos 0) (pos (10 ^ 9)) high.1

-- they have it in a bottom without a fault
pub point_after : (points : List Point) (low high : Point) (i : ℕ) → bad_point points ≡ None → 1 ≤ i → i < length points →
    low ≡ get_or points (i - 1) low → high ≡ get_or points i high → Neighbours low high
point_after points low high i none some short low_is high_is =
    let e : i - 1 + 1 ≡ i = omega arith in
    let P : ℕ → Type 0 = λ k. Follows (get_or points (i - 1) low) (get_or points k high) in
    let Q : Point → Type 0 = λ p. Follows p (get_or points i high) in
    let R : Point → Type 0 = λ p. Follows low p in
    let V : Point → Type 0 = λ p. IsWithin (pos 0) (pos (10 ^ 9)) p.1 in
    let pair = subst R (sym high_is) (subst Q (sym low_is) (subst P e (point_follows points low high (i - 1) none (omega arith)))) in
    record {
      higher = pair.higher;
      before = subst V (sym low_is) (point_volume points low (i - 1) none (omega arith));
      volume = pair.volume;
    }
