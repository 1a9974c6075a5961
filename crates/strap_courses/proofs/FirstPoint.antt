-- The first bad point of a bottom in the words of the rule.
use Rattle.std.proofs.Common.{◌≡◌, inl, inr, ℕ, zero, suc, ◌+◌, ◌-◌, ◌<◌, ◌&&◌, Bool, true, false, if◌then◌else◌, Some, None, List, [], ◌∷◌, length, pos, refl, sym, subst, arith}
use Rattle.std.proofs.lemmas.Bool.Decides.{nat_tests}
use Rattle.std.proofs.lemmas.Int.{ints}
use Rattle.std.specs.Ordering.{int_eq}
use Rattle.strap_courses.specs.Courses.{Point}
use Rattle.strap_courses.specs.Faults.{Follows, GoesOn, IsBottom, IsFirstBadPoint, IsFirstPoint, bad_point, follows, is_bottom_volume, point_at, unfollowed}
use Rattle.strap_courses.proofs.Points.{each_follows, follows_is, not_none}

-- the test of the first point
first_point : (point : Point) → (int_eq point.0 (pos 0) && is_bottom_volume point) ≡ true → IsFirstPoint point
first_point point passes = record {
  height = grind (arith, ints, nat_tests);
  volume = record { low = grind (arith, ints); high = grind (arith, ints) };
}

-- a point that fails it is no first one
not_first_point : (point : Point) → (int_eq point.0 (pos 0) && is_bottom_volume point) ≡ false → ¬ (IsFirstPoint point)
not_first_point point fails good = grind (arith, ints, nat_tests, good.height, good.volume.low, good.volume.high)

-- the test of a later point
not_follows : (before point : Point) → follows before point ≡ false → ¬ (Follows before point)
not_follows before point fails good = grind (arith, ints, good.higher, good.no_less, good.volume.low, good.volume.high)

-- point m, counted from number n, is the first that doesn't follow the one before it
record FoundPoint (n : ℕ) (before : Point) (points : List Point) (m : ℕ) : Type 0 where
  index : ℕ
  counted : m ≡ n + index
  within : index < length points
  good_before : (earlier : ℕ) → earlier < index → Follows (point_at (before ∷ points) earlier) (point_at points earlier)
  fails : ¬ (Follows (point_at (before ∷ points) index) (point_at points index))

-- the points before it follow, the first one among them
follow_more : (before point : Point) (points : List Point) (index : ℕ) → Follows before point →
    ((earlier : ℕ) → earlier < index → Follows (point_at (point ∷ points) earlier) (point_at points earlier)) →
    (earlier : ℕ) → earlier < suc index → Follows (point_at (before ∷ point ∷ points) earlier) (point_at (point ∷ points) earlier)
follow_more before point points index here rest zero early = here
follow_more before point points index here rest (suc earlier) early = rest earlier (omega arith)

-- the point that the search finds
found_point : (n : ℕ) (before : Point) (points : List Point) (m : ℕ) → unfollowed n before points ≡ Some m → FoundPoint n before points m
found_point n before [] m some = cc
found_point n before (point ∷ points) m some = by (follows before point) refl some (found_point (n + 1) point points m)
  where
    by : (b : Bool) → follows before point ≡ b → (if follows before point then unfollowed (n + 1) point points else Some n) ≡ Some m →
        (unfollowed (n + 1) point points ≡ Some m → FoundPoint (n + 1) point points m) → FoundPoint n before (point ∷ points) m
    by true e some later =
        let rest = later (rw e at some) in
        record {
          index = suc rest.index;
          counted = omega (arith, rest.counted);
          within = omega (arith, rest.within);
          good_before = follow_more before point points rest.index (follows_is before point e) rest.good_before;
          fails = rest.fails;
        }
    by false e some later =
        let here : Some n ≡ Some m = (rw e at some) in
        let same : n ≡ m = cc in
        record {
          index = 0;
          counted = omega (arith, same);
          within = omega arith;
          good_before = λ earlier early. absurd (omega (arith, early));
          fails = not_follows before point e;
        }

-- the points before a later bad one may stand where they do
on_before : (point : Point) (points : List Point) (index : ℕ) → IsFirstPoint point →
    ((earlier : ℕ) → earlier < index → Follows (point_at (point ∷ points) earlier) (point_at points earlier)) →
    (earlier : ℕ) → earlier < suc index → GoesOn (point ∷ points) earlier
on_before point points index first rest zero early = first
on_before point points index first rest (suc earlier) early = rest earlier (omega arith)

-- the first bad point is the one that the search finds
pub bad_point_is : (points : List Point) (m : ℕ) → bad_point points ≡ Some m → IsFirstBadPoint points m
bad_point_is [] m some =
    let same : 1 ≡ m = cc in
    record { low = omega (arith, same); before = λ index early. absurd (omega (arith, same, early)); bad = inr (sym same, refl) }
bad_point_is (point ∷ points) m some = by (int_eq point.0 (pos 0) && is_bottom_volume point) refl some
  where
    by : (b : Bool) → (int_eq point.0 (pos 0) && is_bottom_volume point) ≡ b →
        (if int_eq point.0 (pos 0) && is_bottom_volume point then unfollowed 2 point points else Some 1) ≡ Some m → IsFirstBadPoint (point ∷ points) m
    by true e some =
        let found = found_point 2 point points m (rw e at some) in
        let P : ℕ → Type 0 = λ index. ¬ (GoesOn (point ∷ points) index) in
        record {
          low = omega (arith, found.counted);
          before = λ index early. on_before point points found.index (first_point point e) found.good_before index (omega (arith, found.counted, early));
          bad = let at : suc found.index ≡ m - 1 = omega (arith, found.counted) in inl (omega (arith, found.counted, found.within), subst P at found.fails);
        }
    by false e some =
        let here : Some 1 ≡ Some m = (rw e at some) in
        let same : 1 ≡ m = cc in
        let P : ℕ → Type 0 = λ index. ¬ (GoesOn (point ∷ points) index) in
        record {
          low = omega (arith, same);
          before = λ index early. absurd (omega (arith, same, early));
          bad = let first : 0 ≡ m - 1 = omega (arith, same) in inl (omega (arith, same), subst P first (not_first_point point e));
        }

-- where it finds none, the points are a bottom
pub bottom_is : (points : List Point) → bad_point points ≡ None → IsBottom points
bottom_is [] none = cc
bottom_is (point ∷ points) none = by (int_eq point.0 (pos 0) && is_bottom_volume point) refl none
  where
    on : IsFirstPoint point → unfollowed 2 point points ≡ None → (index : ℕ) → index < length (point ∷ points) → GoesOn (point ∷ points) index
    on first rest zero within = first
    on first rest (suc index) within = each_follows 2 point points (pos 0, pos 0) (pos 0, pos 0) index rest (omega arith)

    by : (b : Bool) → (int_eq point.0 (pos 0) && is_bottom_volume point) ≡ b →
        (if int_eq point.0 (pos 0) && is_bottom_volume point then unfollowed 2 point points else Some 1) ≡ None → IsBottom (point ∷ points)
    by true e none = record { some = omega arith; each = on (first_point point e) (rw e at none) }
    by false e none = absurd (not_none 1 (rw e at none))
