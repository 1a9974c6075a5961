-- The volume of a bottom, point by point.
use Rattle.std.proofs.Common.{◌≡◌, ℕ, ◌+◌, ◌-◌, ◌<◌, ◌≤◌, nat_le, nat_lt, true, false, List, [], ◌∷◌, length, get_or, drop, ℤ, pos, ◌+ℤ◌, ◌-ℤ◌, ◌*ℤ◌, refl, sym, ap, ◌∙◌, arith}
use Rattle.std.proofs.lemmas.List.{drop_more, get_or_default}
use Rattle.std.proofs.Math.Seq.{drop-length}
use Rattle.std.proofs.lemmas.Bool.Decides.{nat_tests}
use Rattle.std.specs.Int.RustNames.{unsigned_abs}
use Rattle.farm_rounding.specs.Table.{Row}
use Rattle.strap_courses.specs.Courses.{Point, StrappedTank, between_points, bottom_height, bottom_volume, exact_volume, held_between, last_point, over, per_litre}
use Rattle.strap_courses.specs.Rows.{rounded_litres}
use Rattle.strap_courses.proofs.Points.{last_at}

-- the rest of a list from the element before i on
two_left : (points : List Point) (before point : Point) (i : ℕ) → 1 ≤ i → i < length points →
    before ≡ get_or points (i - 1) before → point ≡ get_or points i point → drop (i - 1) points ≡ before ∷ point ∷ drop (i + 1) points
two_left points before point i some short before_is point_is =
    let e : i - 1 + 1 ≡ i = omega arith in
    let first : drop (i - 1) points ≡ get_or points (i - 1) before ∷ drop (i - 1 + 1) points = drop_more points (i - 1) before (omega arith) in
    let second : drop i points ≡ get_or points i point ∷ drop (i + 1) points = drop_more points i point short in
    cc

-- below point i, the volume lies between the one before it and this
pub below_point : (points : List Point) (before point : Point) (i height : ℕ) → 1 ≤ i → i < length points →
    before ≡ get_or points (i - 1) before → point ≡ get_or points i point → height < unsigned_abs point.0 →
    bottom_volume (drop (i - 1) points) height ≡ between_points before point height
unfolding bottom_volume
below_point points before point i height some short before_is point_is below =
    let test : nat_lt height (unsigned_abs point.0) ≡ true = grind (arith, nat_tests) in
    ap (λ ps. bottom_volume ps height) (two_left points before point i some short before_is point_is) ∙ (rw test refl)

-- at point i or above, it is that of the points from i on
pub past_point : (points : List Point) (point : Point) (i height : ℕ) → 1 ≤ i → i < length points →
    point ≡ get_or points i point → unsigned_abs point.0 ≤ height →
    bottom_volume (drop (i - 1) points) height ≡ bottom_volume (drop i points) height
unfolding bottom_volume
past_point points point i height some short point_is above =
    let before : Point = get_or points (i - 1) point in
    let test : nat_lt height (unsigned_abs point.0) ≡ false = grind (arith, nat_tests) in
    let same : before ≡ get_or points (i - 1) before = get_or_default points (i - 1) point before (omega arith) in
    let second : drop i points ≡ get_or points i point ∷ drop (i + 1) points = drop_more points i point short in
    let rest : drop i points ≡ point ∷ drop (i + 1) points = cc in
    ap (λ ps. bottom_volume ps height) (two_left points before point i some short same point_is) ∙ (rw test (ap (λ ps. bottom_volume ps height) (sym rest)))

-- of the last point alone, it is that point's
pub at_the_last : (points : List Point) (height : ℕ) → 0 < length points →
    bottom_volume (drop (length points - 1) points) height ≡ over (last_point points).1 1
unfolding bottom_volume
at_the_last points height some =
    let d : Point = (pos 0, pos 0) in
    let e : length points - 1 + 1 ≡ length points = omega arith in
    let one : drop (length points - 1) points ≡ get_or points (length points - 1) d ∷ drop (length points - 1 + 1) points = drop_more points (length points - 1) d (omega arith) in
    let none : drop (length points) points ≡ [] = drop-length points in
    let last : last_point points ≡ get_or points (length points - 1) d = last_at points d some in
    let left : drop (length points - 1) points ≡ last_point points ∷ [] = cc in
    ap (λ ps. bottom_volume ps height) left

-- what the body computes between two points
pub of_two_points : (rounding : List Row) (figure : ℕ) (low high : Point) (height : ℕ) (rise above_low gain below above num den answer : ℤ) →
    rise ≡ high.0 -ℤ low.0 → above_low ≡ pos height -ℤ low.0 → gain ≡ high.1 -ℤ low.1 → below ≡ low.1 *ℤ rise → above ≡ gain *ℤ above_low →
    num ≡ below +ℤ above → den ≡ rise → answer ≡ rounded_litres rounding figure (over num (unsigned_abs den)) →
    answer ≡ rounded_litres rounding figure (between_points low high height)
of_two_points rounding figure low high height rise above_low gain below above num den answer rise_is above_low_is gain_is below_is above_is num_is den_is answer_is =
    let den_low : den ≡ high.0 -ℤ low.0 = den_is ∙ rise_is in
    let num_low : num ≡ low.1 *ℤ (high.0 -ℤ low.0) +ℤ (high.1 -ℤ low.1) *ℤ (pos height -ℤ low.0) = cc in
    answer_is ∙ ap (λ n. rounded_litres rounding figure (over n (unsigned_abs den))) num_low
    ∙ ap (λ d. rounded_litres rounding figure (over (low.1 *ℤ (high.0 -ℤ low.0) +ℤ (high.1 -ℤ low.1) *ℤ (pos height -ℤ low.0)) (unsigned_abs d))) den_low

-- what the body computes above the bottom
pub of_the_shell : (rounding : List Row) (figure : ℕ) (tank : StrappedTank) (height top held : ℕ) (whole below num den answer : ℤ) →
    top < height → top ≡ bottom_height tank.bottom → whole ≡ (last_point tank.bottom).1 → held ≡ held_between top height 0 tank.courses →
    below ≡ pos per_litre *ℤ whole → num ≡ below +ℤ pos held → den ≡ pos per_litre → answer ≡ rounded_litres rounding figure (over num (unsigned_abs den)) →
    answer ≡ rounded_litres rounding figure (exact_volume tank height)
unfolding exact_volume
of_the_shell rounding figure tank height top held whole below num den answer above top_is whole_is held_is below_is num_is den_is answer_is =
    let test : nat_le height (bottom_height tank.bottom) ≡ false = grind (arith, nat_tests) in
    let held_above : held ≡ held_between (bottom_height tank.bottom) height 0 tank.courses = held_is ∙ ap (λ low. held_between low height 0 tank.courses) top_is in
    let all : num ≡ pos per_litre *ℤ (last_point tank.bottom).1 +ℤ pos (held_between (bottom_height tank.bottom) height 0 tank.courses) =
    num_is ∙ ap (λ b. b +ℤ pos held) (below_is ∙ ap (λ w. pos per_litre *ℤ w) whole_is)
    ∙ ap (λ h. pos per_litre *ℤ (last_point tank.bottom).1 +ℤ pos h) held_above in
    rw test (answer_is ∙ ap (λ n. rounded_litres rounding figure (over n (unsigned_abs den))) all
    ∙ ap (λ d. rounded_litres rounding figure (over (pos per_litre *ℤ (last_point tank.bottom).1 +ℤ pos (held_between (bottom_height tank.bottom) height 0 tank.courses)) (unsigned_abs d))) den_is)
