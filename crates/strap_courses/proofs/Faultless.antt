-- What holds of parts without a fault.
use Rattle.std.proofs.Common.{◌≡◌, ℕ, ◌≤◌, Option, Some, None, refl, arith}
use Rattle.std.proofs.lemmas.Bool.Decides.{nat_tests}
use Rattle.std.specs.Int.RustNames.{unsigned_abs}
use Rattle.farm_base.specs.Steps.{or_else}
use Rattle.farm_base.proofs.Steps.{or_else-none}
use Rattle.farm_fixed.specs.declared.limits.TheConstants.{MOST_HEIGHT}
use Rattle.strap_courses.specs.Courses.{StrappedTank, bottom_height, height_of}
use Rattle.strap_courses.specs.Faults.{TankFault, BadBottom, BadCourse, BadDeadwood, at_number, bad_course, bad_deadwood, bad_point, first_fault, no_course, wrong_height}

-- no fault at a number is no number
no_number : (fault : ℕ → TankFault) (n : Option ℕ) → at_number fault n ≡ None → n ≡ None
no_number fault None none = refl
no_number fault (Some n) none = cc

-- courses whose height is not wrong are at most 50,000 mm high
low_enough : (top height : ℕ) → wrong_height top height ≡ None → height ≤ unsigned_abs MOST_HEIGHT
low_enough top height none = grind (arith, nat_tests)

-- parts without a fault
pub record Faultless (tank : StrappedTank) : Type 0 where
  pub points : bad_point tank.bottom ≡ None
  pub height : height_of tank.courses ≤ unsigned_abs MOST_HEIGHT

-- what the causes come to where none is found
pub faultless : (tank : StrappedTank) → first_fault tank ≡ None → Faultless tank
unfolding first_fault
faultless tank none =
    let top = bottom_height tank.bottom in
    let height = wrong_height top (height_of tank.courses) in
    let bottom = at_number (λ n. BadBottom n) (bad_point tank.bottom) in
    let deadwood = at_number (λ n. BadDeadwood n) (bad_deadwood top 1 tank.deadwoods) in
    let course = at_number (λ n. BadCourse n) (bad_course 1 tank.courses) in
    let past_none = (or_else-none (no_course tank.courses) (or_else course (or_else deadwood (or_else bottom height))) none).1 in
    let past_courses = (or_else-none course (or_else deadwood (or_else bottom height)) past_none).1 in
    let deadwoods = or_else-none deadwood (or_else bottom height) past_courses in
    let others = or_else-none bottom height deadwoods.1 in
    record {
      points = no_number (λ n. BadBottom n) (bad_point tank.bottom) others.0;
      height = low_enough top (height_of tank.courses) others.1;
    }
