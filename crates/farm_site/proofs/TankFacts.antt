-- What the facts of a site say of one of its tanks: what a calculation asks of it, and that its product is there.
use Rattle.std.proofs.Common.{◌≡◌, ℕ, Bool, true, false, not, ◌==◌, List, [], ◌∷◌, map, Option, Some, None, pos, int_lt, sym, option_map, rules}
use Rattle.std.specs.Prelude.{IfSome, if◌then◌else◌, length}
use Rattle.std.specs.List.{list_all}
use Rattle.std.proofs.lemmas.Bool.{and_parts, not-true}
use Rattle.farm_base.proofs.BoolTests.{int_lt-false}
use Rattle.strap_table.specs.Roofs.{IsFloatingRoof}
use Rattle.farm_fixed.specs.declared.limits.TheConstants.{MOST_ROOF_MASS}
use Rattle.farm_fixed.specs.Range.{is_within, is_between}
use Rattle.farm_fixed.proofs.ParsingLaws.{is_within-true}
use Rattle.strap_table.specs.declared.tank.Roof.{Roof}
use Rattle.farm_site.specs.Numbers.{are_numbered, item_numbered, rises}
use Rattle.farm_site.specs.declared.items.Tank.{Tank}
use Rattle.farm_site.specs.declared.limits.TheConstants.{MOST_TANKS}
use Rattle.farm_site.specs.Facts.{are_tanks}
use Rattle.farm_site.specs.Tanks.{is_roof, is_tank, tank_number}

-- the first item has the number, or another one has
passes_here : {A : Type 0} (test : A → Bool) (first item : A) (others : Option A) (has : Bool) → test first ≡ true →
    (others ≡ Some item → test item ≡ true) → (if has then Some first else others) ≡ Some item → test item ≡ true
passes_here test first item others true passes rest found = let same : first ≡ item = cc in cc
passes_here test first item others false passes rest found = rest found

-- an item that is found by its number passes a test that each passes
pub found_passes : {A : Type 0} (test : A → Bool) (number : A → ℕ) (n : ℕ) (items : List A) (item : A) → list_all test items ≡ true →
    item_numbered number n items ≡ Some item → test item ≡ true
found_passes test number n [] item all found = cc
found_passes test number n (first ∷ items) item all found =
    let parts = and_parts (test first) (list_all test items) all in
    passes_here test first item (item_numbered number n items) (number first == n) parts.0
    (λ other. found_passes test number n items item parts.1 other) found

-- a tank that is found in a site is a tank of a site
pub found_tank : (products : List ℕ) (tanks : List Tank) (n : ℕ) (tank : Tank) → are_tanks products tanks ≡ true →
    item_numbered tank_number n tanks ≡ Some tank → is_tank products tank ≡ true
found_tank products tanks n tank facts found =
    let numbered = and_parts (is_between 1 MOST_TANKS (length tanks)) (are_numbered tank_number (is_tank products) tanks) facts in
    let all = and_parts (list_all (is_tank products) tanks) (rises (map tank_number tanks)) numbered.1 in
    found_passes (is_tank products) tank_number n tanks tank all.0 found

-- a roof that a site may have may float
pub may_float : (roof : Option Roof) → is_roof roof ≡ true → IfSome roof IsFloatingRoof
may_float None is = tt
may_float (Some roof) is =
    let parts = and_parts (is_within (pos 1) MOST_ROOF_MASS roof.mass) (not (int_lt roof.high roof.low)) is in
    let mass = is_within-true (pos 1) MOST_ROOF_MASS roof.mass parts.0 in
    record {
      weight = search (rules, mass);
      zone = int_lt-false roof.high roof.low (not-true (int_lt roof.high roof.low) parts.1);
    }

-- what holds of each tank that is found holds of the one that a call finds
pub some_tank : {B : Type 0} (P : Tank → Type 0) (result : Option B) (now : B → Tank) (answer : Option Tank) → option_map now result ≡ answer →
    ((tank : Tank) → answer ≡ Some tank → P tank) → IfSome result (λ tank. P (now tank))
some_tank P None now answer is holds = tt
some_tank P (Some tank) now answer is holds = holds (now tank) (sym is)
