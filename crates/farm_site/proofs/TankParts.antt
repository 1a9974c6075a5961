-- The parts of what holds of a tank.
use Rattle.std.proofs.Common.{◌≡◌, ℕ, true, ◌&&◌, List, pos}
use Rattle.std.specs.Prelude.{IsTrue}
use Rattle.std.proofs.lemmas.Bool.{and_parts}
use Rattle.farm_fixed.specs.declared.limits.TheConstants.{MOST_COEFFICIENT, MOST_HEIGHT}
use Rattle.farm_fixed.specs.Range.{IsWithin, is_within, is_between}
use Rattle.farm_fixed.proofs.ParsingLaws.{is_within-true}
use Rattle.farm_site.specs.declared.limits.TheConstants.{MOST_NUMBER}
use Rattle.farm_site.specs.Numbers.{is_among}
use Rattle.farm_site.specs.declared.items.Tank.{Tank}
use Rattle.farm_site.specs.Tanks.{is_roof, is_spec, is_opening, is_tank}

-- a tank's product is among those of the site
pub product_there : (products : List ℕ) (tank : Tank) → is_tank products tank ≡ true → IsTrue (is_among tank.product products)
product_there products tank is =
    let number = is_between 1 MOST_NUMBER tank.number in
    let product = is_among tank.product products in
    let three = and_parts (number && product && is_spec tank.spec) (is_opening tank.opening) is in
    let two = and_parts (number && product) (is_spec tank.spec) three.0 in
    (and_parts number product two.0).1

-- what is fixed of a tank is in its ranges
pub spec_is : (products : List ℕ) (tank : Tank) → is_tank products tank ≡ true → is_spec tank.spec ≡ true
spec_is products tank is =
    let front = is_between 1 MOST_NUMBER tank.number && is_among tank.product products in
    let three = and_parts (front && is_spec tank.spec) (is_opening tank.opening) is in
    (and_parts front (is_spec tank.spec) three.0).1

-- a tank's shell has a coefficient from 0 to 1,000
pub coefficient_within : (products : List ℕ) (tank : Tank) → is_tank products tank ≡ true →
    IsWithin (pos 0) MOST_COEFFICIENT tank.spec.shell.coefficient
coefficient_within products tank is =
    let coefficient = is_within (pos 0) MOST_COEFFICIENT tank.spec.shell.coefficient in
    let height = is_within (pos 1) MOST_HEIGHT tank.spec.height in
    let parts = and_parts (coefficient && height) (is_roof tank.spec.roof) (spec_is products tank is) in
    is_within-true (pos 0) MOST_COEFFICIENT tank.spec.shell.coefficient (and_parts coefficient height parts.0).0

-- a tank's roof is one that a site may have
pub roof_is : (products : List ℕ) (tank : Tank) → is_tank products tank ≡ true → is_roof tank.spec.roof ≡ true
roof_is products tank is =
    let coefficient = is_within (pos 0) MOST_COEFFICIENT tank.spec.shell.coefficient in
    let height = is_within (pos 1) MOST_HEIGHT tank.spec.height in
    (and_parts (coefficient && height) (is_roof tank.spec.roof) (spec_is products tank is)).1
