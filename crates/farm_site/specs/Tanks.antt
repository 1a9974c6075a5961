-- The tanks of a site.
use Rattle.std.specs.Prelude.{ℕ, ◌&&◌, Bool, true, not, List, Option, Some, None, ℤ, pos, neg_ℤ}
use Rattle.std.specs.Int.RustNames.{int_lt}
use Rattle.farm_fixed.specs.Limits.{most_coefficient, most_height, most_roof_mass}
use Rattle.farm_fixed.specs.Range.{is_within, is_between}
use Rattle.farm_fixed.specs.declared.records.Amount.{Amount}
use Rattle.strap_table.specs.declared.tank.Roof.{Roof}
use Rattle.strap_table.specs.declared.tank.TankSpec.{TankSpec}
use Rattle.farm_site.specs.declared.items.Tank.{Tank}
use Rattle.farm_site.specs.Limits.{most_number, most_stock}
use Rattle.farm_site.specs.Numbers.{is_among}

-- the number of a tank
abbrev pub tank_number : Tank → ℕ
tank_number tank = tank.number

-- a roof has a mass, and its zone isn't upside down
abbrev pub is_roof : Option Roof → Bool
is_roof None = true
is_roof (Some roof) = is_within (pos 1) most_roof_mass roof.mass && not (int_lt roof.high roof.low)

-- what is fixed of a tank is in its ranges
abbrev pub is_spec : TankSpec → Bool
is_spec spec = is_within (pos 0) most_coefficient spec.shell.coefficient && is_within (pos 1) most_height spec.height && is_roof spec.roof

-- a stock is at most 10^9 either way
abbrev pub is_stock : ℤ → Bool
is_stock stock = is_within (neg_ℤ most_stock) most_stock stock

-- both parts of an opening stock are
abbrev pub is_opening : Amount → Bool
is_opening amount = is_stock amount.litres && is_stock amount.kg

-- a tank has a number, a product of the site, and what is fixed of it and its stock are in their ranges; its table is a
-- capacity table by its own type
abbrev pub is_tank : List ℕ → Tank → Bool
is_tank products tank =
    is_between 1 most_number tank.number && is_among tank.product products && is_spec tank.spec && is_opening tank.opening
