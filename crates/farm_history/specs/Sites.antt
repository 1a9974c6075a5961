-- What the program knows of each site that it keeps a history of.
use Rattle.std.specs.Prelude.{All, IsTrue, map}
use Rattle.std.specs.List.Sorted.{IsStrictlyIncreasing}
use Rattle.farm_site.specs.Described.{Described}
use Rattle.farm_site.specs.Products.{product_number}
use Rattle.farm_site.specs.Tanks.{tank_number}
use Rattle.farm_site.specs.declared.items.Tank.{Tank}
use Rattle.farm_site.specs.Numbers.{is_among}
use Rattle.strap_table.specs.Capacity.{IsCapTable}

-- a tank has a capacity table, and its product is one of the site
pub record IsComputable (site : Described) (tank : Tank) : Type 0 where
  pub table : IsCapTable tank.table
  pub product : IsTrue (is_among tank.product (map product_number site.products))

-- each tank of a site can be computed
abbrev pub AreComputable : Described → Type 0
AreComputable site = All (IsComputable site) site.tanks

-- the tanks of a site stand in rising order of their numbers
abbrev pub AreRising : Described → Type 0
AreRising site = IsStrictlyIncreasing (map tank_number site.tanks)
