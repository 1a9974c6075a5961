-- A site as it is described, and what holds of it.
use Rattle.std.specs.Prelude.{ℕ, All, IsTrue, List, map, Option}
use Rattle.farm_rounding.specs.Table.{IsTable, Row}
use Rattle.gauge_maps.specs.declared.map.LineMap.{LineMap}
use Rattle.farm_site.specs.declared.items.Party.{Party}
use Rattle.farm_site.specs.declared.items.Product.{Product}
use Rattle.farm_site.specs.declared.items.Tank.{Tank}
use Rattle.farm_site.specs.Facts.{are_parties, are_products, are_tanks}
use Rattle.farm_site.specs.Lines.{are_lines}
use Rattle.farm_site.specs.Names.{is_name}
use Rattle.farm_site.specs.Numbers.{item_numbered}
use Rattle.farm_site.specs.Products.{product_number}
use Rattle.farm_site.specs.Tanks.{tank_number}
use Rattle.farm_site.specs.Typed.{IsTypedLine, IsTypedProduct, IsTypedTank}

-- a site, as it is described
pub record Described : Type 0 where
  pub name : List ℕ
  pub rounding : List Row
  pub products : List Product
  pub parties : List Party
  pub tanks : List Tank
  pub lines : List LineMap

-- products that a site may have
abbrev pub AreProducts : List Product → Type 0
AreProducts products = IsTrue (are_products products) × All IsTypedProduct products

-- parties that a site may have
abbrev pub AreParties : List Party → Type 0
AreParties parties = IsTrue (are_parties parties)

-- tanks that a site with these products may have
abbrev pub AreTanks : List Product → List Tank → Type 0
AreTanks products tanks = IsTrue (are_tanks (map product_number products) tanks) × All IsTypedTank tanks

-- gauge lines that a site with these tanks may have
abbrev pub AreLines : List Tank → List LineMap → Type 0
AreLines tanks lines = IsTrue (are_lines (map tank_number tanks) lines) × All IsTypedLine lines

-- What a site has, in the words of the rule: a name, a rounding table, products, parties, tanks each of one of the products, and gauge
-- lines whose gauges are on the tanks.
pub record IsSite (site : Described) : Type 0 where
  pub named : IsTrue (is_name site.name)
  pub rounding : IsTable site.rounding
  pub products_sound : AreProducts site.products
  pub parties_sound : AreParties site.parties
  pub tanks_sound : AreTanks site.products site.tanks
  pub lines_sound : AreLines site.tanks site.lines

-- the first tank with a number
abbrev pub tank_numbered : ℕ → List Tank → Option Tank
tank_numbered number tanks = item_numbered tank_number number tanks

-- the first product with a number
abbrev pub product_numbered : ℕ → List Product → Option Product
product_numbered number products = item_numbered product_number number products
