-- What holds of the items of each site: ranges, orders and references.
use Rattle.std.specs.Prelude.{ℕ, ◌&&◌, Bool, nat_le, List, length}
use Rattle.farm_fixed.specs.Range.{is_between}
use Rattle.farm_site.specs.declared.items.Party.{Party}
use Rattle.farm_site.specs.declared.items.Product.{Product}
use Rattle.farm_site.specs.declared.items.Tank.{Tank}
use Rattle.farm_site.specs.Numbers.{are_numbered}
use Rattle.farm_site.specs.Limits.{most_parties, most_products, most_tanks}
use Rattle.farm_site.specs.Parties.{is_party, party_number}
use Rattle.farm_site.specs.Products.{is_product, product_number}
use Rattle.farm_site.specs.Tanks.{is_tank, tank_number}

-- from 1 to 16 products, in strictly rising order of number
abbrev pub are_products : List Product → Bool
are_products products = is_between 1 most_products (length products) && are_numbered product_number is_product products

-- at most 256 parties, in strictly rising order of number
abbrev pub are_parties : List Party → Bool
are_parties parties = nat_le (length parties) most_parties && are_numbered party_number is_party parties

-- from 1 to 64 tanks, in strictly rising order of number, each of one of the products of these numbers
abbrev pub are_tanks : List ℕ → List Tank → Bool
are_tanks products tanks = is_between 1 most_tanks (length tanks) && are_numbered tank_number (is_tank products) tanks
