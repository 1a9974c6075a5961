-- What holds of a tank that is found, since it holds of each tank of a site.
use Rattle.std.proofs.Common.{map, pos}
use Rattle.std.specs.Prelude.{IfSome, IsTrue}
use Rattle.strap_table.specs.Roofs.{IsFloatingRoof}
use Rattle.farm_fixed.specs.Range.{IsWithin}
use Rattle.farm_fixed.specs.declared.limits.TheConstants.{MOST_COEFFICIENT}
use Rattle.farm_site.specs.Numbers.{is_among, item_numbered}
use Rattle.farm_site.proofs.TankParts.{coefficient_within, product_there, roof_is}
use Rattle.farm_site.specs.declared.items.Tank.{Tank}
use Rattle.farm_site.specs.Products.{product_number}
use Rattle.farm_site.specs.Tanks.{tank_number}
use Rattle.farm_site.proofs.TankFacts.{found_tank, may_float, some_tank}
use Rattle.farm_site.proofs.site.Site.tank.Goals as goal

pub returns-clause-coefficient : goal.returns-clause-coefficient
returns-clause-coefficient c =
    let products = map product_number c.args.self.now.products in
    some_tank (λ (tank : Tank). IsWithin (pos 0) MOST_COEFFICIENT tank.spec.shell.coefficient) c.item_numbered.result (λ tank. tank.now)
    (item_numbered tank_number c.args.number c.get.result.now) c.item_numbered.ensures.item
    (λ tank found. coefficient_within products tank
    (found_tank products c.args.self.now.tanks c.args.number tank c.args.self.now.has_tanks (rw c.get.ensures.items at found)))

pub returns-clause-roof : goal.returns-clause-roof
returns-clause-roof c =
    let products = map product_number c.args.self.now.products in
    some_tank (λ (tank : Tank). IfSome tank.spec.roof IsFloatingRoof) c.item_numbered.result (λ tank. tank.now)
    (item_numbered tank_number c.args.number c.get.result.now) c.item_numbered.ensures.item
    (λ tank found. may_float tank.spec.roof (roof_is products tank
    (found_tank products c.args.self.now.tanks c.args.number tank c.args.self.now.has_tanks (rw c.get.ensures.items at found))))

pub returns-clause-product : goal.returns-clause-product
returns-clause-product c =
    let products = map product_number c.args.self.now.products in
    some_tank (λ (tank : Tank). IsTrue (is_among tank.product products)) c.item_numbered.result (λ tank. tank.now)
    (item_numbered tank_number c.args.number c.get.result.now) c.item_numbered.ensures.item
    (λ tank found. product_there products tank
    (found_tank products c.args.self.now.tanks c.args.number tank c.args.self.now.has_tanks (rw c.get.ensures.items at found)))
