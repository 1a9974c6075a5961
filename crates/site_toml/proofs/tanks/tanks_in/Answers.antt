-- Answers to the open goals of `tanks_in`.
use Rattle.std.proofs.Common.{map, refl, arith}
use Rattle.farm_site.specs.Products.{product_number}
use Rattle.farm_site.specs.Tanks.{is_tank, tank_number}
use Rattle.site_toml.specs.Tanks.{tank_of}
use Rattle.farm_base.proofs.Known.{stays_then}
use Rattle.site_keys.proofs.Kept.{known_before}
use Rattle.site_keys.proofs.PlacedFacts.{numbered_more, placed_length, placed_numbered}
use Rattle.site_toml.proofs.tanks.tanks_in.Goals as goal

pub loop-index-preserved : goal.loop-index-preserved
loop-index-preserved g c =
    let earlier = c.loop-index.tanks.items in
    let tank = c.in_ok-tank.tank in
    let fresh = rw c.deref.ensures.value at c.in_ok-tank.ensures.fresh in
    record {
      read = λ files known.
          let here = rw c.deref.ensures.value at (c.in_ok-tank.ensures.tank files known) in
          rw (
            c.in_ok-put_by_number.ensures.placed,
            numbered_more tank_number (tank_of files c.args.format c.args.rounding.now (map product_number c.args.products.now)) earlier
                c.args.tables.now c.loop-index.index c.index-tables-index.result tank (omega arith) c.index-tables-index.is here,
          ) (c.loop-index.invariant.read files (known_before (g.F.Folder.files c.loop-index.folder) (g.F.Folder.files c.tank_of.new.folder) files c.in_ok-tank.ensures.files known));
      stays = stays_then (g.F.Folder.files c.args.folder.now) (g.F.Folder.files c.loop-index.folder) (g.F.Folder.files c.tank_of.new.folder)
          c.loop-index.invariant.stays c.in_ok-tank.ensures.files;
      unlisted = λ none. c.in_ok-tank.ensures.lists (c.loop-index.invariant.unlisted none);
      quiet = omega (arith, c.loop-index.invariant.quiet, c.in_ok-tank.ensures.counts.quiet (λ is. cc));
      count = rw (c.in_ok-put_by_number.ensures.placed, placed_length tank_number tank earlier, c.loop-index.invariant.count) refl;
      sound = rw c.in_ok-put_by_number.ensures.placed (placed_numbered tank_number (is_tank (map product_number c.args.products.now)) tank earlier
          c.loop-index.invariant.sound c.in_ok-tank.ensures.sound fresh);
    }
