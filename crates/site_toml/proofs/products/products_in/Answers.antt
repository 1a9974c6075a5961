-- Answers to the open goals of `products_in`.
use Rattle.std.proofs.Common.{refl, arith}
use Rattle.farm_site.specs.Products.{is_product, product_number}
use Rattle.site_toml.specs.Products.{product_of}
use Rattle.farm_base.proofs.Known.{stays_then}
use Rattle.site_keys.proofs.Kept.{known_before}
use Rattle.site_keys.proofs.PlacedFacts.{numbered_more, placed_length, placed_numbered}
use Rattle.site_toml.proofs.products.products_in.Goals as goal

pub loop-index-preserved : goal.loop-index-preserved
loop-index-preserved g c =
    let earlier = c.loop-index.products.items in
    let product = c.in_ok-product.product in
    let fresh = rw c.deref.ensures.value at c.in_ok-product.ensures.fresh in
    record {
      read = λ files known.
          let here = rw c.deref.ensures.value at (c.in_ok-product.ensures.product files known) in
          rw (
            c.in_ok-put_by_number.ensures.placed,
            numbered_more product_number (product_of files) earlier
                c.args.tables.now c.loop-index.index c.index-tables-index.result product (omega arith) c.index-tables-index.is here,
          ) (c.loop-index.invariant.read files (known_before (g.F.Folder.files c.loop-index.folder) (g.F.Folder.files c.product_of.new.folder) files c.in_ok-product.ensures.files known));
      stays = stays_then (g.F.Folder.files c.args.folder.now) (g.F.Folder.files c.loop-index.folder) (g.F.Folder.files c.product_of.new.folder)
          c.loop-index.invariant.stays c.in_ok-product.ensures.files;
      unlisted = λ none. c.in_ok-product.ensures.lists (c.loop-index.invariant.unlisted none);
      quiet = omega (arith, c.loop-index.invariant.quiet, c.in_ok-product.ensures.counts.quiet (λ is. cc));
      count = rw (c.in_ok-put_by_number.ensures.placed, placed_length product_number product earlier, c.loop-index.invariant.count) refl;
      sound = rw c.in_ok-put_by_number.ensures.placed (placed_numbered product_number is_product product earlier
          c.loop-index.invariant.sound c.in_ok-product.ensures.sound fresh);
    }
