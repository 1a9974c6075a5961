-- The invariants of the loops of `products_in`.
use Rattle.std.proofs.Common.{◌≡◌, ◌+◌, true, List, [], Some, drop, length, map}
use Rattle.toml.specs.View.{view}
use Rattle.farm_base.specs.Known.{Stays}
use Rattle.farm_ports.specs.Folders.{File}
use Rattle.farm_site.specs.Numbers.{are_numbered}
use Rattle.site_keys.specs.Lists.{numbered_from}
use Rattle.farm_site.specs.Products.{is_product, product_number}
use Rattle.site_toml.specs.Products.{product_of}
use Rattle.site_toml.proofs.products.products_in.Given as goal

abbrev pub invariant-loop-index : goal.invariant-loop-index
invariant-loop-index g l = record {
  read : (files : List File) → g.F.Folder.files l.folder ≡ Some files → numbered_from product_number (product_of files) (l.index + 1) l.products.items (map view (drop l.index l.tables)) ≡ numbered_from product_number (product_of files) 1 [] (map view l.tables);
  stays : Stays (g.F.Folder.files l.fn.folder) (g.F.Folder.files l.folder);
  unlisted : g.F.Folder.lists_no_failure l.fn.folder → g.F.Folder.lists_no_failure l.folder;
  quiet : g.F.Folder.faults l.folder ≡ g.F.Folder.faults l.fn.folder;
  count : length l.products.items ≡ l.index;
  sound : are_numbered product_number is_product l.products.items ≡ true;
}
