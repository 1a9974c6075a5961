-- The products of a site.
use Rattle.std.specs.Prelude.{ℕ, ◌&&◌, Bool}
use Rattle.farm_fixed.specs.Range.{is_between}
use Rattle.farm_site.specs.declared.items.Product.{Product}
use Rattle.farm_site.specs.Limits.{most_number}
use Rattle.farm_site.specs.Names.{is_name}

-- the number of a product
abbrev pub product_number : Product → ℕ
product_number product = product.number

-- a product has a number and a name; its factors are a grid by their own type
abbrev pub is_product : Product → Bool
is_product product = is_between 1 most_number product.number && is_name product.name
