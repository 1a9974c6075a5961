-- The products of a site, each with its volume correction factors.
use Rattle.std.specs.Prelude.{ℕ, List, [], map, codes, Result, Ok, Err}
use Rattle.farm_base.specs.Steps.{◌>>=◌}
use Rattle.farm_ports.specs.Folders.{File}
use Rattle.farm_vcf.specs.Grid.{Grid}
use Rattle.farm_vcf.specs.Records.{vcf_of}
use Rattle.farm_vcf.specs.Faults.{FactorFault}
use Rattle.farm_vcf.specs.Faults as factors
use Rattle.site_keys.specs.Codes.{code_of_factors, code_of_text}
use Rattle.site_keys.specs.declared.fault.SiteFault.{SiteFault}
use Rattle.farm_site.specs.declared.items.Product.{Product}
use Rattle.farm_site.specs.Products.{product_number}
use Rattle.site_keys.specs.Faults.{Refusal, detail, fault_at, found}
use Rattle.site_keys.specs.Files.{content}
use Rattle.site_keys.specs.Keys.{Keys, text_at}
use Rattle.farm_site.specs.Limits.{most_products}
use Rattle.site_keys.specs.Lists.{list_at, numbered_from, own_number}
use Rattle.site_toml.specs.Names.{name_at}

-- why a factor file is refused
abbrev pub factors_fault : ℕ → FactorFault → SiteFault
factors_fault item factors.Csv = fault_at code_of_text item 0
factors_fault item (factors.BadField row) = fault_at code_of_factors item (detail row)
factors_fault item factors.TooMany = fault_at code_of_factors item 0
factors_fault item (factors.NotGrid row) = fault_at code_of_factors item (detail row)

-- a grid, or why a file is no grid
abbrev pub factors_read : ℕ → Result Grid FactorFault → Result Grid SiteFault
factors_read item (Ok grid) = Ok grid
factors_read item (Err fault) = Err (factors_fault item fault)

-- a product of a table, after others
unfoldable pub product_of : List File → List Product → Keys → Result Product Refusal
product_of files earlier keys = do
  number ← found (own_number (map product_number earlier) keys)
  name ← found (name_at keys)
  file ← found (text_at keys (codes "factors"))
  bytes ← content files keys.item file
  grid ← found (factors_read keys.item (vcf_of bytes))
  Ok (record { number = number; name = name; vcf = grid })

-- the products, from 1 to 16
unfoldable pub products_of : List File → Keys → Result (List Product) Refusal
products_of files top = do
  tables ← found (list_at 1 most_products top (codes "product"))
  numbered_from product_number (product_of files) 1 [] tables
