-- The site that files describe, or why they describe none. The files are looked at in the order of this definition.
use Rattle.std.specs.Prelude.{List, map, codes, Result, Ok}
use Rattle.farm_base.specs.Steps.{◌>>=◌}
use Rattle.farm_ports.specs.Folders.{File}
use Rattle.farm_site.specs.Described.{Described}
use Rattle.farm_site.specs.Products.{product_number}
use Rattle.farm_site.specs.Tanks.{tank_number}
use Rattle.site_keys.specs.Faults.{Refusal, found}
use Rattle.site_keys.specs.Files.{content, toml_of}
use Rattle.site_keys.specs.Keys.{Keys}
use Rattle.site_lines.specs.Lines.{lines_of}
use Rattle.site_toml.specs.Formats.{format_at}
use Rattle.site_toml.specs.Names.{name_at}
use Rattle.site_toml.specs.Parties.{parties_of}
use Rattle.site_toml.specs.Products.{products_of}
use Rattle.site_toml.specs.Rounding.{rounding_at}
use Rattle.site_toml.specs.Tanks.{tanks_of}

-- the site of the keys of a site file
unfoldable pub site_of_keys : List File → Keys → Result Described Refusal
site_of_keys files top = do
  format ← found (format_at top)
  name ← found (name_at top)
  rounding ← found (rounding_at format top)
  products ← products_of files top
  parties ← found (parties_of top)
  tanks ← tanks_of files format rounding (map product_number products) top
  lines ← found (lines_of (map tank_number tanks) top)
  Ok (record { name = name; rounding = rounding; products = products; parties = parties; tanks = tanks; lines = lines })

-- the keys of the site file
unfoldable pub top_of_files : List File → Result Keys Refusal
top_of_files files = do
  bytes ← content files 0 (codes "site.toml")
  found (toml_of 0 bytes)

-- the site of the files of a folder: the site, or the first fault in them, or the name of the expected file that is missing
unfoldable pub site_of_files : List File → Result Described Refusal
site_of_files files = do
  top ← top_of_files files
  site_of_keys files top
