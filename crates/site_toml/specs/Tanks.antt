-- The tanks of a site, each with its capacity table.
use Rattle.std.specs.Prelude.{ℕ, Bool, true, false, List, [], map, codes, Result, Ok, ℤ, neg_ℤ}
use Rattle.farm_base.specs.Steps.{◌>>=◌}
use Rattle.farm_fixed.specs.declared.records.Amount.{Amount}
use Rattle.farm_ports.specs.Folders.{File}
use Rattle.farm_rounding.specs.Table.{Row}
use Rattle.site_keys.specs.Codes.{code_of_field}
use Rattle.site_keys.specs.declared.fault.SiteFault.{SiteFault}
use Rattle.farm_site.specs.Limits.{most_stock, most_tanks}
use Rattle.farm_site.specs.Tanks.{tank_number}
use Rattle.site_keys.specs.Faults.{Refusal, bad, found}
use Rattle.site_keys.specs.Files.{content}
use Rattle.site_keys.specs.Keys.{Keys, has, text_at, whole_at}
use Rattle.site_keys.specs.Lists.{list_at, numbered_from, own_number, reference_at}
use Rattle.site_tables.specs.Strappings.{strapped_file}
use Rattle.site_tables.specs.Tables.{table_of_file}
use Rattle.farm_site.specs.declared.formats.Format.{Format}
use Rattle.farm_site.specs.declared.items.Tank.{Tank}
use Rattle.site_toml.specs.Shells.{spec_at}

-- whether a tank is strapped: it has one of two files
abbrev pub is_strapped : ℕ → Bool → Bool → Result Bool SiteFault
is_strapped item true true = bad code_of_field item 0
is_strapped item true false = Ok false
is_strapped item false true = Ok true
is_strapped item false false = bad code_of_field item 0

-- the key of the file of a tank
abbrev pub file_key : Bool → List ℕ
file_key true = codes "strapping"
file_key false = codes "table"

-- a stock, in litres or kilograms
unfoldable pub stock_at : Keys → List ℕ → Result ℤ SiteFault
stock_at keys key = whole_at keys key (neg_ℤ most_stock) most_stock

-- the opening stock
unfoldable pub opening_at : Keys → Result Amount SiteFault
opening_at keys = do
  litres ← stock_at keys (codes "opening_litres")
  kg ← stock_at keys (codes "opening_kg")
  Ok (record { litres = litres; kg = kg })

-- the capacity table of a file
abbrev pub table_in : ℕ → List Row → Bool → List ℕ → Result (List ℤ) SiteFault
table_in item rounding true bytes = strapped_file item rounding bytes
table_in item rounding false bytes = table_of_file item bytes

-- a tank of a table, after others
unfoldable pub tank_of : List File → Format → List Row → List ℕ → List Tank → Keys → Result Tank Refusal
tank_of files format rounding products earlier keys = do
  number ← found (own_number (map tank_number earlier) keys)
  product ← found (reference_at keys (codes "product") products)
  spec ← found (spec_at format keys)
  strapped ← found (is_strapped keys.item (has keys (codes "table")) (has keys (codes "strapping")))
  file ← found (text_at keys (file_key strapped))
  opening ← found (opening_at keys)
  bytes ← content files keys.item file
  table ← found (table_in keys.item rounding strapped bytes)
  Ok (record { number = number; product = product; spec = spec; table = table; opening = opening })

-- the tanks, from 1 to 64
unfoldable pub tanks_of : List File → Format → List Row → List ℕ → Keys → Result (List Tank) Refusal
tanks_of files format rounding products top = do
  tables ← found (list_at 1 most_tanks top (codes "tank"))
  numbered_from tank_number (tank_of files format rounding products) 1 [] tables
