-- Reading the items of a site from left to right. A reader gives an item and the bytes after it, and `BadSite` where bytes begin with
-- no such item.
use Rattle.std.specs.Prelude.{ℕ, ◌*◌, ◌==◌, ◌&&◌, ◌||◌, Bool, true, nat_le, if◌then◌else◌, List, [], ◌∷◌, length, map, Option, None, is_none, Ok, ℤ, pos}
use Rattle.std.specs.Int.{w16, w32, w64}
use Rattle.std.specs.Int.RustNames.{int_lt}
use Rattle.farm_fixed.specs.Range.{is_within, is_between}
use Rattle.farm_fixed.specs.declared.records.Amount.{Amount}
use Rattle.farm_fixed.specs.declared.records.Shell.{Shell}
use Rattle.farm_fixed.specs.Limits.{least_density, least_factor, least_temperature, most_density, most_factor, most_height, most_temperature}
use Rattle.farm_rounding.specs.declared.mode.Mode.{Mode}
use Rattle.farm_rounding.specs.declared.mode.Mode.TheVariants.{HalfAway, TowardZero, HalfEven}
use Rattle.farm_rounding.specs.RowNumbers.{rounding_rows}
use Rattle.farm_rounding.specs.Table.{Row, first_bad_row}
use Rattle.farm_vcf.specs.Grid.{Grid, grid_from, is_full}
use Rattle.gauge_maps.specs.declared.map.Field.{Field}
use Rattle.gauge_maps.specs.declared.map.GaugeMap.{GaugeMap}
use Rattle.gauge_maps.specs.declared.map.LineMap.{LineMap}
use Rattle.gauge_maps.specs.declared.map.Valid.{Valid}
use Rattle.farm_site.specs.declared.formats.Format.{Format}
use Rattle.farm_site.specs.declared.formats.Format.TheVariants.{One, Two}
use Rattle.farm_site.specs.declared.items.Party.{Party}
use Rattle.farm_site.specs.declared.items.Product.{Product}
use Rattle.farm_site.specs.declared.items.Tank.{Tank}
use Rattle.farm_site.specs.Formats.{format_of}
use Rattle.farm_site.specs.Limits.{most_format}
use Rattle.farm_site.specs.Facts.{are_parties, are_products, are_tanks}
use Rattle.farm_site.specs.Names.{is_name}
use Rattle.farm_site.specs.Products.{product_number}
use Rattle.farm_site.specs.Tanks.{tank_number}
use Rattle.farm_site.specs.Lines.{are_lines}
use Rattle.strap_table.specs.declared.tank.Roof.{Roof}
use Rattle.strap_table.specs.declared.tank.TankSpec.{TankSpec}
use Rattle.strap_table.specs.Faults.{first_fault}
use Rattle.site_decoding.specs.ByteReaders.{Reader, then_at, ◌▸◌, made_at, tested_at, byte_at, byte_up_to, flag_at, number_at, natural_at, signed_at, text_at, option_at, counted_at, short_list_at, list_at}
use Rattle.site_decoding.specs.declared.decoding.gauges.Fields.{Fields}
use Rattle.gauge_maps.specs.declared.request.Request.{Request}

-- The head.

-- the format of a site, by its number
unfoldable pub format_at : Reader Format
format_at = made_at format_of (tested_at (is_between 1 most_format) byte_at)

-- a name of the site, of a product or of a party
unfoldable pub name_at : Reader (List ℕ)
name_at = tested_at is_name text_at

-- the last of the modes that a format has: format 2 alone has half to even
abbrev pub most_mode_byte : Format → ℕ
most_mode_byte One = 1
most_mode_byte Two = 2

-- how a quotient is rounded, by the byte of a mode: 0, 1 or 2
abbrev pub mode_of : ℕ → Mode
mode_of byte = if byte == 0 then HalfAway else if byte == 1 then TowardZero else HalfEven

-- a mode of a format
unfoldable pub mode_at : Format → Reader Mode
mode_at format = made_at mode_of (byte_up_to (most_mode_byte format))

-- a row of the rounding table
unfoldable pub row_at : Format → Reader Row
row_at format = byte_at ▸ mode_at format

-- the rounding table
unfoldable pub rounding_at : Format → Reader (List Row)
rounding_at format = tested_at (λ rows. is_none (first_bad_row 1 rows)) (counted_at (row_at format) rounding_rows)

-- the head of a site: its format, and by it the name and the rounding table
unfoldable pub head_at : Reader (Format × (List ℕ × List Row))
head_at = then_at format_at (λ format. name_at ▸ rounding_at format)

-- Products and parties.

-- a density
unfoldable pub density_at : Reader ℤ
density_at = tested_at (is_within least_density most_density) (natural_at w16)

-- a temperature
unfoldable pub temperature_at : Reader ℤ
temperature_at = tested_at (is_within least_temperature most_temperature) (signed_at w16)

-- a factor
unfoldable pub factor_at : Reader ℤ
factor_at = tested_at (is_within least_factor most_factor) (natural_at w32)

-- each number is above the one before
abbrev pub rises_above : ℤ → List ℤ → Bool
rises_above before [] = true
rises_above before (number ∷ numbers) = int_lt before number && rises_above number numbers

-- the same of a whole list, whose first number has none before it
abbrev pub rises : List ℤ → Bool
rises [] = true
rises (number ∷ numbers) = rises_above number numbers

-- densities and temperatures rise, and there is a factor for each
unfoldable pub is_grid : Grid → Bool
is_grid grid =
    rises grid.densities && rises grid.temperatures && is_full (length grid.densities) (length grid.temperatures) (length grid.factors)

-- the factors of a product
unfoldable pub grid_at : Reader Grid
grid_at =
    tested_at is_grid (made_at (λ lists. grid_from lists.0.0 lists.0.1 lists.1)
    (then_at (list_at w32 density_at ▸ list_at w32 temperature_at) (λ lists. counted_at factor_at (length lists.0 * length lists.1))))

-- a product
unfoldable pub product_at : Reader Product
product_at = made_at (λ f. record { number = f.0; name = f.1.0; vcf = f.1.1 }) (number_at w16 ▸ text_at ▸ grid_at)

-- the products of a site
unfoldable pub products_at : Reader (List Product)
products_at = tested_at are_products (short_list_at product_at)

-- a party
unfoldable pub party_at : Reader Party
party_at = made_at (λ f. record { number = f.0; name = f.1 }) (number_at w16 ▸ text_at)

-- the parties of a site
unfoldable pub parties_at : Reader (List Party)
parties_at = tested_at are_parties (list_at w16 party_at)

-- Tanks.

-- a height
unfoldable pub height_at : Reader ℤ
height_at = tested_at (is_within (pos 0) most_height) (natural_at w16)

-- a shell
unfoldable pub shell_at : Reader Shell
shell_at = made_at (λ f. record { insulated = f.0; coefficient = f.1.0; reference = f.1.1 }) (flag_at ▸ natural_at w16 ▸ temperature_at)

-- the reference density of a roof that may have one, which format 2 alone has
abbrev pub reference_at : Format → Reader (Option ℤ)
reference_at One bytes = Ok (None, bytes)
reference_at Two bytes = option_at density_at bytes

-- a roof
unfoldable pub roof_at : Format → Reader Roof
roof_at format =
    made_at (λ f. record { mass = f.0; low = f.1.0; high = f.1.1.0; reference = f.1.1.1 })
    (natural_at w32 ▸ height_at ▸ height_at ▸ reference_at format)

-- what is fixed of a tank
unfoldable pub spec_at : Format → Reader TankSpec
spec_at format = made_at (λ f. record { shell = f.0; height = f.1.0; roof = f.1.1 }) (shell_at ▸ height_at ▸ option_at (roof_at format))

-- a capacity table
unfoldable pub table_at : Reader (List ℤ)
table_at = tested_at (λ rows. is_none (first_fault rows)) (list_at w16 (natural_at w32))

-- an opening stock
unfoldable pub amount_at : Reader Amount
amount_at = made_at (λ f. record { litres = f.0; kg = f.1 }) (signed_at w64 ▸ signed_at w64)

-- a tank
unfoldable pub tank_at : Format → Reader Tank
tank_at format =
    made_at (λ f. record { number = f.0; product = f.1.0; spec = f.1.1.0; table = f.1.1.1.0; opening = f.1.1.1.1 })
    (number_at w16 ▸ number_at w16 ▸ spec_at format ▸ table_at ▸ amount_at)

-- the tanks of a site, each of one of these products
unfoldable pub tanks_at : Format → List Product → Reader (List Tank)
tanks_at format products = tested_at (are_tanks (map product_number products)) (short_list_at (tank_at format))

-- Gauge lines.

-- how the words of a field are read: whether they are swapped, and whether the number is signed
unfoldable pub flags_at : Reader (Bool × Bool)
flags_at = made_at (λ flags. (flags == 1 || flags == 3, nat_le 2 flags)) (byte_up_to 3)

-- a field
unfoldable pub field_at : Reader Field
field_at =
    made_at (λ f. record { offset = f.0; words = f.1.0; swapped = f.1.1.0.0; signed = f.1.1.0.1; mul = f.1.1.1.0; div = f.1.1.1.1 })
    (byte_at ▸ byte_at ▸ flags_at ▸ number_at w32 ▸ number_at w32)

-- the bit of a valid reading
unfoldable pub valid_at : Reader Valid
valid_at = made_at (λ f. record { offset = f.0; bit = f.1 }) (byte_at ▸ byte_at)

-- what is read of a device
unfoldable pub request_at : Reader Request
request_at = made_at (λ f. record { unit = f.0; function = f.1.0; start = f.1.1.0; quantity = f.1.1.1 }) (byte_at ▸ byte_at ▸ number_at w16 ▸ byte_at)

-- the fields of a gauge
unfoldable pub fields_at : Reader Fields
fields_at =
    made_at (λ f. record { level = f.0; temperature = f.1.0; water = f.1.1.0; ambient = f.1.1.1 })
    (field_at ▸ field_at ▸ option_at field_at ▸ option_at field_at)

-- the gauge of its parts
abbrev pub gauge_of : ℕ × (Request × (Fields × (ℤ × (Option Valid × (ℕ × ℕ))))) → GaugeMap
gauge_of f = record {
  tank = f.0;
  unit = f.1.0.unit;
  function = f.1.0.function;
  start = f.1.0.start;
  quantity = f.1.0.quantity;
  level = f.1.1.0.level;
  temperature = f.1.1.0.temperature;
  water = f.1.1.0.water;
  ambient = f.1.1.0.ambient;
  ambient_fixed = f.1.1.1.0;
  valid = f.1.1.1.1.0;
  deadband_mm = f.1.1.1.1.1.0;
  deadband_centi = f.1.1.1.1.1.1;
}

-- a gauge
unfoldable pub gauge_at : Reader GaugeMap
gauge_at = made_at gauge_of (number_at w16 ▸ request_at ▸ fields_at ▸ signed_at w16 ▸ option_at valid_at ▸ number_at w16 ▸ number_at w16)

-- a line
unfoldable pub line_at : Reader LineMap
line_at = made_at (λ f. record { host = f.0; port = f.1.0; gauges = f.1.1 }) (text_at ▸ number_at w16 ▸ short_list_at gauge_at)

-- the gauge lines of a site, whose gauges are on these tanks
unfoldable pub lines_at : List Tank → Reader (List LineMap)
lines_at tanks = tested_at (are_lines (map tank_number tanks)) (short_list_at line_at)
