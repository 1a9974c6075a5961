-- The bytes of a site and of its items. Numbers of several bytes are high byte first, signed ones in two's complement.
use Rattle.std.specs.Prelude.{ℕ, ◌+◌, Bool, true, false, List, [], ◌∷◌, ◌++◌, length, Option, Some, None, ℤ}
use Rattle.std.specs.Int.{Width, cast_unsigned, to_be_bytes, w16, w32, w64}
use Rattle.std.specs.Int.RustNames.{unsigned_abs}
use Rattle.std.specs.List.{flat_map}
use Rattle.farm_fixed.specs.declared.records.Amount.{Amount}
use Rattle.farm_fixed.specs.declared.records.Shell.{Shell}
use Rattle.farm_rounding.specs.declared.mode.Mode.{Mode}
use Rattle.farm_rounding.specs.declared.mode.Mode.TheVariants.{HalfAway, TowardZero, HalfEven}
use Rattle.farm_rounding.specs.Table.{Row}
use Rattle.farm_vcf.specs.Grid.{Grid}
use Rattle.gauge_maps.specs.declared.map.Field.{Field}
use Rattle.gauge_maps.specs.declared.map.GaugeMap.{GaugeMap}
use Rattle.gauge_maps.specs.declared.map.LineMap.{LineMap}
use Rattle.gauge_maps.specs.declared.map.Valid.{Valid}
use Rattle.farm_site.specs.declared.formats.Format.{Format}
use Rattle.farm_site.specs.declared.formats.Format.TheVariants.{One, Two}
use Rattle.farm_site.specs.declared.items.Party.{Party}
use Rattle.farm_site.specs.declared.items.Product.{Product}
use Rattle.farm_site.specs.declared.items.Tank.{Tank}
use Rattle.strap_table.specs.declared.tank.Roof.{Roof}
use Rattle.farm_site.specs.Described.{Described}
use Rattle.farm_site.specs.Formats.{format_needed, format_number}

-- a number that isn't below 0
abbrev pub natural_bytes : Width → ℤ → List ℕ
natural_bytes w number = to_be_bytes w (unsigned_abs number)

-- a signed number
abbrev pub signed_bytes : Width → ℤ → List ℕ
signed_bytes w number = to_be_bytes w (cast_unsigned w number)

-- yes is 1, no is 0
abbrev pub flag_byte : Bool → ℕ
flag_byte false = 0
flag_byte true = 1

-- a text: its length, one byte, and its bytes
abbrev pub text_bytes : List ℕ → List ℕ
text_bytes text = length text ∷ text

-- a thing that may be missing: 0, or 1 and the thing
abbrev pub option_bytes : {A : Type 0} → (A → List ℕ) → Option A → List ℕ
option_bytes item None = 0 ∷ []
option_bytes item (Some thing) = 1 ∷ item thing

-- a list after its count of one byte
abbrev pub short_list_bytes : {A : Type 0} → (A → List ℕ) → List A → List ℕ
short_list_bytes item items = length items ∷ flat_map item items

-- a list after its count of several bytes
abbrev pub list_bytes : {A : Type 0} → Width → (A → List ℕ) → List A → List ℕ
list_bytes w item items = to_be_bytes w (length items) ++ flat_map item items

-- half away from zero is 0, toward zero is 1, half to even is 2
abbrev pub mode_byte : Mode → ℕ
mode_byte HalfAway = 0
mode_byte TowardZero = 1
mode_byte HalfEven = 2

-- a row of the rounding table: its step and its mode
abbrev pub row_bytes : Row → List ℕ
row_bytes row = row.0 ∷ mode_byte row.1 ∷ []

-- the factors of a product: densities and temperatures after their counts, and the factors by density and then temperature
unfoldable pub grid_bytes : Grid → List ℕ
grid_bytes grid =
    list_bytes w32 (natural_bytes w16) grid.densities ++ list_bytes w32 (signed_bytes w16) grid.temperatures
    ++ flat_map (natural_bytes w32) grid.factors

-- a product: its number, its name and its factors
unfoldable pub product_bytes : Product → List ℕ
product_bytes product = to_be_bytes w16 product.number ++ text_bytes product.name ++ grid_bytes product.vcf

-- a party: its number and its name
unfoldable pub party_bytes : Party → List ℕ
party_bytes party = to_be_bytes w16 party.number ++ text_bytes party.name

-- a shell: whether it is insulated, its expansion and its reference temperature
unfoldable pub shell_bytes : Shell → List ℕ
shell_bytes shell = flag_byte shell.insulated ∷ natural_bytes w16 shell.coefficient ++ signed_bytes w16 shell.reference

-- the reference density of a roof that may have one, which format 2 alone has
abbrev pub reference_bytes : Format → Option ℤ → List ℕ
reference_bytes One reference = []
reference_bytes Two reference = option_bytes (natural_bytes w16) reference

-- a roof: its mass, the low and the high end of its zone, and its reference density
unfoldable pub roof_bytes : Format → Roof → List ℕ
roof_bytes format roof =
    natural_bytes w32 roof.mass ++ natural_bytes w16 roof.low ++ natural_bytes w16 roof.high ++ reference_bytes format roof.reference

-- an opening stock: litres and kilograms
unfoldable pub amount_bytes : Amount → List ℕ
amount_bytes amount = signed_bytes w64 amount.litres ++ signed_bytes w64 amount.kg

-- a tank: its number, its product, its shell, its reference height, its roof, the rows of its table and its opening stock
unfoldable pub tank_bytes : Format → Tank → List ℕ
tank_bytes format tank =
    to_be_bytes w16 tank.number ++ to_be_bytes w16 tank.product ++ shell_bytes tank.spec.shell ++ natural_bytes w16 tank.spec.height
    ++ option_bytes (roof_bytes format) tank.spec.roof ++ list_bytes w16 (natural_bytes w32) tank.table ++ amount_bytes tank.opening

-- how the words of a field are read: 1 where they are swapped, 2 where the number is signed, and their sum
abbrev pub field_flags : Field → ℕ
field_flags field = flag_byte field.swapped + (flag_byte field.signed + flag_byte field.signed)

-- a field: its first register, its words, how they are read, and by what they are multiplied and divided
unfoldable pub field_bytes : Field → List ℕ
field_bytes field = field.offset ∷ field.words ∷ field_flags field ∷ to_be_bytes w32 field.mul ++ to_be_bytes w32 field.div

-- the bit of a valid reading: its register and its number
abbrev pub valid_bytes : Valid → List ℕ
valid_bytes valid = valid.offset ∷ valid.bit ∷ []

-- what is read of a device: unit, function, first register and how many
abbrev pub request_bytes : GaugeMap → List ℕ
request_bytes gauge = gauge.unit ∷ gauge.function ∷ to_be_bytes w16 gauge.start ++ gauge.quantity ∷ []

-- a gauge: its tank, what is read, its fields, its bit of a valid reading and its deadbands
unfoldable pub gauge_bytes : GaugeMap → List ℕ
gauge_bytes gauge =
    to_be_bytes w16 gauge.tank ++ request_bytes gauge ++ field_bytes gauge.level ++ field_bytes gauge.temperature
    ++ option_bytes field_bytes gauge.water ++ option_bytes field_bytes gauge.ambient ++ signed_bytes w16 gauge.ambient_fixed
    ++ option_bytes valid_bytes gauge.valid ++ to_be_bytes w16 gauge.deadband_mm ++ to_be_bytes w16 gauge.deadband_centi

-- a line: its host, its port and its gauges
unfoldable pub line_bytes : LineMap → List ℕ
line_bytes line = text_bytes line.host ++ to_be_bytes w16 line.port ++ short_list_bytes gauge_bytes line.gauges

-- the bytes of a site in a format: its number, the name, how figures are rounded, the products, parties, tanks and gauge lines
unfoldable pub encoding_in : Format → Described → List ℕ
encoding_in format site =
    format_number format ∷ text_bytes site.name ++ flat_map row_bytes site.rounding ++ short_list_bytes product_bytes site.products
    ++ list_bytes w16 party_bytes site.parties ++ short_list_bytes (tank_bytes format) site.tanks ++ short_list_bytes line_bytes site.lines

-- the bytes of a site: those in the format that it needs
unfoldable pub site_encoding : Described → List ℕ
site_encoding site = encoding_in (format_needed site.rounding site.tanks) site
