-- The five parts of a site, and what each is read as.
use Rattle.std.specs.Prelude.{◌≡◌, ℕ, All, Bool, false, IsTrue, List, ◌∷◌, ◌++◌}
use Rattle.std.specs.Int.{w16}
use Rattle.std.specs.List.{flat_map}
use Rattle.farm_rounding.specs.Table.{IsTable, Row}
use Rattle.farm_site.specs.declared.formats.Format.{Format}
use Rattle.farm_site.specs.declared.formats.Format.TheVariants.{One, Two}
use Rattle.farm_site.specs.declared.items.Product.{Product}
use Rattle.farm_site.specs.declared.items.Tank.{Tank}
use Rattle.farm_site.specs.Facts.{are_products, are_tanks}
use Rattle.farm_site.specs.Formats.{format_number, includes_roof, rounds_to_even}
use Rattle.farm_site.specs.Names.{is_name}
use Rattle.site_decoding.specs.Decoding.{head_at, lines_at, parties_at, products_at, tanks_at}
use Rattle.site_encoding.specs.Encoding.{line_bytes, list_bytes, party_bytes, product_bytes, row_bytes, short_list_bytes, tank_bytes, text_bytes}
use Rattle.site_decoding.specs.Readers.{IsReader}
use Rattle.farm_site.specs.Described.{AreLines, AreParties, AreProducts, AreTanks}

-- whether something is said that format 2 alone can say: in format 1 it isn't
abbrev pub IsSaidIn : Format → Bool → Type 0
IsSaidIn One said = said ≡ false
IsSaidIn Two said = Unit {0}

-- a row of the rounding table that a format can say
abbrev pub IsRowIn : Format → Row → Type 0
IsRowIn format row = IsSaidIn format (rounds_to_even row)

-- a tank that a format can say
abbrev pub IsTankIn : Format → Tank → Type 0
IsTankIn format tank = IsSaidIn format (includes_roof tank)

-- a rounding table that a format can say
abbrev pub IsTableIn : Format → List Row → Type 0
IsTableIn format rows = IsTable rows × All (IsRowIn format) rows

-- tanks that a site with these products may have, and that a format can say
abbrev pub AreTanksIn : Format → List Product → List Tank → Type 0
AreTanksIn format products tanks = AreTanks products tanks × All (IsTankIn format) tanks

-- a head has a format, a name and a rounding table
abbrev pub IsHead : Format × (List ℕ × List Row) → Type 0
IsHead head = IsTrue (is_name head.1.0) × IsTableIn head.0 head.1.1

-- the bytes of a head: the number of the format, the name and the rounding table
abbrev pub head_bytes : Format × (List ℕ × List Row) → List ℕ
head_bytes head = (format_number head.0 ∷ text_bytes head.1.0) ++ flat_map row_bytes head.1.1

-- the head is read from its bytes and from no others
abbrev pub HeadsAreRead : Type 0
HeadsAreRead = IsReader IsHead head_bytes head_at

-- so are products
abbrev pub ProductsAreRead : Type 0
ProductsAreRead = IsReader AreProducts (short_list_bytes product_bytes) products_at

-- and parties
abbrev pub PartiesAreRead : Type 0
PartiesAreRead = IsReader AreParties (list_bytes w16 party_bytes) parties_at

-- and tanks, in each format
abbrev pub TanksAreRead : Type 0
TanksAreRead =
    (format : Format) (products : List Product) → IsTrue (are_products products) →
    IsReader (AreTanksIn format products) (short_list_bytes (tank_bytes format)) (tanks_at format products)

-- and gauge lines
abbrev pub LinesAreRead : Type 0
LinesAreRead =
    (products : List ℕ) (tanks : List Tank) → IsTrue (are_tanks products tanks) → IsReader (AreLines tanks) (short_list_bytes line_bytes) (lines_at tanks)
