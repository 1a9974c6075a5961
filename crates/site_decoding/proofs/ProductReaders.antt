-- The readers of products and of parties.
use Rattle.std.proofs.Common.{◌≡◌, ℕ, zero, suc, ◌*◌, ◌^◌, ◌<◌, ◌≤◌, nat_le, Bool, true, List, ◌++◌, length, get_or, refl, ℤ, mul-zero, arith}
use Rattle.std.specs.Prelude.{All, map}
use Rattle.std.specs.Int.{w16, w32, to_be_bytes}
use Rattle.std.specs.List.{flat_map, list_all}
use Rattle.std.proofs.lemmas.List.Sums.{AllPass-from_list_all}
use Rattle.std.proofs.Math.Nat.{mul-le-mul_left}
use Rattle.farm_base.proofs.BoolTests.{and_parts, leb-true}
use Rattle.farm_fixed.specs.Range.{IsWithin, is_between}
use Rattle.farm_fixed.specs.declared.limits.TheConstants.{LEAST_DENSITY, LEAST_FACTOR, LEAST_TEMPERATURE, MOST_DENSITY, MOST_FACTOR, MOST_TEMPERATURE}
use Rattle.farm_vcf.specs.Grid.{Grid, grid_from}
use Rattle.farm_site.specs.declared.items.Party.{Party}
use Rattle.farm_site.specs.declared.items.Product.{Product}
use Rattle.farm_site.specs.Facts.{are_parties, are_products}
use Rattle.farm_site.specs.Names.{is_name}
use Rattle.farm_site.specs.Parties.{is_party, party_number}
use Rattle.farm_site.specs.Products.{is_product, product_number}
use Rattle.farm_site.specs.Numbers.{are_numbered, rises}
use Rattle.site_decoding.specs.Decoding.{grid_at, is_grid, parties_at, party_at, product_at, products_at}
use Rattle.site_encoding.specs.Encoding.{grid_bytes, list_bytes, natural_bytes, party_bytes, product_bytes, short_list_bytes, signed_bytes, text_bytes}
use Rattle.farm_site.specs.Described.{AreParties, AreProducts}
use Rattle.site_decoding.specs.Readers.{IsReader}
use Rattle.farm_site.specs.Typed.{IsTypedGrid, IsTypedProduct}
use Rattle.site_decoding.proofs.Grids.{is_grid-from, is_grid-true}
use Rattle.site_decoding.proofs.HeadReaders.{name_length}
use Rattle.byte_readers.proofs.ListReaders.{AreCounted, all_as, counted_reader}
use Rattle.byte_readers.proofs.NumberReaders.{wide16, wide32}
use Rattle.site_decoding.proofs.ListReaders.{AreListed, list_reader, short_list_reader}
use Rattle.site_decoding.proofs.NumberReaders.{density_reader, factor_reader, number16_reader, temperature_reader, text_reader}
use Rattle.site_decoding.proofs.Readers.{made_reader, reader_as, tested_reader, then_reader}

-- Factors.

-- densities, temperatures and factors
abbrev Lists : Type 0
Lists = (List ℤ × List ℤ) × List ℤ

-- the ranges of the three
abbrev IsDensity : ℤ → Type 0
IsDensity = IsWithin LEAST_DENSITY MOST_DENSITY

-- a temperature of a grid, in 0.01 C
abbrev IsTemperature : ℤ → Type 0
IsTemperature = IsWithin LEAST_TEMPERATURE MOST_TEMPERATURE

-- a factor of a grid, in 0.00001
abbrev IsFactor : ℤ → Type 0
IsFactor = IsWithin LEAST_FACTOR MOST_FACTOR

-- lists that a grid is made of
abbrev FitsLists : Lists → Type 0
FitsLists lists =
    (AreListed IsDensity (2 ^ 32) lists.0.0 × AreListed IsTemperature (2 ^ 32) lists.0.1) × AreCounted IsFactor (length lists.0.0 * length lists.0.1) lists.1

-- a grid of them
abbrev FitsGrid : Grid → Type 0
FitsGrid grid = FitsLists ((grid.densities, grid.temperatures), grid.factors)

-- the bytes of a grid are those of its three lists, one after another
lists_same : (lists : Lists) → grid_bytes (grid_from lists.0.0 lists.0.1 lists.1) ≡
    (list_bytes w32 (natural_bytes w16) lists.0.0 ++ list_bytes w32 (signed_bytes w16) lists.0.1) ++ flat_map (natural_bytes w32) lists.1
unfolding grid_bytes
lists_same lists = refl

-- a side of a grid isn't longer than the grid
side_below : (side other all : ℕ) → all ≡ side * other → 1 ≤ all → side ≤ all
side_below side zero all product some = absurd (omega (arith, mul-zero side))
side_below side (suc other) all product some =
    let least : 1 ≤ suc other = omega arith in
    omega (arith, mul-le-mul_left side least)

-- a grid's lists are short
grid_fits : (grid : Grid) → IsTypedGrid grid → FitsGrid grid
grid_fits grid h =
    let d = length grid.densities in
    let t = length grid.temperatures in
    let turned : length grid.factors ≡ t * d = omega (arith, h.is_grid.one_for_each) in
    let densities = side_below d t (length grid.factors) h.is_grid.one_for_each h.is_grid.some in
    let temperatures = side_below t d (length grid.factors) turned h.is_grid.some in
    let most = h.is_grid.not_too_many in
    (((omega (arith, densities, most), h.densities), (omega (arith, temperatures, most), h.temperatures)), (h.is_grid.one_for_each, h.factors))

-- factors
pub grid_reader : IsReader IsTypedGrid grid_bytes grid_at
unfolding grid_at
grid_reader =
    reader_as
    (tested_reader is_grid
    (made_reader
    (then_reader
    (then_reader (list_reader w32 (2 ^ 32) wide32 density_reader) (λ densities h. list_reader w32 (2 ^ 32) wide32 temperature_reader))
    (λ lists h. counted_reader factor_reader (length lists.0 * length lists.1)))
    (record {
      to = λ lists h. h;
      same = λ lists h. lists_same lists;
      of = λ grid. ((grid.densities, grid.temperatures), grid.factors);
      back = λ grid h. refl;
      of_fits = λ grid h. h;
    })))
    (λ grid h. record { is_grid = is_grid-true grid h.1; densities = h.0.0.0.1; temperatures = h.0.0.1.1; factors = h.0.1.1 })
    (λ grid h. (grid_fits grid h, is_grid-from grid h.is_grid))

-- Products.

-- the fields of a product are of their types
abbrev FitsProduct : Product → Type 0
FitsProduct product = (product.number < 2 ^ 16) × ((length product.name < 2 ^ 8) × IsTypedGrid product.vcf)

-- the bytes of a product are those of its number, its name and its grid, one after another
product_same : (number : ℕ) (name : List ℕ) (grid : Grid) →
    product_bytes (record { number = number; name = name; vcf = grid }) ≡ to_be_bytes w16 number ++ (text_bytes name ++ grid_bytes grid)
unfolding product_bytes
product_same number name grid = refl

-- products
product_reader : IsReader FitsProduct product_bytes product_at
unfolding product_at
product_reader =
    made_reader (then_reader number16_reader (λ number h. then_reader text_reader (λ name i. grid_reader))) (record {
      to = λ f h. h;
      same = λ f h. product_same f.0 f.1.0 f.1.1;
      of = λ product. (product.number, (product.name, product.vcf));
      back = λ product h. refl;
      of_fits = λ product h. h;
    })

-- a number of an item is of two bytes
pub number_small : (n : ℕ) → is_between 1 65535 n ≡ true → n < 2 ^ 16
number_small n test = let most = leb-true n 65535 (and_parts (nat_le 1 n) (nat_le n 65535) test).1 in omega (arith, most)

-- a product that a site may have
product_fits : (product : Product) → is_product product ≡ true → IsTypedProduct product → FitsProduct product
product_fits product sound typed =
    let parts = and_parts (is_between 1 65535 product.number) (is_name product.name) sound in
    (number_small product.number parts.0, (omega (arith, name_length product.name parts.1), typed))

-- items that are sound, each as it is read
pub items_fit : {A : Type 0} (sound : A → Bool) (typed fits : A → Type 0) (items : List A) → list_all sound items ≡ true → All typed items →
    ((item : A) → sound item ≡ true → typed item → fits item) → All fits items
items_fit sound typed fits items all each so k d within = so (get_or items k d) (AllPass-from_list_all sound items all k d within) (each k d within)

-- each of numbered items is sound
pub numbered_sound : {A : Type 0} (number : A → ℕ) (sound : A → Bool) (items : List A) → are_numbered number sound items ≡ true → list_all sound items ≡ true
numbered_sound number sound items test = (and_parts (list_all sound items) (rises (map number items)) test).0

-- the products of a site
pub products_reader : IsReader AreProducts (short_list_bytes product_bytes) products_at
unfolding products_at
products_reader =
    reader_as (tested_reader are_products (short_list_reader product_reader))
    (λ products h. (h.1, all_as FitsProduct IsTypedProduct products (λ product f. f.1.1) h.0.1))
    (λ products h.
    let parts = and_parts (is_between 1 16 (length products)) (are_numbered product_number is_product products) h.0 in
    let few = leb-true (length products) 16 (and_parts (nat_le 1 (length products)) (nat_le (length products) 16) parts.0).1 in
    let sound = numbered_sound product_number is_product products parts.1 in
    ((omega (arith, few), items_fit is_product IsTypedProduct FitsProduct products sound h.1 product_fits), h.0))

-- Parties.

-- the fields of a party are of their types
abbrev FitsParty : Party → Type 0
FitsParty party = (party.number < 2 ^ 16) × (length party.name < 2 ^ 8)

-- the bytes of a party are those of its number and its name, one after another
party_same : (number : ℕ) (name : List ℕ) → party_bytes (record { number = number; name = name }) ≡ to_be_bytes w16 number ++ text_bytes name
unfolding party_bytes
party_same number name = refl

-- parties
party_reader : IsReader FitsParty party_bytes party_at
unfolding party_at
party_reader =
    made_reader (then_reader number16_reader (λ number h. text_reader)) (record {
      to = λ f h. h;
      same = λ f h. party_same f.0 f.1;
      of = λ party. (party.number, party.name);
      back = λ party h. refl;
      of_fits = λ party h. h;
    })

-- a party that a site may have
party_fits : (party : Party) → is_party party ≡ true → Unit {0} → FitsParty party
party_fits party sound any =
    let parts = and_parts (is_between 1 65535 party.number) (is_name party.name) sound in
    (number_small party.number parts.0, omega (arith, name_length party.name parts.1))

-- the parties of a site
pub parties_reader : IsReader AreParties (list_bytes w16 party_bytes) parties_at
unfolding parties_at
parties_reader =
    reader_as (tested_reader are_parties (list_reader w16 (2 ^ 16) wide16 party_reader))
    (λ parties h. h.1)
    (λ parties h.
    let parts = and_parts (nat_le (length parties) 256) (are_numbered party_number is_party parties) h in
    let few = leb-true (length parties) 256 parts.0 in
    let sound = numbered_sound party_number is_party parties parts.1 in
    ((omega (arith, few), items_fit is_party (λ party. Unit {0}) FitsParty parties sound (λ k d within. tt) party_fits), h))
