-- The reader of tanks.
use Rattle.std.proofs.Common.{Ok, ◌≡◌, ℕ, ◌^◌, ◌<◌, ◌&&◌, ◌==◌, nat_le, Bool, true, false, List, [], ◌∷◌, ◌++◌, length, get_or, map, Option, Some, None, refl, subst, append_assoc, ℤ, pos, negsuc, arith}
use Rattle.std.specs.Prelude.{All, is_none, is_some, IfSome, IsTrue}
use Rattle.std.specs.Int.{w16, w32, w64, to_be_bytes}
use Rattle.std.specs.Int.RustNames.{FitsSigned}
use Rattle.std.specs.List.{list_all}
use Rattle.std.proofs.lemmas.Bool.{eqb-true}
use Rattle.std.proofs.lemmas.Int.{ints}
use Rattle.std.proofs.lemmas.List.{get_or_default}
use Rattle.farm_base.proofs.BoolTests.{and_parts, leb-true}
use Rattle.farm_fixed.specs.declared.records.Amount.{Amount}
use Rattle.farm_fixed.specs.declared.records.Shell.{Shell}
use Rattle.farm_fixed.specs.Range.{IsWithin, is_within, is_between}
use Rattle.farm_fixed.proofs.ParsingLaws.{is_within-true}
use Rattle.farm_fixed.specs.declared.limits.TheConstants.{LEAST_DENSITY, LEAST_TEMPERATURE, MOST_DENSITY, MOST_HEIGHT, MOST_TEMPERATURE}
use Rattle.farm_site.specs.declared.formats.Format.{Format}
use Rattle.farm_site.specs.declared.formats.Format.TheVariants.{One, Two}
use Rattle.farm_site.specs.declared.items.Product.{Product}
use Rattle.farm_site.specs.declared.items.Tank.{Tank}
use Rattle.farm_site.specs.Facts.{are_products, are_tanks}
use Rattle.farm_site.specs.Formats.{has_reference}
use Rattle.farm_site.specs.Products.{is_product, product_number}
use Rattle.farm_site.specs.Names.{is_name}
use Rattle.farm_site.specs.Tanks.{is_roof, is_spec, is_opening, is_stock, is_tank, tank_number}
use Rattle.farm_site.proofs.TankParts.{coefficient_within, product_there, roof_is, spec_is}
use Rattle.farm_site.specs.Numbers.{are_numbered, is_among}
use Rattle.strap_table.specs.declared.faults.TableFault.{TableFault}
use Rattle.strap_table.specs.declared.tank.Roof.{Roof}
use Rattle.strap_table.specs.declared.tank.TankSpec.{TankSpec}
use Rattle.strap_table.specs.Capacity.{IsCapTable}
use Rattle.strap_table.specs.Faults.{first_fault}
use Rattle.strap_table.proofs.FirstFault.{fault_is, no_fault}
use Rattle.strap_table.proofs.Rows.{table_from_rows}
use Rattle.site_decoding.specs.Decoding.{amount_at, reference_at, roof_at, shell_at, spec_at, table_at, tank_at, tanks_at}
use Rattle.site_encoding.specs.Encoding.{amount_bytes, flag_byte, list_bytes, natural_bytes, option_bytes, reference_bytes, roof_bytes, shell_bytes, short_list_bytes, signed_bytes, tank_bytes}
use Rattle.site_decoding.specs.Parts.{AreTanksIn, IsSaidIn, IsTankIn}
use Rattle.site_decoding.specs.Readers.{IsBytes, IsReader, Takes}
use Rattle.farm_site.specs.Typed.{IsTypedRoof, IsTypedTank}
use Rattle.byte_readers.proofs.ListReaders.{all_as}
use Rattle.byte_readers.proofs.NumberReaders.{wide16, wide32}
use Rattle.site_decoding.proofs.ListReaders.{AreListed, list_reader, option_reader, short_list_reader}
use Rattle.site_decoding.proofs.NumberReaders.{IsNatural, density_reader, flag_reader, height_reader, natural_reader, natural_within, number16_reader, signed64_reader, temperature_reader}
use Rattle.site_decoding.proofs.ProductReaders.{items_fit, number_small, numbered_sound}
use Rattle.site_decoding.proofs.FormatFacts.{unsaid}
use Rattle.site_decoding.proofs.Readers.{made_reader, ok_is, reader_as, tested_reader, then_reader}

-- What is fixed of a tank.

-- the numbers of a shell are of their types
abbrev FitsShell : Shell → Type 0
FitsShell shell = Unit {0} × (IsNatural (2 ^ 16) shell.coefficient × IsWithin LEAST_TEMPERATURE MOST_TEMPERATURE shell.reference)

-- the bytes of a shell are those of its flag and its numbers, one after another
shell_same : (insulated : Bool) (coefficient reference : ℤ) → shell_bytes (record { insulated = insulated; coefficient = coefficient; reference = reference }) ≡
    (flag_byte insulated ∷ []) ++ (natural_bytes w16 coefficient ++ signed_bytes w16 reference)
unfolding shell_bytes
shell_same insulated coefficient reference = refl

-- shells
shell_reader : IsReader FitsShell shell_bytes shell_at
unfolding shell_at
shell_reader =
    made_reader (then_reader flag_reader (λ insulated h. then_reader (natural_reader w16 (2 ^ 16) wide16) (λ coefficient i. temperature_reader))) (record {
      to = λ f h. h;
      same = λ f h. shell_same f.0 f.1.0 f.1.1;
      of = λ shell. (shell.insulated, (shell.coefficient, shell.reference));
      back = λ shell h. refl;
      of_fits = λ shell h. h;
    })

-- the range of a height
abbrev IsHeight : ℤ → Type 0
IsHeight = IsWithin (pos 0) MOST_HEIGHT

-- the reference density of a roof is of its type, and one that a format can say
abbrev FitsReference : Format → Option ℤ → Type 0
FitsReference format reference = IfSome reference (IsWithin LEAST_DENSITY MOST_DENSITY) × IsSaidIn format (is_some reference)

-- in format 1 a roof without one is read again
none_again : (reference : Option ℤ) (rest : List ℕ) → FitsReference One reference → reference_at One (reference_bytes One reference ++ rest) ≡ Ok (reference, rest)
none_again None rest h = refl
none_again (Some reference) rest h = absurd (cc h.1)

-- and it has no bytes
none_takes : (bytes : List ℕ) (reference : Option ℤ) (rest : List ℕ) → IsBytes bytes → reference_at One bytes ≡ Ok (reference, rest) →
    Takes bytes (reference_bytes One reference) rest × FitsReference One reference
none_takes bytes reference rest fits e =
    subst (λ (p : Option ℤ × List ℕ). Takes bytes (reference_bytes One p.0) p.1 × FitsReference One p.0) (ok_is (None, bytes) (reference, rest) e)
    (record { parts = refl; rest_fits = fits }, (tt, refl))

-- reference densities
reference_reader : (format : Format) → IsReader (FitsReference format) (reference_bytes format) (reference_at format)
reference_reader One = record { again = none_again; takes = none_takes }
reference_reader Two = reader_as (option_reader density_reader) (λ reference h. (h, tt)) (λ reference h. h.0)

-- the numbers of a roof are of their types
abbrev FitsRoof : Format → Roof → Type 0
FitsRoof format roof = IsNatural (2 ^ 32) roof.mass × (IsHeight roof.low × (IsHeight roof.high × FitsReference format roof.reference))

-- the bytes of a roof are those of its numbers, one after another
roof_same : (format : Format) (mass low high : ℤ) (reference : Option ℤ) →
    roof_bytes format (record { mass = mass; low = low; high = high; reference = reference }) ≡
    natural_bytes w32 mass ++ (natural_bytes w16 low ++ (natural_bytes w16 high ++ reference_bytes format reference))
unfolding roof_bytes
roof_same format mass low high reference = refl

-- roofs
roof_reader : (format : Format) → IsReader (FitsRoof format) (roof_bytes format) (roof_at format)
unfolding roof_at
roof_reader format =
    made_reader
    (then_reader (natural_reader w32 (2 ^ 32) wide32) (λ mass h. then_reader height_reader (λ low i. then_reader height_reader (λ high j. reference_reader format))))
    (record {
      to = λ f h. h;
      same = λ f h. roof_same format f.0 f.1.0 f.1.1.0 f.1.1.1;
      of = λ roof. (roof.mass, (roof.low, (roof.high, roof.reference)));
      back = λ roof h. refl;
      of_fits = λ roof h. h;
    })

-- the bytes of what is fixed of a tank
spec_bytes : Format → TankSpec → List ℕ
spec_bytes format spec = shell_bytes spec.shell ++ (natural_bytes w16 spec.height ++ option_bytes (roof_bytes format) spec.roof)

-- its numbers are of their types
abbrev FitsSpec : Format → TankSpec → Type 0
FitsSpec format spec = FitsShell spec.shell × (IsHeight spec.height × IfSome spec.roof (FitsRoof format))

-- what is fixed of tanks
spec_reader : (format : Format) → IsReader (FitsSpec format) (spec_bytes format) (spec_at format)
unfolding spec_at spec_bytes
spec_reader format =
    made_reader (then_reader shell_reader (λ shell h. then_reader height_reader (λ height i. option_reader (roof_reader format)))) (record {
      to = λ f h. h;
      same = λ f h. refl;
      of = λ spec. (spec.shell, (spec.height, spec.roof));
      back = λ spec h. refl;
      of_fits = λ spec h. h;
    })

-- Capacity tables and opening stocks.

-- rows without a fault
fault_none : (fault : Option TableFault) → is_none fault ≡ true → fault ≡ None
fault_none None test = refl
fault_none (Some fault) test = cc

-- the rows of a table test as having none
rows_sound : (rows : List ℤ) → IsCapTable rows → is_none (first_fault rows) ≡ true
rows_sound rows table = by (first_fault rows) refl
  where
    by : (fault : Option TableFault) → first_fault rows ≡ fault → is_none (first_fault rows) ≡ true
    by None e = rw e refl
    by (Some fault) e = absurd (no_fault rows fault table (fault_is rows fault e))

-- they are of their types
rows_fit : (rows : List ℤ) → IsCapTable rows → AreListed (IsNatural (2 ^ 32)) (2 ^ 16) rows
rows_fit rows table =
    (omega (arith, table.most), λ k row within. subst (IsNatural (2 ^ 32)) (get_or_default rows k (pos 0) row within) (natural_within 0 (10 ^ 9) (2 ^ 32) (omega arith) (get_or rows k (pos 0)) (table.volumes k)))

-- capacity tables
table_reader : IsReader IsCapTable (list_bytes w16 (natural_bytes w32)) table_at
unfolding table_at
table_reader =
    reader_as (tested_reader (λ rows. is_none (first_fault rows)) (list_reader w16 (2 ^ 16) wide16 (natural_reader w32 (2 ^ 32) wide32)))
    (λ rows h. table_from_rows rows (fault_none (first_fault rows) h.1))
    (λ rows h. (rows_fit rows h, rows_sound rows h))

-- both parts of a stock are of their types
abbrev FitsAmount : Amount → Type 0
FitsAmount amount = FitsSigned w64 amount.litres × FitsSigned w64 amount.kg

-- the bytes of a stock are those of its litres and its kilograms, one after another
amount_same : (litres kg : ℤ) → amount_bytes (record { litres = litres; kg = kg }) ≡ signed_bytes w64 litres ++ signed_bytes w64 kg
unfolding amount_bytes
amount_same litres kg = refl

-- opening stocks
amount_reader : IsReader FitsAmount amount_bytes amount_at
unfolding amount_at
amount_reader =
    made_reader (then_reader signed64_reader (λ litres h. signed64_reader)) (record {
      to = λ f h. h;
      same = λ f h. amount_same f.0 f.1;
      of = λ amount. (amount.litres, amount.kg);
      back = λ amount h. refl;
      of_fits = λ amount h. h;
    })

-- Tanks.

-- the fields of a tank are of their types
abbrev FitsTank : Format → Tank → Type 0
FitsTank format tank = (tank.number < 2 ^ 16) × ((tank.product < 2 ^ 16) × (FitsSpec format tank.spec × (IsCapTable tank.table × FitsAmount tank.opening)))

-- seven texts in a row, those of what is fixed of a tank together
tank_regroup : (a b c d e f g : List ℕ) → a ++ b ++ c ++ d ++ e ++ f ++ g ≡ a ++ (b ++ ((c ++ (d ++ e)) ++ (f ++ g)))
tank_regroup a b c d e f g = simp append_assoc

-- the bytes of a tank are those of its numbers, of what is fixed, of its table and of its stock, one after another
tank_same : (format : Format) (number product : ℕ) (spec : TankSpec) (table : List ℤ) (opening : Amount) →
    tank_bytes format (record { number = number; product = product; spec = spec; table = table; opening = opening }) ≡
    to_be_bytes w16 number ++ (to_be_bytes w16 product ++ (spec_bytes format spec ++ (list_bytes w16 (natural_bytes w32) table ++ amount_bytes opening)))
unfolding tank_bytes spec_bytes
tank_same format number product spec table opening =
    tank_regroup (to_be_bytes w16 number) (to_be_bytes w16 product) (shell_bytes spec.shell) (natural_bytes w16 spec.height) (option_bytes (roof_bytes format) spec.roof)
    (list_bytes w16 (natural_bytes w32) table) (amount_bytes opening)

-- tanks
tank_reader : (format : Format) → IsReader (FitsTank format) (tank_bytes format) (tank_at format)
unfolding tank_at
tank_reader format =
    made_reader
    (then_reader number16_reader (λ number h. then_reader number16_reader (λ product i. then_reader (spec_reader format) (λ spec j.
    then_reader table_reader (λ table k. amount_reader)))))
    (record {
      to = λ f h. h;
      same = λ f h. tank_same format f.0 f.1.0 f.1.1.0 f.1.1.1.0 f.1.1.1.1;
      of = λ tank. (tank.number, (tank.product, (tank.spec, (tank.table, tank.opening))));
      back = λ tank h. refl;
      of_fits = λ tank h. h;
    })

-- What a site's tank has.

-- the number of one of some sound items is of two bytes
pub among_small : {A : Type 0} (number : A → ℕ) (sound : A → Bool) (items : List A) (n : ℕ) → ((item : A) → sound item ≡ true → number item < 2 ^ 16) →
    list_all sound items ≡ true → is_among n (map number items) ≡ true → n < 2 ^ 16
among_small number sound [] n small all among = absurd cc
among_small number sound (item ∷ items) n small all among =
    let parts = and_parts (sound item) (list_all sound items) all in
    by (number item == n) refl (among_small number sound items n small parts.1) parts.0
  where
    by : (here : Bool) → (number item == n) ≡ here → (is_among n (map number items) ≡ true → n < 2 ^ 16) → sound item ≡ true → n < 2 ^ 16
    by true e later first = subst (λ m. m < 2 ^ 16) (eqb-true (number item) n e) (small item first)
    by false e later first = later (rw e at among)

-- a stock of a site is of its type
stock_fits : (stock : ℤ) → is_stock stock ≡ true → FitsSigned w64 stock
stock_fits stock test = let within = is_within-true (negsuc 999999999) (pos (10 ^ 9)) stock test in omega (arith, ints, within.low, within.high)

-- a roof of a site, whose zone and reference density are of their types, is
roof_fits : (format : Format) (roof : Option Roof) → is_roof roof ≡ true → IfSome roof IsTypedRoof → IsSaidIn format (has_reference roof) → IfSome roof (FitsRoof format)
roof_fits format None sound typed said = tt
roof_fits format (Some roof) sound typed said =
    let mass = is_within-true (pos 1) (pos (10 ^ 7)) roof.mass (and_parts (is_within (pos 1) (pos (10 ^ 7)) roof.mass) _ sound).0 in
    (natural_within 1 (10 ^ 7) (2 ^ 32) (omega arith) roof.mass mass, (typed.low, (typed.high, (typed.reference, said))))

-- the reference height of a tank
height_of : (spec : TankSpec) → is_spec spec ≡ true → IsHeight spec.height
height_of spec sound =
    let coefficient = is_within (pos 0) (pos 1000) spec.shell.coefficient in
    let height = is_within (pos 1) MOST_HEIGHT spec.height in
    let both = and_parts coefficient height (and_parts (coefficient && height) (is_roof spec.roof) sound).0 in
    let within = is_within-true (pos 1) MOST_HEIGHT spec.height both.1 in
    record { low = omega (arith, ints, within.low); high = within.high }

-- a sound tank is of its types
tank_fits : (format : Format) (products : List ℕ) (tank : Tank) → ((n : ℕ) → is_among n products ≡ true → n < 2 ^ 16) → is_tank products tank ≡ true →
    IsTypedTank tank × IsTankIn format tank → FitsTank format tank
tank_fits format products tank small sound typed =
    let number = is_between 1 65535 tank.number in
    let product = is_among tank.product products in
    let three = and_parts (number && product && is_spec tank.spec) (is_opening tank.opening) sound in
    let two = and_parts (number && product) (is_spec tank.spec) three.0 in
    let stocks = and_parts (is_stock tank.opening.litres) (is_stock tank.opening.kg) three.1 in
    let coefficient = natural_within 0 1000 (2 ^ 16) (omega arith) tank.spec.shell.coefficient (coefficient_within products tank sound) in
    let roof = roof_fits format tank.spec.roof (roof_is products tank sound) typed.0.roof typed.1 in (
      number_small tank.number (and_parts number product two.0).0,
      (
        small tank.product (product_there products tank sound),
        (
          ((tt, (coefficient, typed.0.reference)), (height_of tank.spec (spec_is products tank sound), roof)),
          (typed.0.table, (stock_fits tank.opening.litres stocks.0, stock_fits tank.opening.kg stocks.1)),
        ),
      ),
    )

-- the numbers of a site's products are of two bytes
products_small : (products : List Product) → are_products products ≡ true → (n : ℕ) → is_among n (map product_number products) ≡ true → n < 2 ^ 16
products_small products sound n among =
    let parts = and_parts (is_between 1 16 (length products)) (are_numbered product_number is_product products) sound in
    among_small product_number is_product products n
    (λ product test. number_small product.number (and_parts (is_between 1 65535 product.number) (is_name product.name) test).0)
    (numbered_sound product_number is_product products parts.1) among

-- the tanks of a site
pub tanks_reader : (format : Format) (products : List Product) → IsTrue (are_products products) →
    IsReader (AreTanksIn format products) (short_list_bytes (tank_bytes format)) (tanks_at format products)
unfolding tanks_at
tanks_reader format products sound =
    let numbers = map product_number products in
    let Typed : Tank → Type 0 = λ tank. IsTypedTank tank × IsTankIn format tank in
    reader_as (tested_reader (are_tanks numbers) (short_list_reader (tank_reader format)))
    (λ tanks h. ((h.1, all_as (FitsTank format) IsTypedTank tanks typed_of h.0.1), all_as (FitsTank format) (IsTankIn format) tanks said_of h.0.1))
    (λ tanks h.
    let parts = and_parts (is_between 1 64 (length tanks)) (are_numbered tank_number (is_tank numbers) tanks) h.0.0 in
    let few = leb-true (length tanks) 64 (and_parts (nat_le 1 (length tanks)) (nat_le (length tanks) 64) parts.0).1 in
    let each = numbered_sound tank_number (is_tank numbers) tanks parts.1 in
    let typed : All Typed tanks = λ k d within. (h.0.1 k d within, h.1 k d within) in
    ((omega (arith, few), items_fit (is_tank numbers) Typed (FitsTank format) tanks each typed (λ tank. tank_fits format numbers tank (products_small products sound))), h.0.0))
  where
    -- a roof that was read is of its type
    roof_of : (roof : Option Roof) → IfSome roof (FitsRoof format) → IfSome roof IsTypedRoof
    roof_of None h = tt
    roof_of (Some roof) h = record { low = h.1.0; high = h.1.1.0; reference = h.1.1.1.0 }

    -- and so is a tank
    typed_of : (tank : Tank) → FitsTank format tank → IsTypedTank tank
    typed_of tank h = record { reference = h.1.1.0.0.1.1; roof = roof_of tank.spec.roof h.1.1.0.1.1; table = h.1.1.1.0 }

    -- its reference density is one that the format can say
    roof_said : (roof : Option Roof) → IfSome roof (FitsRoof format) → IsSaidIn format (has_reference roof)
    roof_said None h = unsaid format
    roof_said (Some roof) h = h.1.1.1.1

    -- and so is the tank
    said_of : (tank : Tank) → FitsTank format tank → IsTankIn format tank
    said_of tank h = roof_said tank.spec.roof h.1.1.0.1.1
