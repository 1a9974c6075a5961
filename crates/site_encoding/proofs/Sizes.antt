-- How many bytes items have.
use Rattle.std.proofs.Common.{◌≡◌, ℕ, ◌+◌, ◌*◌, List, [], ◌∷◌, length, refl, ap, arith, length-append}
use Rattle.std.specs.Int.{w16, w32}
use Rattle.std.specs.List.{flat_map}
use Rattle.std.proofs.lemmas.List.Concat.{flat_map-cons}
use Rattle.farm_rounding.specs.Table.{Row}
use Rattle.farm_vcf.specs.Grid.{Grid}
use Rattle.farm_site.specs.declared.formats.Format.{Format}
use Rattle.farm_site.specs.declared.items.Tank.{Tank}
use Rattle.site_encoding.specs.Encoding.{amount_bytes, grid_bytes, natural_bytes, option_bytes, roof_bytes, row_bytes, shell_bytes, signed_bytes, tank_bytes}

-- items of one length each have that length times their number
pub length-flat_map-even : {A : Type 0} (item : A → List ℕ) (n : ℕ) (items : List A) → ((one : A) → length (item one) ≡ n) →
    length (flat_map item items) ≡ n * length items
length-flat_map-even item n [] even = omega arith
length-flat_map-even item n (one ∷ items) even =
    let rest = length-flat_map-even item n items even in
    let both = length-append (item one) (flat_map item items) in
    let whole = ap length (flat_map-cons item one items) in
    let first = even one in
    omega arith

-- rows of the rounding table have two bytes each
pub length-rounding : (rounding : List Row) → length (flat_map row_bytes rounding) ≡ 2 * length rounding
length-rounding rounding = length-flat_map-even row_bytes 2 rounding (λ row. refl)

-- the bytes of a grid
pub length-grid : (grid : Grid) → length (grid_bytes grid) ≡ 8 + 2 * length grid.densities + 2 * length grid.temperatures + 4 * length grid.factors
unfolding grid_bytes
length-grid grid =
    let densities = length-flat_map-even (natural_bytes w16) 2 grid.densities (λ one. refl) in
    let temperatures = length-flat_map-even (signed_bytes w16) 2 grid.temperatures (λ one. refl) in
    let factors = length-flat_map-even (natural_bytes w32) 4 grid.factors (λ one. refl) in
    simp length-append (omega arith)

-- the bytes of a tank
pub length-tank : (format : Format) (tank : Tank) → length (tank_bytes format tank) ≡ 29 + length (option_bytes (roof_bytes format) tank.spec.roof) + 4 * length tank.table
unfolding tank_bytes shell_bytes amount_bytes
length-tank format tank =
    let rows = length-flat_map-even (natural_bytes w32) 4 tank.table (λ one. refl) in
    simp length-append (omega arith)
