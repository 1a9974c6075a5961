-- The tanks of a site: they stand in rising order, and where its tables were read each has a capacity table, and one of the site's
-- products.
use Rattle.std.proofs.Common.{◌≡◌, inl, inr, ℕ, zero, suc, ◌+◌, ◌<◌, ◌≤◌, get_or, nat_lt, true, List, [], ◌∷◌, length, map, add-one, arith, sym, subst}
use Rattle.std.specs.List.{list_all}
use Rattle.std.specs.List.Sorted.{IsStrictlyIncreasing}
use Rattle.std.proofs.Math.Nat.{eq-or-lt_of_le}
use Rattle.std.proofs.lemmas.Bool.{and_parts, ltb-true}
use Rattle.std.proofs.lemmas.List.Sums.{AllPass-from_list_all}
use Rattle.std.proofs.lemmas.Option.{slice_get-get_or}
use Rattle.farm_fixed.specs.Range.{is_between}
use Rattle.strap_table.specs.Capacity.{IsCapTable}
use Rattle.farm_site.specs.Numbers.{are_numbered, rises, rises_from}
use Rattle.farm_site.proofs.TankParts.{product_there}
use Rattle.farm_site.specs.declared.items.Tank.{Tank}
use Rattle.farm_site.specs.declared.limits.TheConstants.{MOST_TANKS}
use Rattle.farm_site.specs.Facts.{are_tanks}
use Rattle.farm_site.specs.Products.{product_number}
use Rattle.farm_site.specs.Tanks.{is_tank, tank_number}
use Rattle.farm_site.specs.declared.site.Site.{Site}
use Rattle.farm_site.specs.Sites.{described}
use Rattle.farm_history.specs.Sites.{AreComputable, AreRising}

-- each of the first tanks has a capacity table
abbrev pub AreRead : List Tank → ℕ → Type 0
AreRead tanks count = (index : ℕ) (default : Tank) → index < count → IsCapTable (get_or tanks index default).table

-- the tank at an index is the one that is read there
tank_is : (tanks : List Tank) (index : ℕ) (tank default : Tank) → index < length tanks → tank ≡ get_or tanks index tank →
    tank ≡ get_or tanks index default
tank_is tanks index tank default within is =
    let with_tank = slice_get-get_or tanks index tank within in
    let with_default = slice_get-get_or tanks index default within in
    cc

-- one tank more has one where its table is read
pub read_more : (tanks : List Tank) (count : ℕ) (tank : Tank) → AreRead tanks count → count < length tanks → tank ≡ get_or tanks count tank →
    IsCapTable tank.table → AreRead tanks (count + 1)
read_more tanks count tank read within is table = λ index default before. elim (eq-or-lt_of_le (index_most index before)) [
  | inl last ↦
      let here : tank ≡ get_or tanks index default = tank_is tanks index tank default (omega arith) (subst (λ (n : ℕ). tank ≡ get_or tanks n tank) (sym last) is) in
      subst (λ (tank : Tank). IsCapTable tank.table) here table
  | inr earlier ↦ read index default earlier
] where
  index_most : (index : ℕ) → index < count + 1 → index ≤ count
  index_most index before = omega arith

-- each tank of a site is sound, and their numbers rise by the test
sound_and_rising : (products : List ℕ) (tanks : List Tank) → are_tanks products tanks ≡ true →
    (list_all (is_tank products) tanks ≡ true) × (rises (map tank_number tanks) ≡ true)
sound_and_rising products tanks facts =
    let numbered = and_parts (is_between 1 MOST_TANKS (length tanks)) (are_numbered tank_number (is_tank products) tanks) facts in
    and_parts (list_all (is_tank products) tanks) (rises (map tank_number tanks)) numbered.1

-- a site of which each table was read can be computed
pub read_computable : (site : Site) (count : ℕ) → AreRead site.tanks count → length site.tanks ≤ count → AreComputable (described site)
read_computable site count read all = λ index default within.
    let products = map product_number site.products in
    let sound = AllPass-from_list_all (is_tank products) site.tanks (sound_and_rising products site.tanks site.has_tanks).0 in
    record {
      table = read index default (omega arith);
      product = product_there products (get_or site.tanks index default) (sound index default within);
    }

-- a number below the first of others that rise goes before them
rises_before : (before first : ℕ) (numbers : List ℕ) → before < first → IsStrictlyIncreasing (first ∷ numbers) →
    IsStrictlyIncreasing (before ∷ first ∷ numbers)
rises_before before first numbers less rising zero within = less
rises_before before first numbers less rising (suc k) within = rw add-one (rw add-one at (rising k (omega arith)))

-- numbers that rise by the test from one on rise
rise_from : (before : ℕ) (numbers : List ℕ) → rises_from before numbers ≡ true → IsStrictlyIncreasing (before ∷ numbers)
rise_from before [] rising = λ k within. absurd (omega arith)
rise_from before (first ∷ numbers) rising =
    let parts = and_parts (nat_lt before first) (rises_from first numbers) rising in
    rises_before before first numbers (ltb-true before first parts.0) (rise_from first numbers parts.1)

-- numbers that rise by the test rise
rise : (numbers : List ℕ) → rises numbers ≡ true → IsStrictlyIncreasing numbers
rise [] rising = λ k within. absurd (omega arith)
rise (first ∷ numbers) rising = rise_from first numbers rising

-- the tanks of a site stand in rising order
pub site_rising : (site : Site) → AreRising (described site)
site_rising site =
    let products = map product_number site.products in
    rise (map tank_number site.tanks) (sound_and_rising products site.tanks site.has_tanks).1
