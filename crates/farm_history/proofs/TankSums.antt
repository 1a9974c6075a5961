-- Sums over the tanks of a site: where no two tanks have one number, what postings come to at each tank adds up to what they come to.
use Rattle.std.proofs.Common.{◌≡◌, ℕ, suc, ◌<◌, ◌==◌, Bool, true, false, All, if◌then◌else◌, List, [], ◌∷◌, map, Some, IsSome, refl, ap, ap₂, ◌∙◌, arith}
use Rattle.std.specs.List.{AllPairs}
use Rattle.std.proofs.lemmas.Bool.Decides.{nat_tests}
use Rattle.std.proofs.lemmas.Int.{ints}
use Rattle.std.proofs.lemmas.List.Elements.{All-head, All-tail}
use Rattle.std.proofs.lemmas.List.Kept.{AllPairs-from_increasing}
use Rattle.farm_fixed.specs.declared.records.Amount.{Amount}
use Rattle.farm_site.specs.Described.{Described, tank_numbered}
use Rattle.farm_stock.specs.Books.{plus, sum_of}
use Rattle.farm_stock.specs.Postings.{amount_of, at_tank}
use Rattle.farm_stock.specs.declared.posting.Posting.{Posting}
use Rattle.farm_stock.proofs.Amounts.{plus_no_more, same_amount}
use Rattle.farm_site.specs.Tanks.{tank_number}
use Rattle.farm_site.specs.declared.items.Tank.{Tank}
use Rattle.farm_history.specs.Sites.{AreRising}
use Rattle.farm_history.proofs.PostingSums.{nothing, nothing_more, passing_more, where_passed}

-- the sum of an amount for each tank
abbrev pub sum_over : (Tank → Amount) → List Tank → Amount
sum_over amount tanks = sum_of (map amount tanks)

-- the sum of two sums, regrouped
pub regrouped : (a b c d : Amount) → plus (plus a b) (plus c d) ≡ plus (plus a c) (plus b d)
regrouped a b c d = same_amount (plus (plus a b) (plus c d)) (plus (plus a c) (plus b d)) (omega (arith, ints)) (omega (arith, ints))

-- the sums of two amounts for each tank add up
pub sums_plus : (first second : Tank → Amount) (tanks : List Tank) →
    sum_over (λ tank. plus (first tank) (second tank)) tanks ≡ plus (sum_over first tanks) (sum_over second tanks)
sums_plus first second [] = refl
sums_plus first second (tank ∷ tanks) =
    ap (plus (plus (first tank) (second tank))) (sums_plus first second tanks)
    ∙ regrouped (first tank) (second tank) (sum_over first tanks) (sum_over second tanks)

-- amounts that are the same for each tank have the same sum
pub sums_same : (first second : Tank → Amount) (tanks : List Tank) → ((tank : Tank) → first tank ≡ second tank) →
    sum_over first tanks ≡ sum_over second tanks
sums_same first second [] same = refl
sums_same first second (tank ∷ tanks) same = ap₂ plus (same tank) (sums_same first second tanks same)

-- an amount for the tanks of one number
abbrev only_at : ℕ → Amount → Tank → Amount
only_at number amount tank = where_passed (number == tank.number) amount

-- nothing for each tank comes to nothing
nothing_over : (tanks : List Tank) → sum_over (λ tank. nothing) tanks ≡ nothing
nothing_over [] = refl
nothing_over (tank ∷ tanks) = ap (plus nothing) (nothing_over tanks)

-- an amount for the tanks of a number comes to nothing where all tanks have greater ones
only_elsewhere : (number : ℕ) (amount : Amount) (tanks : List Tank) → All (λ other. number < other) (map tank_number tanks) →
    sum_over (only_at number amount) tanks ≡ nothing
only_elsewhere number amount [] greater = refl
only_elsewhere number amount (tank ∷ tanks) greater =
    let first : number < tank.number = All-head (λ other. number < other) tank.number (map tank_number tanks) greater in
    let apart : (number == tank.number) ≡ false = grind (arith, nat_tests) in
    ap₂ plus (ap (λ test. where_passed test amount) apart)
    (only_elsewhere number amount tanks (All-tail (λ other. number < other) tank.number (map tank_number tanks) greater))

-- an amount for the tank of a number comes to itself where there is such a tank, and no two tanks have one number
only_once : (number : ℕ) (amount : Amount) (tanks : List Tank) → AllPairs (λ first second. first < second) (map tank_number tanks) →
    IsSome (tank_numbered number tanks) → sum_over (only_at number amount) tanks ≡ amount
only_once number amount [] apart there = cc
only_once number amount (tank ∷ tanks) apart there =
    by (tank.number == number) refl there
    (only_once number amount tanks (λ i j default before inside. apart (suc i) (suc j) default (omega arith) (omega arith)))
  where
    by : (test : Bool) → (tank.number == number) ≡ test → IsSome (if test then Some tank else tank_numbered number tanks) →
        (IsSome (tank_numbered number tanks) → sum_over (only_at number amount) tanks ≡ amount) →
        sum_over (only_at number amount) (tank ∷ tanks) ≡ amount
    by true e there rest =
        let same : (number == tank.number) ≡ true = grind (arith, nat_tests) in
        let greater : All (λ other. number < other) (map tank_number tanks) = λ place default inside.
        let above = apart 0 (suc place) default (omega arith) (omega arith) in grind (arith, nat_tests) in
        ap₂ plus (ap (λ test. where_passed test amount) same) (only_elsewhere number amount tanks greater) ∙ plus_no_more amount
    by false e there rest =
        let differs : (number == tank.number) ≡ false = grind (arith, nat_tests) in
        ap₂ plus (ap (λ test. where_passed test amount) differs) (rest there) ∙ nothing_more amount

-- each of these postings is at one of these tanks
abbrev pub AreAt : List Tank → List Posting → Type 0
AreAt tanks [] = Unit {0}
AreAt tanks (posting ∷ postings) = IsSome (tank_numbered posting.tank tanks) × AreAt tanks postings

-- where no two tanks have one number, what postings come to at each tank adds up to what they come to
pub tanks_add_up : (site : Described) (postings : List Posting) → AreRising site → AreAt site.tanks postings →
    sum_over (λ tank. amount_of (at_tank tank.number postings)) site.tanks ≡ amount_of postings
tanks_add_up site [] rising there = nothing_over site.tanks
tanks_add_up site (posting ∷ postings) rising there =
    let at : Tank → Amount = λ tank. amount_of (at_tank tank.number postings) in
    sums_same (λ tank. amount_of (at_tank tank.number (posting ∷ postings))) (λ tank. plus (only_at posting.tank posting.amount tank) (at tank))
    site.tanks (λ tank. passing_more (λ p. p.tank == tank.number) posting postings)
    ∙ sums_plus (only_at posting.tank posting.amount) at site.tanks
    ∙ ap₂ plus (only_once posting.tank posting.amount site.tanks (AllPairs-from_increasing (map tank_number site.tanks) rising) there.0)
    (tanks_add_up site postings rising there.1)
