-- The figures of a tank on a reading and a sample that a history records.
use Rattle.std.specs.Prelude.{ℕ, List, [], ◌∷◌, Option, Some, None, option_and_then, option_map, Result, Ok, Err}
use Rattle.farm_chain.specs.Reading.{calculated_quantities}
use Rattle.farm_fixed.specs.declared.records.ChainRule.{ChainRule}
use Rattle.farm_fixed.specs.declared.records.Quantities.{Quantities}
use Rattle.farm_fixed.specs.declared.records.Sample.{Sample}
use Rattle.farm_site.specs.Described.{product_numbered}
use Rattle.farm_site.specs.declared.items.Product.{Product}
use Rattle.farm_site.specs.declared.items.Tank.{Tank}
use Rattle.farm_history.specs.declared.command.Command.{Command}
use Rattle.farm_history.specs.declared.command.Command.TheVariants as commands
use Rattle.farm_history.specs.declared.plan.Gauged.{Gauged}
use Rattle.farm_history.specs.declared.plan.Named.{Named}
use Rattle.farm_history.specs.declared.plan.Plan.{Plan}
use Rattle.farm_history.specs.declared.plan.Plan.TheVariants.{Outside, Transfer}
use Rattle.farm_history.specs.Gauging.{recorded_reading}
use Rattle.farm_history.specs.History.{History, entry_at, tank_after}
use Rattle.farm_history.specs.Movements.{opened_at}

-- what a sample says
abbrev pub sample_of : Command → Option Sample
sample_of (commands.Sample tank density sw) = Some (record { density = density; sw = sw })
sample_of command = None

-- the sample that is recorded at a place; none where no sample stands there
unfoldable pub recorded_sample : History → ℕ → Option Sample
recorded_sample history place = option_and_then (λ entry. sample_of entry.cmd) (entry_at history place)

-- this tank, with what is named for it
abbrev pub named : ℕ → Gauged → Named
named tank gauged = record { tank = tank; gauged = gauged }

-- the custody calculation of a tank that stands so and holds this product, on what is named
abbrev pub calculated_in : History → Gauged → Tank → Product → Option (Result Quantities ChainRule)
calculated_in history gauged tank product =
    option_and_then (λ reading.
    option_map (λ sample. calculated_quantities history.site.rounding tank.spec tank.table product.vcf reading sample)
    (recorded_sample history gauged.sample))
    (recorded_reading history gauged.reading)

-- The custody calculation of a tank on the reading and the sample that are named for it; none where the site has no such tank, or no
-- reading or no sample stands there.
unfoldable pub calculated_at : History → Named → Option (Result Quantities ChainRule)
calculated_at history pair =
    option_and_then (λ tank.
    option_and_then (calculated_in history pair.gauged tank) (product_numbered tank.product history.site.products))
    (tank_after history pair.tank)

-- the ten figures of a calculation that wasn't refused
abbrev pub figures_of : Result Quantities ChainRule → Option Quantities
figures_of (Ok figures) = Some figures
figures_of (Err rule) = None

-- the ten figures of a tank on what is named for it
unfoldable pub figures_at : History → Named → Option Quantities
figures_at history pair = option_and_then figures_of (calculated_at history pair)

-- what a plan names for its tanks, in their order
abbrev pub named_at_opening : Plan → List Named
named_at_opening (Outside way tank party gauged) = named tank gauged ∷ []
named_at_opening (Transfer from to from_gauged to_gauged) = named from from_gauged ∷ named to to_gauged ∷ []

-- what a Closing names for a second tank
abbrev pub named_second : ℕ → Option Gauged → List Named
named_second tank None = []
named_second tank (Some gauged) = named tank gauged ∷ []

-- what a Closing names for the tanks of a plan, in their order
abbrev pub named_at_closing : Gauged → Option Gauged → Plan → List Named
named_at_closing first second (Outside way tank party gauged) = named tank first ∷ []
named_at_closing first second (Transfer from to from_gauged to_gauged) = named from first ∷ named_second to second

-- what a Closing names for the tanks of the plan at a place, where there is one
abbrev pub named_for : Gauged → Option Gauged → Option Plan → List Named
named_for first second None = []
named_for first second (Some plan) = named_at_closing first second plan

-- what a command names for its tanks, in their order
unfoldable pub named_by : History → Command → List Named
named_by history (commands.Opening plan) = named_at_opening plan
named_by history (commands.Closing movement first second) = named_for first second (opened_at history movement)
named_by history (commands.Settle tank gauged) = named tank gauged ∷ []
named_by history command = []
