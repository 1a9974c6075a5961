-- Commands: their numbers, what makes one well formed, and when two are the same.
use Rattle.std.specs.Prelude.{◌≡◌, ℕ, ◌-◌, ◌≤◌, ◌==◌, ◌&&◌, ◌||◌, ◌++◌, Bool, true, false, not, if◌then◌else◌, List, [], ◌∷◌, take, replicate, Option, Some, None, ℤ, pos}
use Rattle.std.specs.Cmp.Lexicographic.{pointwise}
use Rattle.std.specs.Ordering.{int_eq}
use Rattle.farm_history.specs.declared.few.Few.{Few}
use Rattle.farm_history.specs.declared.command.Command.{Command}
use Rattle.farm_history.specs.declared.command.Command.TheVariants.{Gauge, Dip, Sample, Opening, Closing, Cancel, Reverse, Settle, Stop}
use Rattle.farm_history.specs.declared.plan.Gauged.{Gauged}
use Rattle.farm_history.specs.declared.plan.Plan.{Plan}
use Rattle.farm_history.specs.declared.plan.Plan.TheVariants.{Outside, Transfer}
use Rattle.farm_history.specs.Limits.{most_in_list}
use Rattle.farm_ticket.specs.declared.side.Way.{Way}
use Rattle.farm_ticket.specs.declared.side.Way.TheVariants.{Inward, Outward}

-- the numbers of a short list
abbrev pub numbers_of : Few → List ℤ
numbers_of few = take few.count few.values

-- a short list has at most eight numbers, and zeros after them
pub record IsShortList (few : Few) : Type 0 where
  pub count : few.count ≤ most_in_list
  pub zeros : few.values ≡ numbers_of few ++ replicate (most_in_list - few.count) (pos 0)

-- each list of a command is a short list
abbrev pub IsWellFormedCommand : Command → Type 0
IsWellFormedCommand (Gauge tank level water temperature ambient) = Unit {0}
IsWellFormedCommand (Dip tank outage tapes water temperatures ambient) = IsShortList tapes × IsShortList water × IsShortList temperatures
IsWellFormedCommand (Sample tank density sw) = Unit {0}
IsWellFormedCommand (Opening plan) = Unit {0}
IsWellFormedCommand (Closing movement first second) = Unit {0}
IsWellFormedCommand (Cancel movement) = Unit {0}
IsWellFormedCommand (Reverse ticket) = Unit {0}
IsWellFormedCommand (Settle tank gauged) = Unit {0}
IsWellFormedCommand Stop = Unit {0}

-- two short lists are the same in their counts and in each of their eight numbers
abbrev pub is_same_list : Few → Few → Bool
is_same_list few other = few.count == other.count && pointwise int_eq few.values other.values

-- two dips are both of outages or both of innages
abbrev pub is_same_kind : Bool → Bool → Bool
is_same_kind outage other = if outage then other else not other

-- two sides go the same way
abbrev pub is_same_way : Way → Way → Bool
is_same_way Inward Inward = true
is_same_way Outward Outward = true
is_same_way way other = false

-- two tanks are gauged at the same places
abbrev pub is_same_gauged : Gauged → Gauged → Bool
is_same_gauged gauged other = gauged.reading == other.reading && gauged.sample == other.sample

-- two second tanks are gauged at the same places, or neither command names a second tank
abbrev pub is_same_second : Option Gauged → Option Gauged → Bool
is_same_second None None = true
is_same_second (Some gauged) (Some other) = is_same_gauged gauged other
is_same_second second other = false

-- two plans are the same in each field
abbrev pub is_same_plan : Plan → Plan → Bool
is_same_plan (Outside way tank party gauged) (Outside way2 tank2 party2 gauged2) =
    is_same_way way way2 && tank == tank2 && party == party2 && is_same_gauged gauged gauged2
is_same_plan (Transfer from to from_gauged to_gauged) (Transfer from2 to2 from_gauged2 to_gauged2) =
    from == from2 && to == to2 && is_same_gauged from_gauged from_gauged2 && is_same_gauged to_gauged to_gauged2
is_same_plan plan other = false

-- two commands are the same in each field
unfoldable pub is_same_command : Command → Command → Bool
is_same_command (Gauge tank level water temperature ambient) (Gauge tank2 level2 water2 temperature2 ambient2) =
    tank == tank2 && int_eq level level2 && int_eq water water2 && int_eq temperature temperature2 && int_eq ambient ambient2
is_same_command (Dip tank outage tapes water temperatures ambient) (Dip tank2 outage2 tapes2 water2 temperatures2 ambient2) =
    tank == tank2 && is_same_kind outage outage2 && is_same_list tapes tapes2 && is_same_list water water2
    && is_same_list temperatures temperatures2 && int_eq ambient ambient2
is_same_command (Sample tank density sw) (Sample tank2 density2 sw2) = tank == tank2 && int_eq density density2 && int_eq sw sw2
is_same_command (Opening plan) (Opening plan2) = is_same_plan plan plan2
is_same_command (Closing movement first second) (Closing movement2 first2 second2) =
    movement == movement2 && is_same_gauged first first2 && is_same_second second second2
is_same_command (Cancel movement) (Cancel movement2) = movement == movement2
is_same_command (Reverse ticket) (Reverse ticket2) = ticket == ticket2
is_same_command (Settle tank gauged) (Settle tank2 gauged2) = tank == tank2 && is_same_gauged gauged gauged2
is_same_command Stop Stop = true
is_same_command command other = false

-- a command is a Stop
abbrev pub is_stop : Command → Bool
is_stop Stop = true
is_stop command = false

-- the number of the tank that a gauging or a sample is of
abbrev pub tank_of : Command → Option ℕ
tank_of (Gauge tank level water temperature ambient) = Some tank
tank_of (Dip tank outage tapes water temperatures ambient) = Some tank
tank_of (Sample tank density sw) = Some tank
tank_of command = None

-- the numbers of the tanks of a plan, in their order
abbrev pub tanks_of_plan : Plan → List ℕ
tanks_of_plan (Outside way tank party gauged) = tank ∷ []
tanks_of_plan (Transfer from to from_gauged to_gauged) = from ∷ to ∷ []

-- the numbers of the tanks that a command gives, in their order
abbrev pub tanks_given : Command → List ℕ
tanks_given (Gauge tank level water temperature ambient) = tank ∷ []
tanks_given (Dip tank outage tapes water temperatures ambient) = tank ∷ []
tanks_given (Sample tank density sw) = tank ∷ []
tanks_given (Opening plan) = tanks_of_plan plan
tanks_given (Settle tank gauged) = tank ∷ []
tanks_given command = []

-- The numbers of the tanks that a command needs free, in their order: no open movement may name them.
abbrev pub tanks_needed : Command → List ℕ
tanks_needed (Opening plan) = tanks_of_plan plan
tanks_needed (Settle tank gauged) = tank ∷ []
tanks_needed command = []

-- a plan names a tank
abbrev pub names_tank : ℕ → Plan → Bool
names_tank tank (Outside way number party gauged) = number == tank
names_tank tank (Transfer from to from_gauged to_gauged) = from == tank || to == tank

-- a command is a gauge's reading or a dip of a tank
abbrev pub is_gauging_of : ℕ → Command → Bool
is_gauging_of tank (Gauge number level water temperature ambient) = number == tank
is_gauging_of tank (Dip number outage tapes water temperatures ambient) = number == tank
is_gauging_of tank command = false

-- a command is a sample of a tank
abbrev pub is_sample_of : ℕ → Command → Bool
is_sample_of tank (Sample number density sw) = number == tank
is_sample_of tank command = false

-- a command settles the book of some tank
abbrev pub is_settle : Command → Bool
is_settle (Settle tank gauged) = true
is_settle command = false

-- a command settles the book of a tank
abbrev pub settles : ℕ → Command → Bool
settles tank (Settle number gauged) = number == tank
settles tank command = false

-- a command opens a movement that names a tank
abbrev pub opens_on : ℕ → Command → Bool
opens_on tank (Opening plan) = names_tank tank plan
opens_on tank command = false

-- a command closes or cancels a movement
abbrev pub ends : ℕ → Command → Bool
ends movement (Closing named first second) = named == movement
ends movement (Cancel named) = named == movement
ends movement command = false

-- a command reverses a ticket
abbrev pub reverses : ℕ → Command → Bool
reverses ticket (Reverse named) = named == ticket
reverses ticket command = false

-- a command issues a ticket
abbrev pub issues_ticket : Command → Bool
issues_ticket (Closing movement first second) = true
issues_ticket (Reverse ticket) = true
issues_ticket command = false

-- the plan of an Opening
abbrev pub plan_of : Command → Option Plan
plan_of (Opening plan) = Some plan
plan_of command = None
