-- Two commands are the same by the test exactly where they are one.
use Rattle.std.proofs.Common.{◌≡◌, ◌↔◌, ℕ, Bool, true, false, ◌&&◌, ◌==◌, IsTrue, Decides, List, Option, Some, None, ℤ, int_eq, refl, ap, ap₂}
use Rattle.std.specs.Cmp.Lexicographic.{pointwise}
use Rattle.std.specs.Cmp.Rules.{signed_items}
use Rattle.std.proofs.lemmas.Bool.Decides.{Decides-and, Decides-eqb, Decides-int_eq, Decides-like}
use Rattle.farm_history.specs.declared.few.Few.{Few}
use Rattle.farm_history.specs.declared.command.Command.{Command}
use Rattle.farm_history.specs.declared.command.Command.TheVariants.{Gauge, Dip, Sample, Opening, Closing, Cancel, Reverse, Settle, Stop}
use Rattle.farm_history.specs.declared.plan.Gauged.{Gauged}
use Rattle.farm_history.specs.declared.plan.Plan.{Plan}
use Rattle.farm_history.specs.declared.plan.Plan.TheVariants.{Outside, Transfer}
use Rattle.farm_ticket.specs.declared.side.Way.{Way}
use Rattle.farm_ticket.specs.declared.side.Way.TheVariants.{Inward, Outward}
use Rattle.farm_history.specs.Commands.{is_same_command, is_same_gauged, is_same_kind, is_same_list, is_same_plan, is_same_second, is_same_way}

-- two lists of the same count and numbers are one
one_list : (few other : Few) → (few.count ≡ other.count) × (few.values ≡ other.values) → few ≡ other
one_list few other same = let make : ℕ → List ℤ → Few = λ count values. record { count = count; values = values } in ap₂ make same.0 same.1

-- two lists are the same exactly where they are one
lists_decided : (few other : Few) → Decides (is_same_list few other) (few ≡ other)
lists_decided few other = Decides-like (is_same_list few other) (one_list few other)
    (λ e. (ap (λ (f : Few). f.count) e, ap (λ (f : Few). f.values) e))
    (Decides-and (few.count == other.count) (pointwise int_eq few.values other.values)
    (Decides-eqb few.count other.count) (signed_items few.values other.values))

-- two kinds are the same exactly where they are one
kinds_decided : (outage other : Bool) → Decides (is_same_kind outage other) (outage ≡ other)
kinds_decided true true = (λ _. refl, λ _. refl)
kinds_decided true false = (λ e. cc, λ e. cc)
kinds_decided false true = (λ e. cc, λ e. cc)
kinds_decided false false = (λ _. refl, λ _. refl)

-- one test and another decide two facts
both : {P Q : Type 0} {a b : Bool} → Decides a P → Decides b Q → Decides (a && b) (P × Q)
both {a = a} {b = b} first second = Decides-and a b first second

-- two ways are the same exactly where they are one
ways_decided : (way other : Way) → Decides (is_same_way way other) (way ≡ other)
ways_decided Inward Inward = (λ _. refl, λ _. refl)
ways_decided Inward Outward = (λ e. cc, λ e. cc)
ways_decided Outward Inward = (λ e. cc, λ e. cc)
ways_decided Outward Outward = (λ _. refl, λ _. refl)

-- what is named at the same places is one
one_gauged : (gauged other : Gauged) → (gauged.reading ≡ other.reading) × (gauged.sample ≡ other.sample) → gauged ≡ other
one_gauged gauged other same =
    let make : ℕ → ℕ → Gauged = λ reading sample. record { reading = reading; sample = sample } in
    ap₂ make same.0 same.1

-- what is named is the same exactly where it is one
gauged_decided : (gauged other : Gauged) → Decides (is_same_gauged gauged other) (gauged ≡ other)
gauged_decided gauged other = Decides-like (is_same_gauged gauged other) (one_gauged gauged other)
    (λ e. (ap (λ (g : Gauged). g.reading) e, ap (λ (g : Gauged). g.sample) e))
    (both (Decides-eqb gauged.reading other.reading) (Decides-eqb gauged.sample other.sample))

-- and what is named for second tanks
seconds_decided : (second other : Option Gauged) → Decides (is_same_second second other) (second ≡ other)
seconds_decided None None = (λ _. refl, λ _. refl)
seconds_decided None (Some other) = (λ e. cc, λ e. cc)
seconds_decided (Some gauged) None = (λ e. cc, λ e. cc)
seconds_decided (Some gauged) (Some other) = Decides-like (is_same_gauged gauged other) (λ e. ap Some e) (λ e. cc) (gauged_decided gauged other)

-- two plans are the same exactly where they are one
plans_decided : (plan other : Plan) → Decides (is_same_plan plan other) (plan ≡ other)
plans_decided (Outside way tank party gauged) (Outside way2 tank2 party2 gauged2) =
    Decides-like (is_same_way way way2 && tank == tank2 && party == party2 && is_same_gauged gauged gauged2)
    (λ h. let a = h.0.0.0 in let b = h.0.0.1 in let c = h.0.1 in let d = h.1 in cc)
    (λ e. (((cc, cc), cc), cc))
    (both (both (both (ways_decided way way2) (Decides-eqb tank tank2)) (Decides-eqb party party2)) (gauged_decided gauged gauged2))
plans_decided (Outside way tank party gauged) (Transfer from to from_gauged to_gauged) = (λ e. cc, λ e. cc)
plans_decided (Transfer from to from_gauged to_gauged) (Outside way tank party gauged) = (λ e. cc, λ e. cc)
plans_decided (Transfer from to from_gauged to_gauged) (Transfer from2 to2 from_gauged2 to_gauged2) =
    Decides-like (from == from2 && to == to2 && is_same_gauged from_gauged from_gauged2 && is_same_gauged to_gauged to_gauged2)
    (λ h. let a = h.0.0.0 in let b = h.0.0.1 in let c = h.0.1 in let d = h.1 in cc)
    (λ e. (((cc, cc), cc), cc))
    (both (both (both (Decides-eqb from from2) (Decides-eqb to to2)) (gauged_decided from_gauged from_gauged2)) (gauged_decided to_gauged to_gauged2))

-- the test decides whether two commands are one
pub commands_decided : (command other : Command) → Decides (is_same_command command other) (command ≡ other)
unfolding is_same_command
commands_decided (Gauge tank level water temperature ambient) (Gauge tank2 level2 water2 temperature2 ambient2) =
    Decides-like (tank == tank2 && int_eq level level2 && int_eq water water2 && int_eq temperature temperature2 && int_eq ambient ambient2)
    (λ h. let a = h.0.0.0.0 in let b = h.0.0.0.1 in let c = h.0.0.1 in let d = h.0.1 in let e = h.1 in cc)
    (λ e. ((((cc, cc), cc), cc), cc))
    (both (both (both (both (Decides-eqb tank tank2) (Decides-int_eq level level2)) (Decides-int_eq water water2))
    (Decides-int_eq temperature temperature2)) (Decides-int_eq ambient ambient2))
commands_decided (Dip tank outage tapes water temperatures ambient) (Dip tank2 outage2 tapes2 water2 temperatures2 ambient2) =
    Decides-like (tank == tank2 && is_same_kind outage outage2 && is_same_list tapes tapes2 && is_same_list water water2
    && is_same_list temperatures temperatures2 && int_eq ambient ambient2)
    (λ h. let a = h.0.0.0.0.0 in let b = h.0.0.0.0.1 in let c = h.0.0.0.1 in let d = h.0.0.1 in let e = h.0.1 in let f = h.1 in cc)
    (λ e. (((((cc, cc), cc), cc), cc), cc))
    (both (both (both (both (both (Decides-eqb tank tank2) (kinds_decided outage outage2)) (lists_decided tapes tapes2)) (lists_decided water water2))
    (lists_decided temperatures temperatures2)) (Decides-int_eq ambient ambient2))
commands_decided (Sample tank density sw) (Sample tank2 density2 sw2) =
    Decides-like (tank == tank2 && int_eq density density2 && int_eq sw sw2)
    (λ h. let a = h.0.0 in let b = h.0.1 in let c = h.1 in cc)
    (λ e. ((cc, cc), cc))
    (both (both (Decides-eqb tank tank2) (Decides-int_eq density density2)) (Decides-int_eq sw sw2))
commands_decided (Opening plan) (Opening plan2) = Decides-like (is_same_plan plan plan2) (λ e. ap Opening e) (λ e. cc) (plans_decided plan plan2)
commands_decided (Closing movement first second) (Closing movement2 first2 second2) =
    Decides-like (movement == movement2 && is_same_gauged first first2 && is_same_second second second2)
    (λ h. let a = h.0.0 in let b = h.0.1 in let c = h.1 in cc)
    (λ e. ((cc, cc), cc))
    (both (both (Decides-eqb movement movement2) (gauged_decided first first2)) (seconds_decided second second2))
commands_decided (Cancel movement) (Cancel movement2) =
    Decides-like (movement == movement2) (λ e. ap Cancel e) (λ e. cc) (Decides-eqb movement movement2)
commands_decided (Reverse ticket) (Reverse ticket2) = Decides-like (ticket == ticket2) (λ e. ap Reverse e) (λ e. cc) (Decides-eqb ticket ticket2)
commands_decided (Settle tank gauged) (Settle tank2 gauged2) =
    Decides-like (tank == tank2 && is_same_gauged gauged gauged2) (λ h. let a = h.0 in let b = h.1 in cc) (λ e. (cc, cc))
    (both (Decides-eqb tank tank2) (gauged_decided gauged gauged2))
commands_decided Stop Stop = (λ _. refl, λ _. refl)
commands_decided command other = (λ e. cc, λ e. cc)

-- the test holds exactly of equal commands
pub same_commands_are_one : (command other : Command) → IsTrue (is_same_command command other) ↔ (command ≡ other)
same_commands_are_one command other = let decided = commands_decided command other in (decided.0, decided.1)
