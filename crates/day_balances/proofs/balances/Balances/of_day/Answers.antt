-- Answers to the open goals of `of_day`.
use Rattle.std.proofs.Common.{ℕ, ◌-◌, ◌≤◌, ℤ, All, List, drop, length, take, w64, ap, ap₂, ◌∙◌, subst}
use Rattle.std.proofs.lemmas.Int.{to_z-of_z}
use Rattle.farm_site.specs.declared.items.Tank.{Tank}
use Rattle.farm_history.specs.declared.entry.Entry.{Entry}
use Rattle.farm_history.specs.History.{History}
use Rattle.day_balances.specs.Balances.{IsDayBalance, balance_between, day_balance}
use Rattle.day_balances.specs.Days.{AreParted, count_before, count_through}
use Rattle.day_balances.proofs.Meaning.{day_balances_meant}
use Rattle.day_balances.proofs.balances.Balances.of_day.Goals as goal

pub returns-clause-meaning : goal.returns-clause-meaning
unfolding day_balance
returns-clause-meaning c =
    let history = c.args.past.now in
    let places = c.places_of-places in
    let same = to_z-of_z w64 c.args.day (record { sfits = c.ranges.day.sfits }) in
    let entries = ap (λ (history : History). history.entries) c.past.view_is in
    let Parted : ℤ → List Entry → Type 0 = λ day entries. AreParted day entries (take places.result.before entries)
    (take (places.result.through - places.result.before) (drop places.result.before entries)) (drop places.result.through entries) in
    let parted = subst (Parted c.args.day) entries (subst (λ day. Parted day c.past.inside.entries.now) same places.ensures.parted) in
    let within = subst (λ (entries : List Entry). places.result.through ≤ length entries) entries places.ensures.within in
    let Meant : ℕ → ℕ → Type 0 = λ before through.
    All (λ (tank : Tank). IsDayBalance history c.args.day tank.number (balance_between history before through tank)) history.site.tanks in
    subst (λ before. Meant before (count_through c.args.day history.entries)) (places.ensures.before ∙ ap₂ count_before same entries)
    (subst (Meant places.result.before) (places.ensures.through ∙ ap₂ count_through same entries)
    (day_balances_meant history c.args.day places.result.before places.result.through c.requires.rising places.ensures.order within parted))
