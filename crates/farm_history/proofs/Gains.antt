-- Gains: each is what the tank holds by its figures less what it held by its book, and each Settle of a legal history has one.
use Rattle.std.proofs.Common.{◌≡◌, ℕ, ◌-◌, ◌≤◌, List, Option, Some, None, IsSome, option_and_then, option_map, Ok, refl, ap, sym, ◌∙◌, subst, arith}
use Rattle.std.proofs.lemmas.Int.{ints}
use Rattle.farm_fixed.specs.declared.records.Amount.{Amount}
use Rattle.farm_fixed.specs.declared.records.Quantities.{Quantities}
use Rattle.farm_stock.specs.declared.posting.Posting.{Posting}
use Rattle.farm_site.specs.declared.items.Tank.{Tank}
use Rattle.farm_history.specs.declared.command.Command.{Command}
use Rattle.farm_history.specs.declared.command.Command.TheVariants.{Settle}
use Rattle.farm_history.specs.declared.entry.Entry.{Entry}
use Rattle.farm_history.specs.declared.plan.Gauged.{Gauged}
use Rattle.farm_history.specs.Breaking.{IsComputed}
use Rattle.farm_history.specs.Figures.{figures_at, named, named_by}
use Rattle.farm_history.specs.History.{History, before, entry_at, last_place, tank_after}
use Rattle.farm_history.specs.Postings.{amount_held, book_with, gain_after, less, postings_of, postings_to}
use Rattle.farm_history.specs.Sites.{AreComputable}
use Rattle.farm_history.specs.Stocks.{IsGainAt, book_of, gain_at, gain_of}
use Rattle.farm_history.specs.Verdicts.{IsLegal}
use Rattle.farm_history.proofs.Accepted.{IsKept}
use Rattle.farm_history.proofs.FiguresStand.{computed, within_of}
use Rattle.farm_history.proofs.Placed.{calculated_there}
use Rattle.farm_history.proofs.PostingsStay.{postings_before}
use Rattle.farm_history.proofs.Sides.{figures_known}
use Rattle.farm_history.proofs.TicketsStand.{entered, figures_known as computed_figures}

-- a gain after postings, in its parts: the tank is there, its figures are known, and the gain is what it holds by them less its book
record IsGainAfter (history : History) (posted : List Posting) (number : ℕ) (gauged : Gauged) (gain : Amount) : Type 0 where
  tank : Tank
  there : tank_after history number ≡ Some tank
  figures : Quantities
  known : figures_at history (named number gauged) ≡ Some figures
  gain_is : gain ≡ less (amount_held figures) (book_with posted tank)

-- each gain has those parts
gain_parts : (history : History) (posted : List Posting) (number : ℕ) (gauged : Gauged) (gain : Amount) →
    gain_after history posted number gauged ≡ Some gain → IsGainAfter history posted number gauged gain
unfolding gain_after
gain_parts history posted number gauged gain e =
    by (tank_after history number) (figures_at history (named number gauged)) refl refl e
  where
    by : (found : Option Tank) (figures : Option Quantities) → tank_after history number ≡ found →
        figures_at history (named number gauged) ≡ figures →
        option_and_then (λ tank. option_map (λ known. less (amount_held known) (book_with posted tank)) figures) found ≡ Some gain →
        IsGainAfter history posted number gauged gain
    by None figures h k e = cc
    by (Some tank) None h k e = cc
    by (Some tank) (Some figures) h k e =
        let is : less (amount_held figures) (book_with posted tank) ≡ gain = cc in
        record { tank = tank; there = h; figures = figures; known = k; gain_is = sym is }

-- the book before a place is the one that the gain of the place goes by
book_before : (history : History) (place number : ℕ) (tank : Tank) → place ≤ last_place history →
    tank_after (before history place) number ≡ Some tank →
    book_of (before history place) number ≡ Some (book_with (postings_to history (place - 1)) tank)
unfolding book_of
book_before history place number tank within there =
    ap (option_map (book_with (postings_of (before history place)))) there
    ∙ ap (λ posted. Some (book_with posted tank)) (postings_before history place (omega arith))

-- the gain of a Settle is what its tank holds by its figures less its book
settle_gains : (history : History) (place : ℕ) (entry : Entry) (tank : ℕ) (gauged : Gauged) (gain : Amount) →
    entry_at history place ≡ Some entry → entry.cmd ≡ Settle tank gauged →
    gain_after (before history place) (postings_to history (place - 1)) tank gauged ≡ Some gain → IsGainAt history place gain
settle_gains history place entry number gauged gain there settle e =
    let past = before history place in
    let parts = gain_parts past (postings_to history (place - 1)) number gauged gain e in
    let book = book_with (postings_to history (place - 1)) parts.tank in
    let litres = ap (λ (amount : Amount). amount.litres) parts.gain_is in
    let kg = ap (λ (amount : Amount). amount.kg) parts.gain_is in
    record {
      entry = entry;
      there = there;
      tank = number;
      gauged = gauged;
      settle = settle;
      figures = parts.figures;
      calculated = figures_known past (named number gauged) parts.figures parts.known;
      book = book;
      held = book_before history place number parts.tank (within_of history place entry there) parts.there;
      litres = omega (arith, ints, litres);
      kg = omega (arith, ints, kg);
    }

-- a gain is what the tank holds by its figures less what it held by its book, in the words of the rule
pub gains_mean : (history : History) (place : ℕ) (gain : Amount) → gain_at history place ≡ Some gain → IsGainAt history place gain
unfolding gain_at
gains_mean history place gain e = by (entry_at history place) refl e
  where
    past : History
    past = before history place

    posted : List Posting
    posted = postings_to history (place - 1)

    of_command : (entry : Entry) (command : Command) → entry_at history place ≡ Some entry → entry.cmd ≡ command →
        gain_of past posted command ≡ Some gain → IsGainAt history place gain
    of_command entry (Settle tank gauged) there is e = settle_gains history place entry tank gauged gain there is e
    of_command entry command there is e = cc

    by : (found : Option Entry) → entry_at history place ≡ found →
        option_and_then (λ (entry : Entry). gain_of past posted entry.cmd) found ≡ Some gain → IsGainAt history place gain
    by None there e = cc
    by (Some entry) there e = of_command entry entry.cmd there refl e

-- a tank that is there, with its figures, has a gain
gain_known : (history : History) (posted : List Posting) (number : ℕ) (gauged : Gauged) → IsComputed history (named number gauged) →
    (gain : Amount) × (gain_after history posted number gauged ≡ Some gain)
unfolding gain_after tank_after
gain_known history posted number gauged known =
    by (tank_after history number) (calculated_there history (named number gauged) (Ok known.0) known.1)
  where
    figures : (figures : Quantities) × (figures_at history (named number gauged) ≡ Some figures)
    figures = computed_figures history (named number gauged) known

    gain : Tank → Amount
    gain tank = less (amount_held figures.0) (book_with posted tank)

    by : (found : Option Tank) → IsSome found →
        (gain : Amount) × (option_and_then (λ tank.
        option_map (λ known. less (amount_held known) (book_with posted tank)) (figures_at history (named number gauged))) found ≡ Some gain)
    by None there = cc
    by (Some tank) there = (gain tank, ap (option_map (λ known. less (amount_held known) (book_with posted tank))) figures.1)

-- in a legal history of a site whose tanks can be computed, each Settle has a gain
pub gains_stand : (limit : ℕ) (history : History) (place : ℕ) (entry : Entry) (tank : ℕ) (gauged : Gauged) → AreComputable history.site →
    IsLegal limit history → entry_at history place ≡ Some entry → entry.cmd ≡ Settle tank gauged →
    (gain : Amount) × (gain_at history place ≡ Some gain)
unfolding gain_at named_by
gains_stand limit history place entry tank gauged computable legal there is =
    let past = before history place in
    let posted = postings_to history (place - 1) in
    let known = entered limit history place entry legal there in
    let Keeps : Command → Type 0 = λ command. IsKept past command in
    let keeps : IsKept past (Settle tank gauged) = subst Keeps is known.keeps in
    let sound = keeps.sound (named tank gauged) (0, omega arith, refl) in
    let gain = gain_known past posted tank gauged (computed limit past (named tank gauged) computable known.legal sound) in (
      gain.0,
      ap (option_and_then (λ (entry : Entry). gain_of past posted entry.cmd)) there ∙ ap (gain_of past posted) is ∙ gain.1,
    )
