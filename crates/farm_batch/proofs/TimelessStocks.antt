-- Postings, books and gains don't depend on the moments of the entries.
use Rattle.std.proofs.Common.{◌≡◌, ℕ, zero, suc, ◌+◌, ◌-◌, List, ◌++◌, map, Option, Some, None, option_and_then, option_map, refl, ap, ap₂, ◌∙◌}
use Rattle.std.proofs.lemmas.List.{length-map}
use Rattle.farm_stock.specs.Books.{sum_of}
use Rattle.farm_stock.specs.declared.posting.Posting.{Posting}
use Rattle.farm_history.specs.declared.command.Command.{Command}
use Rattle.farm_history.specs.declared.command.Command.TheVariants.{Gauge, Dip, Sample, Opening, Closing, Cancel, Reverse, Settle, Stop}
use Rattle.farm_history.specs.declared.entry.Entry.{Entry}
use Rattle.farm_history.specs.declared.plan.Gauged.{Gauged}
use Rattle.farm_history.specs.Commands.{is_gauging_of, is_sample_of}
use Rattle.farm_history.specs.Figures.{named}
use Rattle.farm_history.specs.History.{History, before, entry_at, last_place, tank_after}
use Rattle.farm_history.specs.Postings.{amount_held, book_with, gain_after, gain_posted, less, opposite_posting, posted_at, posted_by, posted_in, postings_issued, postings_of, postings_to}
use Rattle.farm_history.specs.Stocks.{book_of, gain_at, gain_of, last_reading, last_sample, total_of}
use Rattle.farm_history.specs.Tickets.{issued_by_closing}
use Rattle.farm_batch.proofs.Timeless.{and_then_same, last_of_image, of_command, same_before, same_entry, same_figures, without_moment, without_moments}
use Rattle.farm_batch.proofs.TimelessTickets.{same_closing, same_closing_ticket}

-- the number of entries
same_number : (history : History) → last_place (without_moments history) ≡ last_place history
same_number history = length-map history.entries without_moment

-- the gain of a tank that is settled
same_gain_after : (history : History) (posted : List Posting) (number : ℕ) (gauged : Gauged) →
    gain_after (without_moments history) posted number gauged ≡ gain_after history posted number gauged
unfolding gain_after tank_after
same_gain_after history posted number gauged =
    and_then_same _ _
    (λ tank. ap (option_map (λ figures. less (amount_held figures) (book_with posted tank))) (same_figures history (named number gauged)))
    (tank_after history number)

-- what a command posts
same_posted_by : (history : History) (posted : List Posting) (command : Command) →
    posted_by (without_moments history) posted command ≡ posted_by history posted command
unfolding posted_by
same_posted_by history posted (Closing movement first second) =
    ap (λ number. postings_issued (issued_by_closing (without_moments history) (number + 1) (Closing movement first second))) (same_number history)
    ∙ ap postings_issued (same_closing history (last_place history + 1) (Closing movement first second))
same_posted_by history posted (Reverse ticket) =
    ap (λ closed. map opposite_posting (postings_issued closed)) (same_closing_ticket history ticket)
same_posted_by history posted (Settle tank gauged) = ap (gain_posted tank) (same_gain_after history posted tank gauged)
same_posted_by history posted (Gauge number level water temperature ambient) = refl
same_posted_by history posted (Dip number outage tapes water temperatures ambient) = refl
same_posted_by history posted (Sample number density sw) = refl
same_posted_by history posted (Opening plan) = refl
same_posted_by history posted (Cancel movement) = refl
same_posted_by history posted Stop = refl

-- what the entry at a place posts
same_posted_at : (history : History) (place : ℕ) (posted : List Posting) →
    posted_at (without_moments history) place posted ≡ posted_at history place posted
unfolding posted_at
same_posted_at history place posted =
    ap (posted_in (before (without_moments history) place) posted) (same_entry history place) ∙ by (entry_at history place)
  where
    by : (entry : Option Entry) → posted_in (before (without_moments history) place) posted (option_map without_moment entry)
        ≡ posted_in (before history place) posted entry
    by None = refl
    by (Some entry) =
        ap (λ past. posted_by past posted entry.cmd) (same_before history place) ∙ same_posted_by (before history place) posted entry.cmd

-- the postings of the entries up to a place
same_postings : (history : History) (place : ℕ) → postings_to (without_moments history) place ≡ postings_to history place
unfolding postings_to
same_postings history zero = refl
same_postings history (suc place) =
    ap (λ posted. posted ++ posted_at (without_moments history) (suc place) posted) (same_postings history place)
    ∙ ap (λ here. postings_to history place ++ here) (same_posted_at history (suc place) (postings_to history place))

-- all postings
same_postings_of : (history : History) → postings_of (without_moments history) ≡ postings_of history
same_postings_of history = ap (postings_to (without_moments history)) (same_number history) ∙ same_postings history (last_place history)

-- the book of a tank
pub same_book : (history : History) (tank : ℕ) → book_of (without_moments history) tank ≡ book_of history tank
unfolding book_of tank_after
same_book history tank = ap (λ posted. option_map (book_with posted) (tank_after history tank)) (same_postings_of history)

-- the number of entries and the total
pub same_total : (history : History) →
    (last_place (without_moments history) ≡ last_place history) × (total_of (without_moments history) ≡ total_of history)
unfolding total_of
same_total history = (same_number history, ap (λ posted. sum_of (map (book_with posted) history.site.tanks)) (same_postings_of history))

-- the gain that a command records
same_gain_of : (history : History) (posted : List Posting) (command : Command) →
    gain_of (without_moments history) posted command ≡ gain_of history posted command
same_gain_of history posted (Settle tank gauged) = same_gain_after history posted tank gauged
same_gain_of history posted (Gauge number level water temperature ambient) = refl
same_gain_of history posted (Dip number outage tapes water temperatures ambient) = refl
same_gain_of history posted (Sample number density sw) = refl
same_gain_of history posted (Opening plan) = refl
same_gain_of history posted (Closing movement first second) = refl
same_gain_of history posted (Cancel movement) = refl
same_gain_of history posted (Reverse ticket) = refl
same_gain_of history posted Stop = refl

-- the gain of the entry at a place
pub same_gain : (history : History) (place : ℕ) → gain_at (without_moments history) place ≡ gain_at history place
unfolding gain_at
same_gain history place =
    let posted = postings_to (without_moments history) (place - 1) in
    let past = before (without_moments history) place in
    ap (option_and_then (λ (entry : Entry). gain_of past posted entry.cmd)) (same_entry history place)
    ∙ of_command (gain_of past posted) (entry_at history place)
    ∙ and_then_same _ _ (λ entry.
    ap₂ (λ past posted. gain_of past posted entry.cmd) (same_before history place) (same_postings history (place - 1))
    ∙ same_gain_of (before history place) (postings_to history (place - 1)) entry.cmd)
    (entry_at history place)

-- the last reading and the last sample of a tank
pub same_lasts : (history : History) (tank : ℕ) →
    (last_reading (without_moments history) tank ≡ last_reading history tank) × (last_sample (without_moments history) tank ≡ last_sample history tank)
unfolding last_reading last_sample
same_lasts history tank = (
  last_of_image without_moment (λ (entry : Entry). is_gauging_of tank entry.cmd) 1 history.entries,
  last_of_image without_moment (λ (entry : Entry). is_sample_of tank entry.cmd) 1 history.entries,
)
