-- What a command breaks by itself, and what it is answered, doesn't depend on the moments of the entries.
use Rattle.std.proofs.Common.{◌≡◌, ℕ, ◌||◌, not, Bool, List, [], ◌∷◌, Option, Some, None, option_and_then, option_map, refl, ap, ap₂, ◌∙◌}
use Rattle.std.specs.List.{list_any}
use Rattle.farm_base.specs.Steps.{or_else}
use Rattle.farm_fixed.specs.declared.records.Amount.{Amount}
use Rattle.farm_fixed.specs.declared.records.ChainRule.{ChainRule}
use Rattle.farm_history.specs.declared.command.Command.{Command}
use Rattle.farm_history.specs.declared.command.Command.TheVariants.{Gauge, Dip, Sample, Opening, Closing, Cancel, Reverse, Settle, Stop}
use Rattle.farm_history.specs.declared.entry.Entry.{Entry}
use Rattle.farm_history.specs.declared.plan.Named.{Named}
use Rattle.farm_history.specs.declared.query.Query.{Query}
use Rattle.farm_history.specs.declared.query.Query.TheVariants as queries
use Rattle.farm_history.specs.declared.reply.Reply.TheVariants as replies
use Rattle.farm_history.specs.declared.rule.Rule.TheVariants.{TankBusy, UnknownReading, UnknownSample, StaleReading, NoEntry, CriticalZone, Negative, WrongWay, UnknownTicket, AlreadyReversed, Settled}
use Rattle.farm_history.specs.Commands.{is_gauging_of, is_sample_of, tanks_needed}
use Rattle.farm_history.specs.Desk.{looked_up, place_or_zero, reply_at, reply_of, stock_or_none, ticket_or_none}
use Rattle.farm_history.specs.Figures.{named_by}
use Rattle.farm_history.specs.Gauging.{gauging_after}
use Rattle.farm_history.specs.Given.{first_given}
use Rattle.farm_history.specs.History.{History, entry_at, tank_after}
use Rattle.farm_history.specs.MovementRules.{already_reversed, broken_where, closes_wrong, critical_zone, is_closing, is_critical_zone, is_negative, is_no_entry, is_refused_on, is_refused_with, is_there, is_wrong_way, misses_one, movement_named, names_too_few_or_many, negative, no_entry, no_movement, other_product, settled, settled_after, settled_later, stale_for, stale_reading, tank_busy, ticket_named, unknown_party, unknown_reading, unknown_sample, unknown_ticket, unless_open, used_later, wrong_way}
use Rattle.farm_history.specs.Rules.{broken_by_command, broken_by_figures, broken_by_movement, broken_by_names, broken_by_ticket, refused_gauging, unknown_tank}
use Rattle.farm_history.specs.Stocks.{book_of}
use Rattle.farm_history.specs.Tickets.{closing_ticket, tanks_of_ticket}
use Rattle.farm_batch.proofs.Timeless.{and_then_same, same_calculated, same_entry, same_holding, same_named, same_open, same_opened, same_reversal, same_settlement, same_used, without_moment, without_moments}
use Rattle.farm_batch.proofs.TimelessStocks.{same_book, same_gain, same_lasts, same_total}
use Rattle.farm_batch.proofs.TimelessTickets.{same_closing_ticket, same_ticket, same_to_close}

-- what is given first by the same is the same
same_first : {A B : Type 0} (f g : A → Option B) → ((a : A) → f a ≡ g a) → (items : List A) → first_given f items ≡ first_given g items
same_first f g same [] = refl
same_first f g same (item ∷ items) = ap₂ or_else (same item) (same_first f g same items)

-- whether the same test of any passes is the same
same_any_of : {A : Type 0} (f g : A → Bool) → ((a : A) → f a ≡ g a) → (items : List A) → list_any f items ≡ list_any g items
same_any_of f g same [] = refl
same_any_of f g same (item ∷ items) = ap₂ (λ here later. here || later) (same item) (same_any_of f g same items)

-- whether a test of what a command names passes
same_of_named : (history : History) (command : Command) (f g : Named → Bool) → ((pair : Named) → f pair ≡ g pair) →
    list_any f (named_by (without_moments history) command) ≡ list_any g (named_by history command)
same_of_named history command f g same =
    ap (list_any f) (same_named history command) ∙ same_any_of f g same (named_by history command)

-- whether a test of the command at a place passes
same_there : (history : History) (test : Command → Bool) (place : ℕ) →
    is_there test (entry_at (without_moments history) place) ≡ is_there test (entry_at history place)
same_there history test place = ap (is_there test) (same_entry history place) ∙ by (entry_at history place)
  where
    by : (entry : Option Entry) → is_there test (option_map without_moment entry) ≡ is_there test entry
    by None = refl
    by (Some entry) = refl

-- rule 11
same_busy : (history : History) (command : Command) → tank_busy (without_moments history) command ≡ tank_busy history command
unfolding tank_busy
same_busy history command = ap (option_map TankBusy) (same_first _ _ (same_holding history) (tanks_needed command))

-- rule 12
same_movement_rule : (history : History) (command : Command) → no_movement (without_moments history) command ≡ no_movement history command
unfolding no_movement
same_movement_rule history command = and_then_same _ _ (λ movement. ap unless_open (same_open history movement)) (movement_named command)

-- whether a Closing names too few or too many
same_count : (history : History) (command : Command) → names_too_few_or_many (without_moments history) command ≡ names_too_few_or_many history command
same_count history (Closing movement first second) = ap (λ plan. misses_one plan second) (same_opened history movement)
same_count history (Gauge number level water temperature ambient) = refl
same_count history (Dip number outage tapes water temperatures ambient) = refl
same_count history (Sample number density sw) = refl
same_count history (Opening plan) = refl
same_count history (Cancel movement) = refl
same_count history (Reverse ticket) = refl
same_count history (Settle tank gauged) = refl
same_count history Stop = refl

-- rule 13
same_readings : (history : History) (command : Command) → unknown_reading (without_moments history) command ≡ unknown_reading history command
unfolding unknown_reading
same_readings history command =
    ap₂ (λ count lacks. broken_where (count || lacks) UnknownReading) (same_count history command)
    (same_of_named history command _ _ (λ pair. ap not (same_there history (is_gauging_of pair.tank) pair.gauged.reading)))

-- rule 14
same_samples : (history : History) (command : Command) → unknown_sample (without_moments history) command ≡ unknown_sample history command
unfolding unknown_sample
same_samples history command =
    ap (λ lacks. broken_where lacks UnknownSample)
    (same_of_named history command _ _ (λ pair. ap not (same_there history (is_sample_of pair.tank) pair.gauged.sample)))

-- the place for which a reading is stale
same_stale_for : (history : History) (command : Command) (pair : Named) → stale_for (without_moments history) command pair ≡ stale_for history command pair
same_stale_for history (Opening plan) pair = ap (used_later pair.gauged.reading) (same_used history pair.tank)
same_stale_for history (Settle tank gauged) pair = ap (used_later pair.gauged.reading) (same_used history pair.tank)
same_stale_for history (Closing movement first second) pair = refl
same_stale_for history (Gauge number level water temperature ambient) pair = refl
same_stale_for history (Dip number outage tapes water temperatures ambient) pair = refl
same_stale_for history (Sample number density sw) pair = refl
same_stale_for history (Cancel movement) pair = refl
same_stale_for history (Reverse ticket) pair = refl
same_stale_for history Stop pair = refl

-- rule 15
same_stale : (history : History) (command : Command) → stale_reading (without_moments history) command ≡ stale_reading history command
unfolding stale_reading
same_stale history command =
    ap (option_map StaleReading)
    (ap (first_given (stale_for (without_moments history) command)) (same_named history command)
    ∙ same_first _ _ (same_stale_for history command) (named_by history command))

-- whether a calculation is refused so
same_refused : (test : ChainRule → Bool) (history : History) (command : Command) → is_refused_on test (without_moments history) command ≡ is_refused_on test history command
same_refused test history command = same_of_named history command _ _ (λ pair. ap (is_refused_with test) (same_calculated history pair))

-- whether a Closing goes the wrong way
same_wrong : (history : History) (command : Command) → is_wrong_way (without_moments history) command ≡ is_wrong_way history command
same_wrong history (Closing movement first second) = ap closes_wrong (same_to_close history movement first second)
same_wrong history (Gauge number level water temperature ambient) = refl
same_wrong history (Dip number outage tapes water temperatures ambient) = refl
same_wrong history (Sample number density sw) = refl
same_wrong history (Opening plan) = refl
same_wrong history (Cancel movement) = refl
same_wrong history (Reverse ticket) = refl
same_wrong history (Settle tank gauged) = refl
same_wrong history Stop = refl

-- rules 16 to 19
same_by_figures : (history : History) (command : Command) → broken_by_figures (without_moments history) command ≡ broken_by_figures history command
unfolding broken_by_figures no_entry critical_zone negative wrong_way
same_by_figures history command =
    ap₂ or_else (ap (λ test. broken_where test NoEntry) (same_refused is_no_entry history command))
    (ap₂ or_else (ap (λ test. broken_where test CriticalZone) (same_refused is_critical_zone history command))
    (ap₂ or_else (ap (λ test. broken_where test Negative) (same_refused is_negative history command))
    (ap (λ test. broken_where test WrongWay) (same_wrong history command))))

-- rules 13 to 19
same_by_names : (history : History) (command : Command) → broken_by_names (without_moments history) command ≡ broken_by_names history command
unfolding broken_by_names
same_by_names history command =
    ap₂ or_else (same_readings history command)
    (ap₂ or_else (same_samples history command) (ap₂ or_else (same_stale history command) (same_by_figures history command)))

-- rule 20
same_unknown_ticket : (history : History) (command : Command) → unknown_ticket (without_moments history) command ≡ unknown_ticket history command
unfolding unknown_ticket
same_unknown_ticket history command =
    and_then_same _ _ (λ ticket. ap (λ there. broken_where (not there) UnknownTicket) (same_there history is_closing ticket)) (ticket_named command)

-- rule 21, its first part
same_reversed : (history : History) (command : Command) → already_reversed (without_moments history) command ≡ already_reversed history command
unfolding already_reversed
same_reversed history command = and_then_same _ _ (λ ticket. ap (option_map AlreadyReversed) (same_reversal history ticket)) (ticket_named command)

-- rule 21, its second part
same_settled : (history : History) (command : Command) → settled (without_moments history) command ≡ settled history command
unfolding settled
same_settled history command =
    and_then_same _ _ (λ place.
    ap (option_map Settled)
    (ap (option_and_then (settled_after (without_moments history) place)) (same_closing_ticket history place)
    ∙ and_then_same _ _ (λ ticket. same_first _ _ (λ tank. ap (settled_later place) (same_settlement history tank)) (tanks_of_ticket ticket))
    (closing_ticket history place)))
    (ticket_named command)

-- rules 20 and 21
same_by_ticket : (history : History) (command : Command) → broken_by_ticket (without_moments history) command ≡ broken_by_ticket history command
unfolding broken_by_ticket
same_by_ticket history command =
    ap₂ or_else (same_unknown_ticket history command) (ap₂ or_else (same_reversed history command) (same_settled history command))

-- rule 10, which looks at the tanks of the site alone
same_products : (history : History) (command : Command) → other_product (without_moments history) command ≡ other_product history command
unfolding other_product tank_after
same_products history command = refl

-- rules 9 to 21
same_by_movement : (history : History) (command : Command) → broken_by_movement (without_moments history) command ≡ broken_by_movement history command
unfolding broken_by_movement
same_by_movement history command =
    ap (or_else _)
    (ap₂ or_else (same_products history command)
    (ap₂ or_else (same_busy history command)
    (ap₂ or_else (same_movement_rule history command)
    (ap₂ or_else (same_by_names history command) (same_by_ticket history command)))))

-- rules 3 and 4, and the gauging, which look at the site alone
same_by_site : (history : History) (command : Command) →
    (unknown_tank (without_moments history) command ≡ unknown_tank history command)
    × (unknown_party (without_moments history) command ≡ unknown_party history command)
    × (gauging_after (without_moments history) command ≡ gauging_after history command)
unfolding unknown_tank tank_after unknown_party gauging_after
same_by_site history command = (refl, refl, refl)

-- what a command breaks by itself
pub same_by_command : (history : History) (command : Command) → broken_by_command (without_moments history) command ≡ broken_by_command history command
unfolding broken_by_command
same_by_command history command =
    let site = same_by_site history command in
    ap₂ or_else site.0
    (ap₂ or_else site.1
    (ap (or_else _) (ap₂ (λ gauging later. or_else (option_and_then refused_gauging gauging) later) site.2 (same_by_movement history command))))

-- the reply for the entry at a place
pub same_reply : (history : History) (place : ℕ) → reply_at (without_moments history) place ≡ reply_at history place
unfolding reply_at
same_reply history place = ap₂ (λ ticket gain. reply_of ticket gain place) (same_ticket history place) (same_gain history place)

-- the reply to a look-up
pub same_look : (history : History) (query : Query) → looked_up (without_moments history) query ≡ looked_up history query
unfolding looked_up
same_look history (queries.Ticket place) = ap ticket_or_none (same_ticket history place)
same_look history (queries.Stock tank) =
    ap (stock_or_none (without_moments history) tank) (same_book history tank) ∙ by (book_of history tank) where
      by : (book : Option Amount) → stock_or_none (without_moments history) tank book ≡ stock_or_none history tank book
      by None = refl
      by (Some book) = ap₂ (λ reading sample. replies.Stock tank book (place_or_zero reading) (place_or_zero sample)) (same_lasts history tank).0 (same_lasts history tank).1
same_look history queries.Total = ap₂ replies.Total (same_total history).0 (same_total history).1
