-- Answers to the open goals of `history_laws`.
use Rattle.farm_history.proofs.Books.{books_grow, books_mean}
use Rattle.farm_history.proofs.Dips.{dip_faults_mean}
use Rattle.farm_history.proofs.Gains.{gains_mean, gains_stand}
use Rattle.farm_history.proofs.Holdings.{holdings_mean}
use Rattle.farm_history.proofs.LastPlaces.{last_places_mean}
use Rattle.farm_history.proofs.Legal.{desk_keeps_legal, empty_is_legal}
use Rattle.farm_history.proofs.OneVerdict.{verdicts_are_one}
use Rattle.farm_history.proofs.OpenMovements.{open_movements_mean}
use Rattle.farm_history.proofs.PostBack.{reverses_post_back}
use Rattle.farm_history.proofs.PostingsStay.{postings_grow}
use Rattle.farm_history.proofs.Ranges.{ranges_mean}
use Rattle.farm_history.proofs.Repeats.{keys_act_once, repeats_change_nothing}
use Rattle.farm_history.proofs.SameCommands.{same_commands_are_one}
use Rattle.farm_history.proofs.StocksAgree.{stocks_agree}
use Rattle.farm_history.proofs.TicketsMean.{tickets_mean}
use Rattle.farm_history.proofs.TicketsStand.{tickets_stand}
use Rattle.farm_history.proofs.Totals.{totals_grow, totals_mean}
use Rattle.farm_history.proofs.Uses.{uses_mean}
use Rattle.farm_history.proofs.Verdicts.{verdicts_mean}
use Rattle.farm_history.proofs.laws.history_laws.Goals as goal

pub returns-clause-same_commands_are_one : goal.returns-clause-same_commands_are_one
returns-clause-same_commands_are_one c = same_commands_are_one

pub returns-clause-ranges_mean : goal.returns-clause-ranges_mean
returns-clause-ranges_mean c = ranges_mean

pub returns-clause-dip_faults_mean : goal.returns-clause-dip_faults_mean
returns-clause-dip_faults_mean c = dip_faults_mean

pub returns-clause-open_movements_mean : goal.returns-clause-open_movements_mean
returns-clause-open_movements_mean c = open_movements_mean

pub returns-clause-holdings_mean : goal.returns-clause-holdings_mean
returns-clause-holdings_mean c = holdings_mean

pub returns-clause-uses_mean : goal.returns-clause-uses_mean
returns-clause-uses_mean c = uses_mean

pub returns-clause-tickets_mean : goal.returns-clause-tickets_mean
returns-clause-tickets_mean c = tickets_mean

pub returns-clause-tickets_stand : goal.returns-clause-tickets_stand
returns-clause-tickets_stand c = tickets_stand

pub returns-clause-last_places_mean : goal.returns-clause-last_places_mean
returns-clause-last_places_mean c = last_places_mean

pub returns-clause-verdicts_mean : goal.returns-clause-verdicts_mean
returns-clause-verdicts_mean c = verdicts_mean

pub returns-clause-verdicts_are_one : goal.returns-clause-verdicts_are_one
returns-clause-verdicts_are_one c = verdicts_are_one

pub returns-clause-empty_is_legal : goal.returns-clause-empty_is_legal
returns-clause-empty_is_legal c = empty_is_legal

pub returns-clause-desk_keeps_legal : goal.returns-clause-desk_keeps_legal
returns-clause-desk_keeps_legal c = desk_keeps_legal

pub returns-clause-keys_act_once : goal.returns-clause-keys_act_once
returns-clause-keys_act_once c = keys_act_once

pub returns-clause-gains_mean : goal.returns-clause-gains_mean
returns-clause-gains_mean c = gains_mean

pub returns-clause-gains_stand : goal.returns-clause-gains_stand
returns-clause-gains_stand c = gains_stand

pub returns-clause-reverses_post_back : goal.returns-clause-reverses_post_back
returns-clause-reverses_post_back c = reverses_post_back

pub returns-clause-postings_grow : goal.returns-clause-postings_grow
returns-clause-postings_grow c = postings_grow

pub returns-clause-books_grow : goal.returns-clause-books_grow
returns-clause-books_grow c = books_grow

pub returns-clause-books_mean : goal.returns-clause-books_mean
returns-clause-books_mean c = books_mean

pub returns-clause-totals_mean : goal.returns-clause-totals_mean
returns-clause-totals_mean c = totals_mean

pub returns-clause-totals_grow : goal.returns-clause-totals_grow
returns-clause-totals_grow c = totals_grow

pub returns-clause-repeats_change_nothing : goal.returns-clause-repeats_change_nothing
returns-clause-repeats_change_nothing c = repeats_change_nothing

pub returns-clause-stocks_agree : goal.returns-clause-stocks_agree
returns-clause-stocks_agree c = stocks_agree
