-- A Reverse posts back what its ticket posted.
use Rattle.std.proofs.Common.{◌≡◌, ℕ, ◌+◌, ◌-◌, not, true, List, map, drop, Some, None, option_and_then, refl, ap, sym, ◌∙◌, subst, arith}
use Rattle.std.proofs.lemmas.Bool.{not-false}
use Rattle.std.proofs.lemmas.List.{length-take-le, take-append-drop}
use Rattle.farm_stock.specs.declared.posting.Posting.{Posting}
use Rattle.farm_history.specs.declared.command.Command.{Command}
use Rattle.farm_history.specs.declared.command.Command.TheVariants.{Closing, Reverse}
use Rattle.farm_history.specs.declared.entry.Entry.{Entry}
use Rattle.farm_history.specs.declared.rule.Rule.TheVariants.{UnknownTicket}
use Rattle.farm_history.specs.History.{History, before, entry_at, followed_by, last_place}
use Rattle.farm_history.specs.MovementRules.{is_closing, is_there, unknown_ticket}
use Rattle.farm_history.specs.Postings.{opposite_posting, posted_at, posted_by, posted_in, postings_at, postings_issued, postings_to}
use Rattle.farm_history.specs.Tickets.{closing_ticket, issued_by_closing}
use Rattle.farm_history.specs.Verdicts.{IsLegal}
use Rattle.farm_history.proofs.Accepted.{IsKept, test_fails}
use Rattle.farm_history.proofs.At.{between_of}
use Rattle.farm_history.proofs.FiguresStand.{StandsThere, there_of, within_of}
use Rattle.farm_history.proofs.PostingsStay.{postings_at_stays}
use Rattle.farm_history.proofs.TicketsStand.{entered}

-- a Closing posts what its ticket says, whatever was posted before
closing_posts : (history : History) (posted : List Posting) (command : Command) → is_closing command ≡ true →
    posted_by history posted command ≡ postings_issued (issued_by_closing history (last_place history + 1) command)
unfolding posted_by
closing_posts history posted (Closing movement first second) is = refl
closing_posts history posted command is = cc

-- the Closing at a place posts what its ticket says
closed_posts : (history : History) (ticket : ℕ) (entry : Entry) → entry_at history ticket ≡ Some entry → is_closing entry.cmd ≡ true →
    postings_at history ticket ≡ postings_issued (closing_ticket history ticket)
unfolding postings_at posted_at closing_ticket
closed_posts history ticket entry there is =
    let past = before history ticket in
    let posted = postings_to history (ticket - 1) in
    let within = within_of history ticket entry there in
    let counted = (between_of history ticket entry there).counted in
    let next : last_place past + 1 ≡ ticket = omega (arith, length-take-le (ticket - 1) history.entries (omega arith), counted) in
    ap (posted_in past posted) there ∙ closing_posts past posted entry.cmd is
    ∙ ap (λ place. postings_issued (issued_by_closing past place entry.cmd)) next
    ∙ sym (ap (λ found. postings_issued (option_and_then (λ (closing : Entry). issued_by_closing past ticket closing.cmd) found)) there)

-- a Closing stands at the place that a Reverse names, where it keeps the rules
closing_stands : (history : History) (ticket : ℕ) → unknown_ticket history (Reverse ticket) ≡ None →
    StandsThere is_closing (entry_at history ticket)
unfolding unknown_ticket
closing_stands history ticket none =
    let missing = test_fails (not (is_there is_closing (entry_at history ticket))) UnknownTicket none in
    there_of is_closing (entry_at history ticket) (not-false (is_there is_closing (entry_at history ticket)) missing)

-- a Reverse posts what its ticket says with the opposite amounts
reverse_posts : (history : History) (place ticket : ℕ) (entry : Entry) → entry_at history place ≡ Some entry → entry.cmd ≡ Reverse ticket →
    postings_at history place ≡ map opposite_posting (postings_issued (closing_ticket (before history place) ticket))
unfolding postings_at posted_at posted_by
reverse_posts history place ticket entry there is =
    let past = before history place in
    let posted = postings_to history (place - 1) in
    ap (posted_in past posted) there ∙ ap (posted_by past posted) is

-- a Reverse posts what its ticket posted with the opposite amounts, in the same order and of the same kinds
pub reverses_post_back : (limit : ℕ) (history : History) (place ticket : ℕ) (entry : Entry) → IsLegal limit history →
    entry_at history place ≡ Some entry → entry.cmd ≡ Reverse ticket →
    postings_at history place ≡ map opposite_posting (postings_at history ticket)
reverses_post_back limit history place ticket entry legal there is =
    let past = before history place in
    let more = drop (place - 1) history.entries in
    let known = entered limit history place entry legal there in
    let Keeps : Command → Type 0 = λ command. IsKept past command in
    let keeps : IsKept past (Reverse ticket) = subst Keeps is known.keeps in
    let stands = closing_stands past ticket keeps.ticket in
    let make : List Entry → History = λ entries. record { site = history.site; entries = entries } in
    let whole : followed_by past more ≡ history = ap make (take-append-drop (place - 1) history.entries) in
    let stays = postings_at_stays past more ticket (within_of past ticket stands.entry stands.there) in
    let same : postings_issued (closing_ticket past ticket) ≡ postings_at history ticket =
    sym (closed_posts past ticket stands.entry stands.there stands.passes) ∙ sym stays ∙ ap (λ h. postings_at h ticket) whole in
    reverse_posts history place ticket entry there is ∙ ap (map opposite_posting) same
