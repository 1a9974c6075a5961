-- What notes say of each place.
use Rattle.std.proofs.Common.{◌≡◌, ℕ, zero, suc, ◌-◌, ◌≤◌, ◌==◌, true, false, List, [], ◌∷◌, length, Option, Some, None, option_and_then, option_map, slice_get, refl, ap, sym, ◌∙◌, arith}
use Rattle.std.proofs.Math.Numerals.{sub-one}
use Rattle.std.proofs.lemmas.Bool.{ne_eqb}
use Rattle.std.proofs.lemmas.Option.{slice_get_past}
use Rattle.farm_fixed.specs.declared.records.Amount.{Amount}
use Rattle.farm_history.specs.declared.command.Command.{Command}
use Rattle.farm_history.specs.declared.command.Command.TheVariants as commands
use Rattle.farm_history.specs.declared.entry.Entry.{Entry}
use Rattle.farm_history.specs.Commands.{issues_ticket}
use Rattle.farm_history.specs.History.{History, before, entry_at}
use Rattle.farm_history.specs.Movements.{reversal_of}
use Rattle.farm_history.specs.Postings.{postings_to}
use Rattle.farm_history.specs.Stocks.{gain_at, gain_of}
use Rattle.farm_history.specs.Tickets.{next_number}
use Rattle.farm_history.proofs.At.{entry_at-suc}
use Rattle.farm_indexes.specs.Notes.{AreNotesOf, HasTicket, Kept, gain_note, note_at, note_for}
use Rattle.farm_indexes.specs.declared.notes.Note.{Note}
use Rattle.farm_indexes.specs.declared.notes.Note.TheVariants.{Plain, Ticket, Gain}

-- a list has nothing at an index only beyond its end
past_end : {A : Type 0} (items : List A) (index : ℕ) → slice_get items index ≡ None → length items ≤ index
past_end [] index none = omega arith
past_end (item ∷ items) zero none = cc
past_end (item ∷ items) (suc index) none = omega (arith, past_end items index none)

-- the note at a place is the item at the index before it
note_at-suc : (notes : List Note) (index : ℕ) → note_at notes (suc index) ≡ slice_get notes index
note_at-suc notes index =
    let test : (suc index == 0) ≡ false = ne_eqb (suc index) 0 (λ z. absurd (omega arith)) in
    rw (test, sub-one)

-- the note at a place is what the history says of the entry there, and there is none if no entry stands there
pub note_is : (history : History) (kept : Kept) (place : ℕ) → AreNotesOf history kept →
    note_at kept.notes place ≡ option_map (λ entry. note_for history place entry.cmd) (entry_at history place)
note_is history kept zero are = refl
note_is history kept (suc index) are = by (entry_at history (suc index)) refl
  where
    noted : Option Entry → Option Note
    noted found = option_map (λ entry. note_for history (suc index) entry.cmd) found

    by : (found : Option Entry) → entry_at history (suc index) ≡ found →
        note_at kept.notes (suc index) ≡ noted (entry_at history (suc index))
    by (Some entry) there =
        note_at-suc kept.notes index ∙ ap (slice_get kept.notes) (sym (sub-one (suc index))) ∙ are.each (suc index) entry there
        ∙ sym (ap noted there)
    by None none =
        let beyond = past_end history.entries index (sym (entry_at-suc history index) ∙ none) in
        let counted = are.counted in
        note_at-suc kept.notes index ∙ slice_get_past kept.notes index (omega (arith, beyond, counted)) ∙ sym (ap noted none)

-- the note of a place with a ticket tells the ticket's number and the place of its Reverse
pub ticket_noted : (history : History) (kept : Kept) (place : ℕ) → AreNotesOf history kept → HasTicket history place →
    note_at kept.notes place ≡ Some (Ticket (next_number (before history place)) (reversal_of history place))
ticket_noted history kept place are has =
    note_is history kept place are ∙ ap (option_map (λ (entry : Entry). note_for history place entry.cmd)) has.there
    ∙ ap {B = Option Note} Some (by has.entry.cmd has.issues)
  where
    by : (command : Command) → issues_ticket command ≡ true →
        note_for history place command ≡ Ticket (next_number (before history place)) (reversal_of history place)
    by (commands.Closing movement first second) issues = refl
    by (commands.Reverse ticket) issues = refl
    by command issues = cc

-- what a ticket's note says of its place
pub record SaysTicket (history : History) (place number : ℕ) (reversed_by : Option ℕ) : Type 0 where
  pub has : HasTicket history place
  pub numbered : number ≡ next_number (before history place)
  pub reversed : reversed_by ≡ reversal_of history place

-- a place whose note is a ticket's has a ticket, with that number and that Reverse
pub ticket_read : (history : History) (kept : Kept) (place number : ℕ) (reversed_by : Option ℕ) → AreNotesOf history kept →
    note_at kept.notes place ≡ Some (Ticket number reversed_by) → SaysTicket history place number reversed_by
ticket_read history kept place number reversed_by are noted = by (entry_at history place) refl (sym (note_is history kept place are) ∙ noted)
  where
    no_gain : (gain : Option Amount) → gain_note gain ≡ Ticket number reversed_by → ⊥
    no_gain None e = cc
    no_gain (Some gain) e = cc

    on : (entry : Entry) (command : Command) → entry_at history place ≡ Some entry → entry.cmd ≡ command →
        note_for history place command ≡ Ticket number reversed_by → SaysTicket history place number reversed_by
    on entry (commands.Closing movement first second) there is same = record {
      has = record { entry = entry; there = there; issues = ap issues_ticket is };
      numbered = cc;
      reversed = cc;
    }
    on entry (commands.Reverse ticket) there is same = record {
      has = record { entry = entry; there = there; issues = ap issues_ticket is };
      numbered = cc;
      reversed = cc;
    }
    on entry (commands.Settle tank gauged) there is same = absurd (no_gain (gain_at history place) same)
    on entry command there is same = cc

    by : (found : Option Entry) → entry_at history place ≡ found →
        option_map (λ (entry : Entry). note_for history place entry.cmd) (entry_at history place) ≡ Some (Ticket number reversed_by) →
        SaysTicket history place number reversed_by
    by None none e =
        let bad : option_map (λ (entry : Entry). note_for history place entry.cmd) None ≡ Some (Ticket number reversed_by) = (rw none at e) in cc
    by (Some entry) there e =
        let said : Some (note_for history place entry.cmd) ≡ Some (Ticket number reversed_by) = (rw there at e) in
        on entry entry.cmd there refl cc

-- no Reverse names a place whose note isn't a ticket's
pub unreversed_read : (history : History) (kept : Kept) (place : ℕ) → AreNotesOf history kept →
    ((number : ℕ) (reversed_by : Option ℕ) → ¬ (note_at kept.notes place ≡ Some (Ticket number reversed_by))) → reversal_of history place ≡ None
unreversed_read history kept place are other = by (reversal_of history place) refl
  where
    by : (found : Option ℕ) → reversal_of history place ≡ found → reversal_of history place ≡ None
    by None is = is
    by (Some reverse) is =
        absurd (other (next_number (before history place)) (reversal_of history place)
        (ticket_noted history kept place are (are.only_tickets place reverse is)))

-- the gain that a note tells
abbrev pub gain_in : Option Note → Option Amount
gain_in (Some (Gain gain)) = Some gain
gain_in other = None

-- a note that isn't a gain's tells none
pub no_gain_in : (note : Note) → ((gain : Amount) → ¬ (note ≡ Gain gain)) → gain_in (Some note) ≡ None
no_gain_in Plain other = refl
no_gain_in (Ticket number reversed_by) other = refl
no_gain_in (Gain gain) other = absurd (other gain refl)

-- the gain of a place is the one that its note tells
pub gain_read : (history : History) (kept : Kept) (place : ℕ) → AreNotesOf history kept → gain_in (note_at kept.notes place) ≡ gain_at history place
unfolding gain_at
gain_read history kept place are = ap gain_in (note_is history kept place are) ∙ by (entry_at history place) refl
  where
    noted : Option Entry → Option Amount
    noted found = gain_in (option_map (λ entry. note_for history place entry.cmd) found)

    told : (gain : Option Amount) → gain_in (Some (gain_note gain)) ≡ gain
    told None = refl
    told (Some gain) = refl

    of_entry : Option Entry → Option Amount
    of_entry found = option_and_then (λ entry. gain_of (before history place) (postings_to history (place - 1)) entry.cmd) found

    is : gain_at history place ≡ of_entry (entry_at history place)
    is = refl

    on : (entry : Entry) (command : Command) → entry_at history place ≡ Some entry → entry.cmd ≡ command →
        gain_in (Some (note_for history place command)) ≡ gain_at history place
    on entry (commands.Settle tank gauged) there same = told (gain_at history place)
    on entry command there same =
        sym (is ∙ ap of_entry there ∙ ap (gain_of (before history place) (postings_to history (place - 1))) same)

    by : (found : Option Entry) → entry_at history place ≡ found → noted (entry_at history place) ≡ gain_at history place
    by None none = ap noted none ∙ sym (is ∙ ap of_entry none)
    by (Some entry) there = ap noted there ∙ on entry entry.cmd there refl
