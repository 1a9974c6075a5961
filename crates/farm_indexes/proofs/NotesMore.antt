-- Notes stay those of a history when an entry comes next and its own is added.
use Rattle.std.proofs.Common.{◌≡◌, inl, inr, ℕ, zero, suc, ◌+◌, ◌-◌, ◌<◌, ◌≤◌, Bool, true, false, if◌then◌else◌, List, [], ◌∷◌, ◌++◌, length, Option, Some, None, option_and_then, option_map, slice_get, refl, ap, ap₂, sym, ◌∙◌, add-one, length-append, arith}
use Rattle.std.proofs.Math.Numerals.{sub-one}
use Rattle.std.proofs.lemmas.Bool.{cases_lt, eq-eqb}
use Rattle.farm_base.specs.Steps.{or_else}
use Rattle.farm_fixed.specs.declared.records.Amount.{Amount}
use Rattle.farm_site.specs.Described.{Described}
use Rattle.farm_stock.specs.declared.posting.Posting.{Posting}
use Rattle.farm_history.specs.declared.command.Command.{Command}
use Rattle.farm_history.specs.declared.command.Command.TheVariants as commands
use Rattle.farm_history.specs.declared.entry.Entry.{Entry}
use Rattle.farm_history.specs.Commands.{issues_ticket, reverses}
use Rattle.farm_history.specs.History.{History, before, empty_history, entry_at, last_place, with_entry}
use Rattle.farm_history.specs.Movements.{reversal_of}
use Rattle.farm_history.specs.Postings.{gain_posted, posted_by, postings_of, postings_to}
use Rattle.farm_history.specs.Stocks.{gain_at, gain_of}
use Rattle.farm_history.specs.Tickets.{next_number}
use Rattle.farm_history.proofs.At.{between_of, entry_at-suc}
use Rattle.farm_history.proofs.FiguresStand.{within_of}
use Rattle.farm_history.proofs.PostingsStay.{at_grown, before_grown, gain_stays, place_grown, postings_stay}
use Rattle.farm_history.proofs.Stays.{before_stays, entry_stays}
use Rattle.history_lookups.specs.Ledgers.{listed_postings}
use Rattle.history_lookups.specs.declared.postings.Posted.{Posted}
use Rattle.history_lookups.specs.declared.postings.Posted.TheVariants as posts
use Rattle.farm_indexes.specs.Following.{MayFollow}
use Rattle.farm_indexes.specs.Notes.{AreMarked, AreNotesOf, HasTicket, Kept, gain_note, marked, new_note, note_for, posted_note, reversed_at}
use Rattle.farm_indexes.specs.declared.notes.Note.{Note}
use Rattle.farm_indexes.specs.declared.notes.Note.TheVariants.{Plain, Ticket}
use Rattle.farm_indexes.proofs.Numbers.{number_grows}
use Rattle.farm_indexes.proofs.Reversals.{reversal_grows, reverses_earlier, reversible}

-- no notes are those of a history without entries
pub no_notes : (site : Described) (kept : Kept) → kept.notes ≡ [] → kept.next_number ≡ 1 → AreNotesOf (empty_history site) kept
unfolding reversal_of
no_notes site kept none first = record {
  counted = ap length none;
  each = nowhere;
  numbered = first;
  only_tickets = λ place reverse found. let bad : None ≡ Some reverse = found in cc;
}
  where
    nowhere : (place : ℕ) (entry : Entry) → entry_at (empty_history site) place ≡ Some entry →
        slice_get kept.notes (place - 1) ≡ Some (note_for (empty_history site) place entry.cmd)
    nowhere zero entry there = cc
    nowhere (suc index) entry there = let bad : None ≡ Some entry = sym (entry_at-suc (empty_history site) index) ∙ there in cc

-- an entry that may come next reverses a ticket that has a note
pub ticket_within : (history : History) (entry : Entry) (kept : Kept) (ticket : ℕ) → MayFollow history entry → AreNotesOf history kept →
    entry.cmd ≡ commands.Reverse ticket → (1 ≤ ticket) × (ticket ≤ length kept.notes)
ticket_within history entry kept ticket follows are given =
    let known = reversible history entry ticket follows (ap (reverses ticket) given ∙ eq-eqb ticket ticket refl) in
    let between = between_of history ticket known.entry known.there in
    let counted = between.counted in
    let within = within_of history ticket known.entry known.there in
    let as_many = are.counted in
    (omega (arith, counted), omega (arith, within, as_many))

-- the last item of a list and one more is that
last_item : {A : Type 0} (items : List A) (item : A) → slice_get (items ++ item ∷ []) (length items) ≡ Some item
last_item [] item = refl
last_item (first ∷ items) item = last_item items item

-- an item of a list stays when one more is added
item_stays : {A : Type 0} (items : List A) (item : A) (index : ℕ) → index < length items →
    slice_get (items ++ item ∷ []) index ≡ slice_get items index
item_stays [] item index within = absurd (omega arith)
item_stays (first ∷ items) item zero within = refl
item_stays (first ∷ items) item (suc index) within = item_stays items item index (omega (arith, within))

-- the gain of a new entry is that of its command after what was posted before
pub gain_grown : (history : History) (entry : Entry) →
    gain_at (with_entry history entry) (suc (last_place history)) ≡ gain_of history (postings_of history) entry.cmd
unfolding gain_at
gain_grown history entry =
    let grown = with_entry history entry in
    let count = last_place history in
    let of_entry : History → List Posting → Option Entry → Option Amount =
    λ past posted found. option_and_then (λ entry. gain_of past posted entry.cmd) found in
    let posted : postings_to grown (suc count - 1) ≡ postings_of history =
    ap (postings_to grown) (sub-one (suc count)) ∙ postings_stay history (entry ∷ []) count (omega arith) in
    ap (λ found. of_entry (before grown (suc count)) (postings_to grown (suc count - 1)) found) (at_grown history entry)
    ∙ ap₂ (λ past posted. of_entry past posted (Some entry)) (before_grown history entry) posted

-- an entry that may come next marks the note of the ticket that it reverses, and no other ticket's
reversal_more : (history : History) (entry : Entry) (place : ℕ) (note : Note) (number : ℕ) → MayFollow history entry →
    Ticket number (reversal_of (with_entry history entry) place)
    ≡ marked entry.cmd (last_place history + 1) place (Ticket number (reversal_of history place))
reversal_more history entry place note number follows = by (reverses place entry.cmd) refl
  where
    or_none : (found : Option ℕ) → or_else found None ≡ found
    or_none None = refl
    or_none (Some found) = refl

    later : Bool → Option ℕ
    later test = if test then Some (last_place history + 1) else None

    by : (test : Bool) → reverses place entry.cmd ≡ test →
        Ticket number (reversal_of (with_entry history entry) place)
        ≡ marked entry.cmd (last_place history + 1) place (Ticket number (reversal_of history place))
    by true is =
        let known = reversible history entry place follows is in
        let there : reversal_of (with_entry history entry) place ≡ Some (last_place history + 1) =
        reversal_grows history entry place ∙ ap₂ or_else known.unreversed (ap later is) in
        rw is (ap (Ticket number) there)
    by false is =
        let there : reversal_of (with_entry history entry) place ≡ reversal_of history place =
        reversal_grows history entry place ∙ ap (λ test. or_else (reversal_of history place) (later test)) is
        ∙ or_none (reversal_of history place) in
        rw is (ap (Ticket number) there)

-- a mark changes no note of a gain
gain_unmarked : (command : Command) (reverse place : ℕ) (gain : Option Amount) → marked command reverse place (gain_note gain) ≡ gain_note gain
gain_unmarked command reverse place gain = by (reverses place command) gain
  where
    by : (test : Bool) (gain : Option Amount) → (if test then reversed_at reverse (gain_note gain) else gain_note gain) ≡ gain_note gain
    by true None = refl
    by true (Some gain) = refl
    by false gain = refl

-- the history says of an earlier place what it said, but for a mark by the new entry
note_stays : (history : History) (entry : Entry) (place : ℕ) (command : Command) → MayFollow history entry → place ≤ last_place history →
    note_for (with_entry history entry) place command ≡ marked entry.cmd (last_place history + 1) place (note_for history place command)
note_stays history entry place command follows within = by command
  where
    ticket : Ticket (next_number (before (with_entry history entry) place)) (reversal_of (with_entry history entry) place)
        ≡ marked entry.cmd (last_place history + 1) place (Ticket (next_number (before history place)) (reversal_of history place))
    ticket =
        ap (λ past. Ticket (next_number past) (reversal_of (with_entry history entry) place)) (before_stays history (entry ∷ []) place within)
        ∙ reversal_more history entry place Plain (next_number (before history place)) follows

    plain : Plain ≡ marked entry.cmd (last_place history + 1) place Plain
    plain = sym (gain_unmarked entry.cmd (last_place history + 1) place None)

    by : (command : Command) →
        note_for (with_entry history entry) place command ≡ marked entry.cmd (last_place history + 1) place (note_for history place command)
    by (commands.Closing movement first second) = ticket
    by (commands.Reverse named) = ticket
    by (commands.Settle tank gauged) =
        ap gain_note (gain_stays history (entry ∷ []) place within)
        ∙ sym (gain_unmarked entry.cmd (last_place history + 1) place (gain_at history place))
    by command = plain

-- no entry reverses the new one
own_unreversed : (history : History) (entry : Entry) (kept : Kept) → MayFollow history entry → AreNotesOf history kept →
    reversal_of (with_entry history entry) (suc (last_place history)) ≡ None
own_unreversed history entry kept follows are =
    reversal_grows history entry (suc (last_place history))
    ∙ ap₂ or_else (earlier (reversal_of history (suc (last_place history))) refl)
    (ap later (reverses_earlier history entry (suc (last_place history)) follows (omega arith)))
  where
    later : Bool → Option ℕ
    later test = if test then Some (last_place history + 1) else None

    earlier : (found : Option ℕ) → reversal_of history (suc (last_place history)) ≡ found → reversal_of history (suc (last_place history)) ≡ None
    earlier None is = is
    earlier (Some reverse) is =
        let has = are.only_tickets (suc (last_place history)) reverse is in
        let within = within_of history (suc (last_place history)) has.entry has.there in
        absurd (omega (arith, within))

-- the note of what a Settle posts is that of its gain
gain_noted : (posted : Posted) (tank : ℕ) (gain : Option Amount) → listed_postings posted ≡ gain_posted tank gain → posted_note posted ≡ gain_note gain
gain_noted posts.Nothing tank None same = refl
gain_noted posts.Nothing tank (Some gain) same = cc
gain_noted (posts.One posting) tank None same = cc
gain_noted (posts.One posting) tank (Some gain) same = cc
gain_noted (posts.Transfer taken brought gain) tank None same = cc
gain_noted (posts.Transfer taken brought gain) tank (Some own) same = cc

-- the new note is what the history says of the new entry
new_note_is : (history : History) (entry : Entry) (posted : Posted) (kept : Kept) → MayFollow history entry → AreNotesOf history kept →
    listed_postings posted ≡ posted_by history (postings_of history) entry.cmd →
    new_note kept.next_number posted entry.cmd ≡ note_for (with_entry history entry) (suc (last_place history)) entry.cmd
unfolding posted_by
new_note_is history entry posted kept follows are posts = by entry.cmd refl posts
  where
    ticket : Ticket kept.next_number None
        ≡ Ticket (next_number (before (with_entry history entry) (suc (last_place history)))) (reversal_of (with_entry history entry) (suc (last_place history)))
    ticket = ap₂ Ticket (are.numbered ∙ sym (ap next_number (before_grown history entry))) (sym (own_unreversed history entry kept follows are))

    by : (command : Command) → entry.cmd ≡ command → listed_postings posted ≡ posted_by history (postings_of history) command →
        new_note kept.next_number posted command ≡ note_for (with_entry history entry) (suc (last_place history)) command
    by (commands.Closing movement first second) is posts = ticket
    by (commands.Reverse named) is posts = ticket
    by (commands.Settle tank gauged) is posts =
        let of_command : Command → Option Amount = λ command. gain_of history (postings_of history) command in
        gain_noted posted tank (gain_of history (postings_of history) (commands.Settle tank gauged)) posts
        ∙ sym (ap gain_note (gain_grown history entry ∙ ap of_command is))
    by command is posts = refl

-- after an entry that may come next only a place with a ticket is reversed
tickets_alone : (history : History) (entry : Entry) (kept : Kept) (place reverse : ℕ) → MayFollow history entry → AreNotesOf history kept →
    reversal_of (with_entry history entry) place ≡ Some reverse → HasTicket (with_entry history entry) place
tickets_alone history entry kept place reverse follows are found =
    by (reversal_of history place) (reverses place entry.cmd) refl refl (sym (reversal_grows history entry place) ∙ found)
  where
    later : (earlier : Entry) → entry_at history place ≡ Some earlier → entry_at (with_entry history entry) place ≡ Some earlier
    later earlier there = entry_stays history (entry ∷ []) place (within_of history place earlier there) ∙ there

    by : (was : Option ℕ) (test : Bool) → reversal_of history place ≡ was → reverses place entry.cmd ≡ test →
        or_else (reversal_of history place) (if reverses place entry.cmd then Some (last_place history + 1) else None) ≡ Some reverse →
        HasTicket (with_entry history entry) place
    by (Some earlier) test was is e =
        let has = are.only_tickets place earlier was in
        record { entry = has.entry; there = later has.entry has.there; issues = has.issues }
    by None true was is e =
        let known = reversible history entry place follows is in
        record { entry = known.entry; there = later known.entry known.there; issues = known.issues }
    by None false was is e =
        let bad : None ≡ Some reverse = (rw (was, is) at e) in cc

-- notes that were marked and have the new one are those of the history with the entry
pub notes_more : (history : History) (entry : Entry) (posted : Posted) (old middle new : Kept) → MayFollow history entry →
    listed_postings posted ≡ posted_by history (postings_of history) entry.cmd → AreNotesOf history old →
    AreMarked entry.cmd (last_place history + 1) old.notes middle.notes → middle.next_number ≡ old.next_number →
    new.notes ≡ middle.notes ++ new_note middle.next_number posted entry.cmd ∷ [] →
    new.next_number ≡ (if issues_ticket entry.cmd then middle.next_number + 1 else middle.next_number) →
    AreNotesOf (with_entry history entry) new
notes_more history entry posted old middle new follows posts are marks as_before notes numbers = record {
  counted = counted;
  each = each;
  numbered = numbers ∙ ap (λ n. if issues_ticket entry.cmd then n + 1 else n) (as_before ∙ are.numbered) ∙ sym (number_grows history entry);
  only_tickets = λ place reverse found. tickets_alone history entry old place reverse follows are found;
}
  where
    own : Note
    own = new_note middle.next_number posted entry.cmd

    as_many : length middle.notes ≡ last_place history
    as_many = marks.counted ∙ are.counted

    counted : length new.notes ≡ last_place (with_entry history entry)
    counted = ap length notes ∙ omega (arith, length-append middle.notes (own ∷ []), as_many, place_grown history entry)

    earlier : (index : ℕ) (other : Entry) → suc index ≤ last_place history → entry_at (with_entry history entry) (suc index) ≡ Some other →
        slice_get new.notes index ≡ Some (note_for (with_entry history entry) (suc index) other.cmd)
    earlier index other within there =
        let was : entry_at history (suc index) ≡ Some other = sym (entry_stays history (entry ∷ []) (suc index) within) ∙ there in
        let said : slice_get old.notes index ≡ Some (note_for history (suc index) other.cmd) =
        ap (slice_get old.notes) (sym (sub-one (suc index))) ∙ are.each (suc index) other was in
        let mark : ℕ → Note → Note = λ place note. marked entry.cmd (last_place history + 1) place note in
        let stays : mark (index + 1) (note_for history (suc index) other.cmd) ≡ note_for (with_entry history entry) (suc index) other.cmd =
        ap (λ place. mark place (note_for history (suc index) other.cmd)) (add-one index)
        ∙ sym (note_stays history entry (suc index) other.cmd follows within) in
        ap (λ notes. slice_get notes index) notes
        ∙ item_stays middle.notes own index (omega (arith, within, as_many))
        ∙ marks.each index ∙ ap (option_map (mark (index + 1))) said ∙ ap {B = Option Note} Some stays

    last : (place : ℕ) (other : Entry) → place ≡ suc (last_place history) → entry_at (with_entry history entry) place ≡ Some other →
        slice_get new.notes (place - 1) ≡ Some (note_for (with_entry history entry) place other.cmd)
    last place other is there =
        let grown = with_entry history entry in
        let twice : Some entry ≡ Some other = sym (at_grown history entry) ∙ ap (entry_at grown) (sym is) ∙ there in
        let same : entry ≡ other = cc in
        let index : place - 1 ≡ length middle.notes = omega (arith, is, as_many) in
        let said : own ≡ note_for grown place other.cmd =
        ap (λ number. new_note number posted entry.cmd) as_before ∙ new_note_is history entry posted old follows are posts
        ∙ ap (λ place. note_for grown place entry.cmd) (sym is) ∙ ap (λ (entry : Entry). note_for grown place entry.cmd) same in
        ap₂ (slice_get {X = Note}) notes index ∙ last_item middle.notes own ∙ ap {B = Option Note} Some said

    each : (place : ℕ) (other : Entry) → entry_at (with_entry history entry) place ≡ Some other →
        slice_get new.notes (place - 1) ≡ Some (note_for (with_entry history entry) place other.cmd)
    each zero other there = cc
    each (suc index) other there = elim (cases_lt index (last_place history)) [
      | inl within ↦ ap (slice_get new.notes) (sub-one (suc index)) ∙ earlier index other (omega (arith, within)) there
      | inr beyond ↦ last (suc index) other (omega (arith, beyond, within_of (with_entry history entry) (suc index) other there, place_grown history entry)) there
    ]
