-- What is kept beside each entry.
use Rattle.std.specs.Prelude.{◌≡◌, ℕ, ◌+◌, ◌-◌, ◌==◌, IsTrue, if◌then◌else◌, List, length, Option, Some, None, option_map, slice_get}
use Rattle.farm_fixed.specs.declared.records.Amount.{Amount}
use Rattle.farm_history.specs.declared.command.Command.{Command}
use Rattle.farm_history.specs.declared.command.Command.TheVariants as commands
use Rattle.farm_history.specs.declared.entry.Entry.{Entry}
use Rattle.farm_history.specs.Commands.{issues_ticket, reverses}
use Rattle.farm_history.specs.History.{History, before, entry_at, last_place}
use Rattle.farm_history.specs.Movements.{reversal_of}
use Rattle.farm_history.specs.Stocks.{gain_at}
use Rattle.farm_history.specs.Tickets.{next_number}
use Rattle.farm_indexes.specs.declared.notes.Note.{Note}
use Rattle.farm_indexes.specs.declared.notes.Note.TheVariants.{Plain, Ticket, Gain}
use Rattle.history_lookups.specs.declared.postings.Posted.{Posted}
use Rattle.history_lookups.specs.declared.postings.Posted.TheVariants.{One}

-- what notes are seen as: one of each entry, the number of the next ticket, and for how many notes more there is memory
pub record Kept : Type 0 where
  pub notes : List Note
  pub next_number : ℕ
  pub room : ℕ

-- the note of a gain, Plain if there is none
abbrev pub gain_note : Option Amount → Note
gain_note None = Plain
gain_note (Some gain) = Gain gain

-- What a history says of the entry at a place that has this command: the number of its ticket and the place of the Reverse of it, or its
-- gain.
abbrev pub note_for : History → ℕ → Command → Note
note_for history place (commands.Closing movement first second) = Ticket (next_number (before history place)) (reversal_of history place)
note_for history place (commands.Reverse ticket) = Ticket (next_number (before history place)) (reversal_of history place)
note_for history place (commands.Settle tank gauged) = gain_note (gain_at history place)
note_for history place command = Plain

-- an entry that issues a ticket stands at a place
pub record HasTicket (history : History) (place : ℕ) : Type 0 where
  pub entry : Entry
  pub there : entry_at history place ≡ Some entry
  pub issues : IsTrue (issues_ticket entry.cmd)

-- There is a note of each entry, which is what the history says of it. Only a place with a ticket is reversed.
pub record AreNotesOf (history : History) (kept : Kept) : Type 0 where
  pub counted : length kept.notes ≡ last_place history
  pub each : (place : ℕ) (entry : Entry) → entry_at history place ≡ Some entry →
      slice_get kept.notes (place - 1) ≡ Some (note_for history place entry.cmd)
  pub numbered : kept.next_number ≡ next_number history
  pub only_tickets : (place reverse : ℕ) → reversal_of history place ≡ Some reverse → HasTicket history place

-- the note of the entry at a place; none if there is no such place
abbrev pub note_at : List Note → ℕ → Option Note
note_at notes place = if place == 0 then None else slice_get notes (place - 1)

-- the note of what a Settle posts
abbrev pub posted_note : Posted → Note
posted_note (One posting) = Gain posting.amount
posted_note posted = Plain

-- the note of a new entry with this command, if the next ticket has this number and the entry posts this
abbrev pub new_note : ℕ → Posted → Command → Note
new_note number posted (commands.Closing movement first second) = Ticket number None
new_note number posted (commands.Reverse ticket) = Ticket number None
new_note number posted (commands.Settle tank gauged) = posted_note posted
new_note number posted command = Plain

-- the note of a ticket that the Reverse at a place names
abbrev pub reversed_at : ℕ → Note → Note
reversed_at reverse (Ticket number reversed_by) = Ticket number (Some reverse)
reversed_at reverse note = note

-- the note of the entry at a place after a command that stands at another place, which may reverse it
abbrev pub marked : Command → ℕ → ℕ → Note → Note
marked command reverse place note = if reverses place command then reversed_at reverse note else note

-- Notes are the old ones after a command at a place: that of the ticket that it reverses, if it is a Reverse, is marked, and no other.
pub record AreMarked (command : Command) (reverse : ℕ) (old new : List Note) : Type 0 where
  pub counted : length new ≡ length old
  pub each : (index : ℕ) → slice_get new index ≡ option_map (marked command reverse (index + 1)) (slice_get old index)
