-- The ticket of a Closing, from the movement that it closes and the figures that it closes it on; and what an entry posts.
use Rattle.std.specs.Prelude.{◌≡◌, ◌+◌, ℕ, Bool, true, false, if◌then◌else◌, Option, Some, None}
use Rattle.farm_fixed.specs.declared.records.Quantities.{Quantities}
use Rattle.farm_history.specs.declared.command.Command.{Command}
use Rattle.farm_history.specs.History.{History, last_place}
use Rattle.farm_history.specs.Postings.{posted_by, postings_of, postings_to}
use Rattle.farm_history.specs.Tickets.{closed}
use Rattle.farm_movement.specs.Movements.{OpenMove}
use Rattle.farm_movement.specs.declared.leg.Leg.{Leg}
use Rattle.farm_ticket.specs.Tickets.{Ticket}
use Rattle.history_lookups.specs.declared.postings.Posted.{Posted}
use Rattle.history_lookups.specs.Bounds.{PostAtMost, most_posted}
use Rattle.history_lookups.specs.Ledgers.{AreBounded, books_after, books_with, listed_postings}

-- there are figures of the second side if and only if there is a second side
abbrev pub is_of_sides : Option Leg → Option Quantities → Bool
is_of_sides None None = true
is_of_sides None (Some figures) = false
is_of_sides (Some leg) None = false
is_of_sides (Some leg) (Some figures) = true

-- The ticket, with this number, of what is closed at a place on these figures; none if there is no movement, a figure is missing, or a side
-- goes the wrong way.
abbrev pub closed_on : ℕ → ℕ → Option OpenMove → Option Quantities → Option Quantities → Option Ticket
closed_on place number None first second = None
closed_on place number (Some movement) None second = None
closed_on place number (Some movement) (Some first) second =
    if is_of_sides movement.second second then closed place number (movement, first, second) else None

-- What is posted is what a command posts which comes next after a history. Each posting is small, and after them each book is within its
-- bound of one entry more.
pub record IsPostedBy (history : History) (command : Command) (posted : Posted) : Type 0 where
  pub listed : listed_postings posted ≡ posted_by history (postings_of history) command
  pub small : PostAtMost most_posted (listed_postings posted)
  pub bounded : AreBounded (last_place history + 1)
      (books_after (listed_postings posted) (books_with history.site.tanks (postings_to history (last_place history))))
