-- How great what moves, what is posted and what a tank holds may be: whole litres and whole kilograms.
use Rattle.std.specs.Prelude.{◌≡◌, ◌≢◌, ℕ, ◌*◌, ◌^◌, ◌≤◌, All, IfSome, IsFalse, List, Some}
use Rattle.std.specs.Int.RustNames.{unsigned_abs}
use Rattle.farm_chain.specs.Volumes.{AreInRange}
use Rattle.farm_fixed.specs.Limits.{most_net}
use Rattle.farm_fixed.specs.declared.records.Amount.{Amount}
use Rattle.farm_stock.specs.Books.{book_of, plus}
use Rattle.farm_stock.specs.Postings.{amount_of, at_tank}
use Rattle.farm_stock.specs.declared.book.TankBook.{TankBook}
use Rattle.farm_stock.specs.declared.posting.Posting.{Posting}
use Rattle.farm_ticket.specs.Tickets.{Ticket}
use Rattle.farm_ticket.specs.declared.side.Side.{Side}
use Rattle.farm_movement.specs.Movements.{OpenMove}
use Rattle.farm_history.specs.Conservation.{is_gain}
use Rattle.farm_history.specs.Postings.{amount_moved}
use Rattle.farm_history.specs.Tickets.{ToClose}

-- an amount is at most this much either way, in litres and in kg
pub record IsAtMost (most : ℕ) (amount : Amount) : Type 0 where
  pub litres : unsigned_abs amount.litres ≤ most
  pub kg : unsigned_abs amount.kg ≤ most

-- the most that a tank holds by its figures, and that moves on a side, in litres and in kg
abbrev pub most_moved : ℕ
most_moved = most_net

-- more than any book holds, and than is posted at once
abbrev pub most_posted : ℕ
most_posted = 10 ^ 16

-- each book holds at most this much
abbrev pub HoldAtMost : ℕ → List TankBook → Type 0
HoldAtMost most books = All (λ book. IsAtMost most book.amount) books

-- each posting is of at most this much
abbrev pub PostAtMost : ℕ → List Posting → Type 0
PostAtMost most postings = All (λ posting. IsAtMost most posting.amount) postings

-- postings of which each is of at most twice what moves on a side, and which come to at most what moves on a side at each tank
pub record AreSmallPostings (postings : List Posting) : Type 0 where
  pub each : PostAtMost (2 * most_moved) postings
  pub together : (tank : ℕ) → IsAtMost most_moved (amount_of (at_tank tank postings))

-- each posting is of at most this much, but for gains
abbrev pub MoveAtMost : ℕ → List Posting → Type 0
MoveAtMost most postings = All (λ posting. IsFalse (is_gain posting.kind) → IsAtMost most posting.amount) postings

-- with a gain the book of a tank holds at most what a tank holds
pub record IsGainOf (tank : ℕ) (books : List TankBook) (gain : Amount) : Type 0 where
  pub book : Amount
  pub there : book_of tank books ≡ Some book
  pub held : IsAtMost most_moved (plus book gain)

-- the figures that the sides of a movement were opened on are in range
pub record IsOpenedInRange (movement : OpenMove) : Type 0 where
  pub first_opening : AreInRange movement.first.opening
  pub second_opening : IfSome movement.second (λ leg. AreInRange leg.opening)

-- so are those that it is to be closed on, and its sides are of two tanks
pub record IsClosedInRange (close : ToClose) : Type 0 where
  pub opened : IsOpenedInRange close.0
  pub first_closing : AreInRange close.1
  pub second_closing : IfSome close.2 AreInRange
  pub two_tanks : IfSome close.0.second (λ leg. close.0.first.tank ≢ leg.tank)

-- what moved on a side is at most what a tank holds by its figures
abbrev pub IsSmallSide : Side → Type 0
IsSmallSide side = IsAtMost most_moved (amount_moved side.moved)

-- so it is on each side of a ticket, and the sides are of two tanks
pub record IsSmallTicket (ticket : Ticket) : Type 0 where
  pub first_side : IsSmallSide ticket.first
  pub second_side : IfSome ticket.second IsSmallSide
  pub two_tanks : IfSome ticket.second (λ side. ticket.first.tank ≢ side.tank)
