-- What books and totals are made up of: openings, and postings by their kind. Deliveries and what transfers took out are their postings
-- with the opposite sign.
use Rattle.std.specs.Prelude.{◌≡◌, ℕ, ◌+◌, ◌*◌, ◌≤◌, Bool, true, false, List, map, Some, ℤ, ◌+ℤ◌, ◌-ℤ◌}
use Rattle.std.specs.Int.RustNames.{unsigned_abs}
use Rattle.std.specs.List.{filter}
use Rattle.farm_fixed.specs.Limits.{most_net}
use Rattle.farm_fixed.specs.declared.records.Amount.{Amount}
use Rattle.farm_stock.specs.Books.{sum_of}
use Rattle.farm_stock.specs.Postings.{amount_of, at_tank}
use Rattle.farm_stock.specs.declared.posting.Kind.{Kind}
use Rattle.farm_stock.specs.declared.posting.Kind.TheVariants.{Receipt, Delivery, TransferOut, TransferIn, Gain}
use Rattle.farm_stock.specs.declared.posting.Posting.{Posting}
use Rattle.farm_site.specs.declared.items.Tank.{Tank}
use Rattle.farm_site.specs.Limits.{most_stock}
use Rattle.farm_history.specs.History.{History, tank_after}
use Rattle.farm_history.specs.Postings.{opposite, postings_of}

-- Whether a posting is that of a receipt.
abbrev pub is_receipt : Kind → Bool
is_receipt Receipt = true
is_receipt kind = false

-- Whether it is that of a delivery.
abbrev pub is_delivery : Kind → Bool
is_delivery Delivery = true
is_delivery kind = false

-- Whether it is that of the tank that a transfer leaves.
abbrev pub is_transfer_out : Kind → Bool
is_transfer_out TransferOut = true
is_transfer_out kind = false

-- Whether it is that of the tank that a transfer reaches.
abbrev pub is_transfer_in : Kind → Bool
is_transfer_in TransferIn = true
is_transfer_in kind = false

-- Whether it is a gain.
abbrev pub is_gain : Kind → Bool
is_gain Gain = true
is_gain kind = false

-- what postings of one kind come to
abbrev pub posted_as : (Kind → Bool) → List Posting → Amount
posted_as is_kind postings = amount_of (filter (λ posting. is_kind posting.kind) postings)

-- what postings of one kind took away
abbrev pub taken_as : (Kind → Bool) → List Posting → Amount
taken_as is_kind postings = opposite (posted_as is_kind postings)

-- in a unit a book is its opening and receipts, less deliveries and transfers out, and transfers in and gains, of these postings
abbrev pub MakesUp : (Amount → ℤ) → List Posting → Amount → Amount → Type 0
MakesUp unit postings opening book =
    unit book ≡ unit opening +ℤ unit (posted_as is_receipt postings) -ℤ unit (taken_as is_delivery postings)
    -ℤ unit (taken_as is_transfer_out postings) +ℤ unit (posted_as is_transfer_in postings) +ℤ unit (posted_as is_gain postings)

-- in a unit a total is the openings and receipts, less deliveries, and gains, of these postings
abbrev pub MakesUpTotal : (Amount → ℤ) → List Posting → Amount → Amount → Type 0
MakesUpTotal unit postings openings total =
    unit total ≡ unit openings +ℤ unit (posted_as is_receipt postings) -ℤ unit (taken_as is_delivery postings)
    +ℤ unit (posted_as is_gain postings)

-- the book of a tank in the words of the rule, litres and kg each by itself
pub record IsBook (history : History) (number : ℕ) (book : Amount) : Type 0 where
  pub tank : Tank
  pub there : tank_after history number ≡ Some tank
  pub litres : MakesUp (λ amount. amount.litres) (at_tank number (postings_of history)) tank.opening book
  pub kg : MakesUp (λ amount. amount.kg) (at_tank number (postings_of history)) tank.opening book

-- what all tanks of a site held before the first entry
abbrev pub openings_of : List Tank → Amount
openings_of tanks = sum_of (map (λ tank. tank.opening) tanks)

-- Postings change a total by receipts, deliveries and gains alone, litres and kg each by itself: what is transferred from tank to tank
-- leaves it as it was.
pub record Moves (postings : List Posting) (before after : Amount) : Type 0 where
  pub litres : MakesUpTotal (λ amount. amount.litres) postings before after
  pub kg : MakesUpTotal (λ amount. amount.kg) postings before after

-- the total in the words of the rule: the openings, and what postings changed it by
abbrev pub IsTotal : History → Amount → Type 0
IsTotal history total = Moves (postings_of history) (openings_of history.site.tanks) total

-- the most that a book may hold after this many entries, either way
abbrev pub most_held : ℕ → ℕ
most_held entries = unsigned_abs most_stock + most_net * entries

-- a book is within its bound, in litres and in kg
pub record IsBoundedBook (entries : ℕ) (book : Amount) : Type 0 where
  pub litres : unsigned_abs book.litres ≤ most_held entries
  pub kg : unsigned_abs book.kg ≤ most_held entries
