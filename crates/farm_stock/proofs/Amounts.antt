-- Sums of amounts.
use Rattle.std.proofs.Common.{◌≡◌, ◌≤◌, ◌<◌, ◌+◌, ◌^◌, ℕ, ℤ, ◌+ℤ◌, pos, List, drop, get_or, length, ap, ap₂, sym, ◌∙◌, arith}
use Rattle.std.proofs.lemmas.Int.{ints}
use Rattle.std.proofs.lemmas.List.{at_drop_more}
use Rattle.std.specs.Int.RustNames.{unsigned_abs}
use Rattle.farm_fixed.specs.declared.records.Amount.{Amount}
use Rattle.farm_stock.specs.declared.book.TankBook.{TankBook}
use Rattle.farm_stock.specs.Books.{plus, total_of}
use Rattle.farm_stock.specs.Sums.{magnitudes}

-- amounts of the same litres and kg are the same
pub same_amount : (first second : Amount) → first.litres ≡ second.litres → first.kg ≡ second.kg → first ≡ second
same_amount first second litres kg = ap₂ (λ (l m : ℤ). let amount : Amount = record { litres = l; kg = m } in amount) litres kg

-- amounts may be added in any grouping
pub plus_assoc : (first second third : Amount) → plus (plus first second) third ≡ plus first (plus second third)
plus_assoc first second third = same_amount (plus (plus first second) third) (plus first (plus second third)) (omega (arith, ints)) (omega (arith, ints))

-- and in any order
pub plus_comm : (first second : Amount) → plus first second ≡ plus second first
plus_comm first second = same_amount (plus first second) (plus second first) (omega (arith, ints)) (omega (arith, ints))

-- adding nothing changes nothing
pub plus_no_more : (amount : Amount) → plus amount (record { litres = pos 0; kg = pos 0 }) ≡ amount
plus_no_more amount = same_amount (plus amount (record { litres = pos 0; kg = pos 0 })) amount (omega (arith, ints)) (omega (arith, ints))

-- the magnitude of a sum is at most that of its parts
pub magnitude_of_sum : (first second : ℤ) → unsigned_abs (first +ℤ second) ≤ unsigned_abs first + unsigned_abs second
magnitude_of_sum first second = omega (arith, ints)

-- a sum so far and that of the books to come still make up the total, one book on
pub total_more : (books : List TankBook) (index : ℕ) (default : TankBook) (before now : Amount) → index < length books →
    now ≡ plus before (get_or books index default).amount → plus before (total_of (drop index books)) ≡ total_of books →
    plus now (total_of (drop (index + 1) books)) ≡ total_of books
total_more books index default before now inside now_is total =
    let next = (get_or books index default).amount in
    let rest = total_of (drop (index + 1) books) in
    ap (λ (amount : Amount). plus amount rest) now_is
    ∙ plus_assoc before next rest
    ∙ ap (plus before) (sym (at_drop_more total_of books index default inside))
    ∙ total

-- and their magnitudes stay within the limit
pub within_more : (unit : Amount → ℤ) (books : List TankBook) (index : ℕ) (default : TankBook) (before now : ℤ) → index < length books →
    now ≡ before +ℤ unit (get_or books index default).amount →
    unsigned_abs before + magnitudes unit (drop index books) ≤ 10 ^ 18 →
    unsigned_abs now + magnitudes unit (drop (index + 1) books) ≤ 10 ^ 18
within_more unit books index default before now inside now_is within =
    let next = unit (get_or books index default).amount in
    let step = at_drop_more (magnitudes unit) books index default inside in
    let size = magnitude_of_sum before next in
    let same = ap unsigned_abs now_is in
    omega arith
