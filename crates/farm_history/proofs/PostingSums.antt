-- Sums of postings: of lists one after another, of opposite postings, and kind by kind.
use Rattle.std.proofs.Common.{◌≡◌, Bool, true, false, if◌then◌else◌, List, [], ◌∷◌, ◌++◌, map, pos, refl, ap, ap₂, sym, ◌∙◌, arith}
use Rattle.std.specs.List.{filter}
use Rattle.std.proofs.lemmas.Int.{ints}
use Rattle.std.proofs.lemmas.List.Elements.{filter-append}
use Rattle.farm_fixed.specs.declared.records.Amount.{Amount}
use Rattle.farm_stock.specs.Books.{plus}
use Rattle.farm_stock.specs.Postings.{amount_of}
use Rattle.farm_stock.specs.declared.posting.Kind.{Kind}
use Rattle.farm_stock.specs.declared.posting.Kind.TheVariants.{Receipt, Delivery, TransferOut, TransferIn, Gain}
use Rattle.farm_stock.specs.declared.posting.Posting.{Posting}
use Rattle.farm_stock.proofs.Amounts.{plus_assoc, plus_comm, plus_no_more, same_amount}
use Rattle.farm_history.specs.Conservation.{is_delivery, is_gain, is_receipt, is_transfer_in, is_transfer_out, posted_as}
use Rattle.farm_history.specs.Postings.{opposite, opposite_posting}

-- the amount of no posting
abbrev pub nothing : Amount
nothing = record { litres = pos 0; kg = pos 0 }

-- an amount where a test passes, and nothing where it fails
abbrev pub where_passed : Bool → Amount → Amount
where_passed test amount = if test then amount else nothing

-- nothing changes what is added to it
pub nothing_more : (amount : Amount) → plus nothing amount ≡ amount
nothing_more amount = plus_comm nothing amount ∙ plus_no_more amount

-- postings one after another come to the sum of what each part comes to
pub amounts_append : (first second : List Posting) → amount_of (first ++ second) ≡ plus (amount_of first) (amount_of second)
amounts_append [] second = sym (nothing_more (amount_of second))
amounts_append (posting ∷ first) second =
    ap (plus posting.amount) (amounts_append first second) ∙ sym (plus_assoc posting.amount (amount_of first) (amount_of second))

-- the same holds of those postings alone that pass a test
pub passing_append : (passes : Posting → Bool) (first second : List Posting) →
    amount_of (filter passes (first ++ second)) ≡ plus (amount_of (filter passes first)) (amount_of (filter passes second))
passing_append passes first second =
    ap amount_of (filter-append passes first second) ∙ amounts_append (filter passes first) (filter passes second)

-- one posting more adds its amount where it passes a test
pub passing_more : (passes : Posting → Bool) (posting : Posting) (postings : List Posting) →
    amount_of (filter passes (posting ∷ postings)) ≡ plus (where_passed (passes posting) posting.amount) (amount_of (filter passes postings))
passing_more passes posting postings = by (passes posting)
  where
    by : (test : Bool) → amount_of (if test then posting ∷ filter passes postings else filter passes postings)
        ≡ plus (where_passed test posting.amount) (amount_of (filter passes postings))
    by true = refl
    by false = sym (nothing_more (amount_of (filter passes postings)))

-- the opposite of a sum is the sum of the opposites
pub opposite_plus : (first second : Amount) → plus (opposite first) (opposite second) ≡ opposite (plus first second)
opposite_plus first second =
    same_amount (plus (opposite first) (opposite second)) (opposite (plus first second)) (omega (arith, ints)) (omega (arith, ints))

-- an amount and its opposite come to nothing
pub opposites_cancel : (amount : Amount) → plus (opposite amount) amount ≡ nothing
opposites_cancel amount = same_amount (plus (opposite amount) amount) nothing (omega (arith, ints)) (omega (arith, ints))

-- opposite postings of one kind come to the opposite amount
pub opposites_as : (is_kind : Kind → Bool) (postings : List Posting) →
    posted_as is_kind (map opposite_posting postings) ≡ opposite (posted_as is_kind postings)
opposites_as is_kind [] = refl
opposites_as is_kind (posting ∷ postings) = by (is_kind posting.kind) (opposites_as is_kind postings)
  where
    rest : List Posting
    rest = filter (λ p. is_kind p.kind) postings

    back : List Posting
    back = filter (λ p. is_kind p.kind) (map opposite_posting postings)

    by : (test : Bool) → amount_of back ≡ opposite (amount_of rest) →
        amount_of (if test then opposite_posting posting ∷ back else back) ≡ opposite (amount_of (if test then posting ∷ rest else rest))
    by true same = ap (plus (opposite posting.amount)) same ∙ opposite_plus posting.amount (amount_of rest)
    by false same = same

-- what postings of the five kinds come to, added up
abbrev five : Amount → Amount → Amount → Amount → Amount → Amount
five receipts deliveries outs ins gains = plus receipts (plus deliveries (plus outs (plus ins gains)))

-- an amount of one kind is added to the sum of that kind alone
one_kind : (kind : Kind) (amount receipts deliveries outs ins gains : Amount) →
    plus amount (five receipts deliveries outs ins gains)
    ≡ five (plus (where_passed (is_receipt kind) amount) receipts) (plus (where_passed (is_delivery kind) amount) deliveries)
    (plus (where_passed (is_transfer_out kind) amount) outs) (plus (where_passed (is_transfer_in kind) amount) ins)
    (plus (where_passed (is_gain kind) amount) gains)
one_kind Receipt amount receipts deliveries outs ins gains = same_amount _ _ (omega (arith, ints)) (omega (arith, ints))
one_kind Delivery amount receipts deliveries outs ins gains = same_amount _ _ (omega (arith, ints)) (omega (arith, ints))
one_kind TransferOut amount receipts deliveries outs ins gains = same_amount _ _ (omega (arith, ints)) (omega (arith, ints))
one_kind TransferIn amount receipts deliveries outs ins gains = same_amount _ _ (omega (arith, ints)) (omega (arith, ints))
one_kind Gain amount receipts deliveries outs ins gains = same_amount _ _ (omega (arith, ints)) (omega (arith, ints))

-- what postings come to kind by kind
abbrev pub by_kind : List Posting → Amount
by_kind postings =
    five (posted_as is_receipt postings) (posted_as is_delivery postings) (posted_as is_transfer_out postings)
    (posted_as is_transfer_in postings) (posted_as is_gain postings)

-- the postings of the five kinds make up all postings
pub kinds_add_up : (postings : List Posting) → amount_of postings ≡ by_kind postings
kinds_add_up [] = refl
kinds_add_up (posting ∷ postings) =
    let more : (is_kind : Kind → Bool) → plus (where_passed (is_kind posting.kind) posting.amount) (posted_as is_kind postings)
    ≡ posted_as is_kind (posting ∷ postings) = λ is_kind. sym (passing_more (λ p. is_kind p.kind) posting postings) in
    ap (plus posting.amount) (kinds_add_up postings)
    ∙ one_kind posting.kind posting.amount (posted_as is_receipt postings) (posted_as is_delivery postings)
    (posted_as is_transfer_out postings) (posted_as is_transfer_in postings) (posted_as is_gain postings)
    ∙ ap₂ plus (more is_receipt) (ap₂ plus (more is_delivery)
    (ap₂ plus (more is_transfer_out) (ap₂ plus (more is_transfer_in) (more is_gain))))
