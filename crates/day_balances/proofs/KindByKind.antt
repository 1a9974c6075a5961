-- What postings come to, kind by kind.
use Rattle.std.proofs.Common.{◌≡◌, Bool, List, [], ◌∷◌, refl, ap, ap₂, sym, ◌∙◌, arith}
use Rattle.std.proofs.lemmas.Int.{ints}
use Rattle.farm_fixed.specs.declared.records.Amount.{Amount}
use Rattle.farm_stock.specs.Books.{plus}
use Rattle.farm_stock.specs.Postings.{amount_of}
use Rattle.farm_stock.specs.declared.posting.Kind.{Kind}
use Rattle.farm_stock.specs.declared.posting.Kind.TheVariants.{Receipt, Delivery, TransferOut, TransferIn, Gain}
use Rattle.farm_stock.specs.declared.posting.Posting.{Posting}
use Rattle.farm_stock.proofs.Amounts.{plus_assoc, same_amount}
use Rattle.farm_history.specs.Conservation.{is_delivery, is_gain, is_receipt, is_transfer_in, is_transfer_out, posted_as}
use Rattle.farm_history.specs.Postings.{less}
use Rattle.farm_history.proofs.PostingSums.{kinds_add_up, passing_more, where_passed}
use Rattle.day_balances.specs.Balances.{is_transfer}

-- an amount of a transfer is added to one of two sums
one_transfer : (kind : Kind) (amount outs ins : Amount) →
    plus (where_passed (is_transfer kind) amount) (plus outs ins)
    ≡ plus (plus (where_passed (is_transfer_out kind) amount) outs) (plus (where_passed (is_transfer_in kind) amount) ins)
one_transfer Receipt amount outs ins = same_amount _ _ (omega (arith, ints)) (omega (arith, ints))
one_transfer Delivery amount outs ins = same_amount _ _ (omega (arith, ints)) (omega (arith, ints))
one_transfer TransferOut amount outs ins = same_amount _ _ (omega (arith, ints)) (omega (arith, ints))
one_transfer TransferIn amount outs ins = same_amount _ _ (omega (arith, ints)) (omega (arith, ints))
one_transfer Gain amount outs ins = same_amount _ _ (omega (arith, ints)) (omega (arith, ints))

-- what transfers come to is what they took and what they brought
transfers_both : (postings : List Posting) →
    posted_as is_transfer postings ≡ plus (posted_as is_transfer_out postings) (posted_as is_transfer_in postings)
transfers_both [] = refl
transfers_both (posting ∷ postings) =
    let more : (is_kind : Kind → Bool) → posted_as is_kind (posting ∷ postings)
    ≡ plus (where_passed (is_kind posting.kind) posting.amount) (posted_as is_kind postings) =
    λ is_kind. passing_more (λ p. is_kind p.kind) posting postings in
    more is_transfer
    ∙ ap (plus (where_passed (is_transfer posting.kind) posting.amount)) (transfers_both postings)
    ∙ one_transfer posting.kind posting.amount (posted_as is_transfer_out postings) (posted_as is_transfer_in postings)
    ∙ sym (ap₂ plus (more is_transfer_out) (more is_transfer_in))

-- all postings come to the receipts, the deliveries, the transfers and the gains among them
pub four_kinds : (postings : List Posting) →
    amount_of postings
    ≡ plus (posted_as is_receipt postings)
    (plus (posted_as is_delivery postings) (plus (posted_as is_transfer postings) (posted_as is_gain postings)))
four_kinds postings =
    let outs = posted_as is_transfer_out postings in
    let ins = posted_as is_transfer_in postings in
    let gains = posted_as is_gain postings in
    kinds_add_up postings
    ∙ ap (λ rest. plus (posted_as is_receipt postings) (plus (posted_as is_delivery postings) rest))
    (sym (plus_assoc outs ins gains) ∙ ap (λ transfers. plus transfers gains) (sym (transfers_both postings)))

-- what five amounts come to, less all but the last, is the last
last_left : (opening receipts deliveries transfers gains : Amount) →
    less (plus opening (plus receipts (plus deliveries (plus transfers gains)))) (plus opening (plus receipts (plus deliveries transfers))) ≡ gains
last_left opening receipts deliveries transfers gains = same_amount _ _ (omega (arith, ints)) (omega (arith, ints))

-- what a book holds after postings, less what it held before and the other kinds, are the gains
pub gains_left : (opening : Amount) (postings : List Posting) →
    less (plus opening (amount_of postings))
    (plus opening (plus (posted_as is_receipt postings) (plus (posted_as is_delivery postings) (posted_as is_transfer postings))))
    ≡ posted_as is_gain postings
gains_left opening postings =
    let receipts = posted_as is_receipt postings in
    let deliveries = posted_as is_delivery postings in
    let transfers = posted_as is_transfer postings in
    ap (λ all. less (plus opening all) (plus opening (plus receipts (plus deliveries transfers)))) (four_kinds postings)
    ∙ last_left opening receipts deliveries transfers (posted_as is_gain postings)
