-- The postings of one ticket: how much each is of, and what they come to at one tank.
use Rattle.std.proofs.Common.{◌≡◌, ◌≢◌, ℕ, ◌*◌, ◌==◌, Bool, true, false, if◌then◌else◌, List, [], ◌∷◌, map, Option, Some, None, refl, ap, ◌∙◌, sym, subst, arith}
use Rattle.std.specs.Prelude.{IfSome}
use Rattle.std.proofs.lemmas.Bool.Decides.{nat_tests}
use Rattle.std.proofs.lemmas.Int.{ints}
use Rattle.std.proofs.lemmas.List.Elements.{All-cons, All-map, All-nil, All-weaker}
use Rattle.farm_fixed.specs.declared.records.Amount.{Amount}
use Rattle.farm_stock.specs.Books.{plus}
use Rattle.farm_stock.specs.Postings.{amount_of, at_tank}
use Rattle.farm_stock.specs.declared.posting.Posting.{Posting}
use Rattle.farm_stock.specs.declared.posting.Kind.TheVariants.{Gain, TransferIn, TransferOut}
use Rattle.farm_ticket.specs.Tickets.{Ticket}
use Rattle.farm_ticket.specs.declared.side.Side.{Side}
use Rattle.farm_ticket.specs.declared.side.Way.{Way}
use Rattle.farm_ticket.specs.declared.side.Way.TheVariants.{Inward, Outward}
use Rattle.farm_history.specs.Postings.{amount_moved, less, opposite, opposite_posting, outside_posting, postings_of_sides, postings_of_ticket, unnamed}
use Rattle.farm_history.proofs.PostingSums.{nothing, opposite_plus, passing_more, where_passed}
use Rattle.history_lookups.specs.Bounds.{AreSmallPostings, IsAtMost, IsSmallSide, IsSmallTicket, MoveAtMost, PostAtMost, most_moved}
use Rattle.history_lookups.proofs.Bounds.{at_most_more, less_at_most, nothing_at_most, opposite_at_most}

-- an amount where a test passes is within the bound of the amount
where_at_most : (most : ℕ) (test : Bool) (amount : Amount) → IsAtMost most amount → IsAtMost most (plus (where_passed test amount) nothing)
where_at_most most true amount small = record { litres = omega (arith, ints); kg = omega (arith, ints) }
where_at_most most false amount small = record { litres = omega (arith, ints); kg = omega (arith, ints) }

-- nothing is posted
pub no_postings : AreSmallPostings []
no_postings = record { each = All-nil (λ posting. IsAtMost (2 * most_moved) posting.amount); together = λ tank. nothing_at_most most_moved }

-- one posting of at most what moves on a side
pub one_posting : (posting : Posting) → IsAtMost most_moved posting.amount → AreSmallPostings (posting ∷ [])
one_posting posting small = record {
  each =
      let P : Posting → Type 0 = λ posting. IsAtMost (2 * most_moved) posting.amount in
      All-cons P posting [] (at_most_more most_moved (2 * most_moved) posting.amount (omega arith) small) (All-nil P);
  together = λ tank.
      subst (IsAtMost most_moved) (sym (passing_more (λ p. p.tank == tank) posting []))
      (where_at_most most_moved (posting.tank == tank) posting.amount small);
}

-- what three postings come to at a tank
three_at : (tank : ℕ) (taken brought gain : Posting) →
    amount_of (at_tank tank (taken ∷ brought ∷ gain ∷ []))
    ≡ plus (where_passed (taken.tank == tank) taken.amount)
    (plus (where_passed (brought.tank == tank) brought.amount) (plus (where_passed (gain.tank == tank) gain.amount) nothing))
three_at tank taken brought gain =
    let passes = λ (posting : Posting). posting.tank == tank in
    passing_more passes taken (brought ∷ gain ∷ [])
    ∙ ap (plus (where_passed (passes taken) taken.amount))
    (passing_more passes brought (gain ∷ []) ∙ ap (plus (where_passed (passes brought) brought.amount)) (passing_more passes gain []))

-- what a transfer changes at a tank, which is at most one of its two: what its own side moved
changed_at : (most : ℕ) (first second : Bool) (out into : Amount) → (first ≡ true → second ≡ true → ⊥) → IsAtMost most out → IsAtMost most into →
    IsAtMost most (plus (where_passed first (opposite out)) (plus (where_passed second out) (plus (where_passed second (less into out)) nothing)))
changed_at most true true out into apart small other = absurd (apart refl refl)
changed_at most true false out into apart small other = record { litres = omega (arith, ints); kg = omega (arith, ints) }
changed_at most false true out into apart small other = record { litres = omega (arith, ints); kg = omega (arith, ints) }
changed_at most false false out into apart small other = record { litres = omega (arith, ints); kg = omega (arith, ints) }

-- two numbers that differ aren't both the same as a third
not_both : (first second tank : ℕ) → first ≢ second → (first == tank) ≡ true → (second == tank) ≡ true → ⊥
not_both first second tank apart is is2 = grind (arith, nat_tests)

-- the postings of a receipt or a delivery
outside_small : (party : ℕ) (side : Side) → IsSmallSide side → AreSmallPostings (postings_of_sides party side None)
outside_small party side small = by side.way
  where
    by : (way : Way) → AreSmallPostings (outside_posting party side.tank way (amount_moved side.moved) ∷ [])
    by Inward = one_posting (outside_posting party side.tank Inward (amount_moved side.moved)) small
    by Outward =
        one_posting (outside_posting party side.tank Outward (amount_moved side.moved)) (opposite_at_most most_moved (amount_moved side.moved) small)

-- the postings of a transfer
transfer_small : (party : ℕ) (first second : Side) → IsSmallSide first → IsSmallSide second → first.tank ≢ second.tank →
    AreSmallPostings (postings_of_sides party first (Some second))
transfer_small party first second small other apart =
    let P : Posting → Type 0 = λ posting. IsAtMost (2 * most_moved) posting.amount in
    let out = amount_moved first.moved in
    let into = amount_moved second.moved in
    let taken = unnamed first.tank TransferOut (opposite out) in
    let brought = unnamed second.tank TransferIn out in
    let gain = unnamed second.tank Gain (less into out) in
    let small_taken : P taken = at_most_more most_moved (2 * most_moved) (opposite out) (omega arith) (opposite_at_most most_moved out small) in
    let small_brought : P brought = at_most_more most_moved (2 * most_moved) out (omega arith) small in
    let small_gain : P gain = less_at_most most_moved most_moved into out other small in
    record {
      each = All-cons P taken (brought ∷ gain ∷ []) small_taken (All-cons P brought (gain ∷ []) small_brought (All-cons P gain [] small_gain (All-nil P)));
      together = λ tank.
          subst (IsAtMost most_moved) (sym (three_at tank taken brought gain))
          (changed_at most_moved (first.tank == tank) (second.tank == tank) out into (not_both first.tank second.tank tank apart) small other);
    }

-- the postings of a ticket of which what moved is small
pub ticket_small : (ticket : Ticket) → IsSmallTicket ticket → AreSmallPostings (postings_of_ticket ticket)
ticket_small ticket small = by ticket.second small.second_side small.two_tanks
  where
    by : (second : Option Side) → IfSome second IsSmallSide → IfSome second (λ side. ticket.first.tank ≢ side.tank) →
        AreSmallPostings (postings_of_sides ticket.party ticket.first second)
    by None other apart = outside_small ticket.party ticket.first small.first_side
    by (Some second) other apart = transfer_small ticket.party ticket.first second small.first_side other apart

-- opposite postings come to the opposite amount at a tank
opposites_at : (tank : ℕ) (postings : List Posting) →
    amount_of (at_tank tank (map opposite_posting postings)) ≡ opposite (amount_of (at_tank tank postings))
opposites_at tank [] = refl
opposites_at tank (posting ∷ postings) = by (posting.tank == tank) (opposites_at tank postings)
  where
    by : (test : Bool) → amount_of (at_tank tank (map opposite_posting postings)) ≡ opposite (amount_of (at_tank tank postings)) →
        amount_of (if test then opposite_posting posting ∷ at_tank tank (map opposite_posting postings) else at_tank tank (map opposite_posting postings))
        ≡ opposite (amount_of (if test then posting ∷ at_tank tank postings else at_tank tank postings))
    by true same = ap (plus (opposite posting.amount)) same ∙ opposite_plus posting.amount (amount_of (at_tank tank postings))
    by false same = same

-- the opposite postings are as small
pub opposites_small : (postings : List Posting) → AreSmallPostings postings → AreSmallPostings (map opposite_posting postings)
opposites_small postings small = record {
  each =
      let P : Posting → Type 0 = λ posting. IsAtMost (2 * most_moved) posting.amount in
      All-map P opposite_posting postings
      (All-weaker P (λ posting. P (opposite_posting posting)) (λ posting. opposite_at_most (2 * most_moved) posting.amount) postings small.each);
  together = λ tank.
      subst (IsAtMost most_moved) (sym (opposites_at tank postings)) (opposite_at_most most_moved (amount_of (at_tank tank postings)) (small.together tank));
}

-- postings of which each is small move little
pub small_moves : (most : ℕ) (postings : List Posting) → PostAtMost most postings → MoveAtMost most postings
small_moves most postings small = λ index default below moves. small index default below
