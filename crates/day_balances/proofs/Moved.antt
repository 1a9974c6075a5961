-- The days of tanks after postings, one after another.
use Rattle.std.proofs.Common.{◌≡◌, ◌≢◌, ℕ, ◌+◌, ◌<◌, ◌≤◌, ◌==◌, Bool, true, false, if◌then◌else◌, List, [], ◌∷◌, ◌++◌, length, map, take, drop, set, get_or, refl, ap, ap₂, sym, ◌∙◌, arith}
use Rattle.std.specs.Prelude.{IsFalse}
use Rattle.std.proofs.lemmas.Bool.Decides.{nat_tests}
use Rattle.std.proofs.lemmas.List.{get_or_default}
use Rattle.std.proofs.lemmas.List.Edits.{map_over_more}
use Rattle.std.proofs.lemmas.List.Elements.{All-map, All-weaker, filter-append}
use Rattle.farm_fixed.specs.declared.records.Amount.{Amount}
use Rattle.farm_stock.specs.Books.{plus}
use Rattle.farm_stock.specs.Postings.{amount_of, at_tank}
use Rattle.farm_stock.specs.declared.posting.Kind.{Kind}
use Rattle.farm_stock.specs.declared.posting.Kind.TheVariants.{Receipt, Delivery, TransferOut, TransferIn, Gain}
use Rattle.farm_stock.specs.declared.posting.Posting.{Posting}
use Rattle.farm_stock.proofs.Amounts.{plus_assoc, plus_no_more}
use Rattle.farm_history.specs.Conservation.{is_delivery, is_gain, is_receipt, posted_as}
use Rattle.farm_history.proofs.PostingSums.{passing_append}
use Rattle.history_lookups.specs.Bounds.{IsAtMost, MoveAtMost}
use Rattle.history_lookups.proofs.Bounds.{at_most_more, sum_at_most}
use Rattle.day_balances.specs.Balances.{is_transfer}
use Rattle.day_balances.specs.TankDays.{AreWithin, IsWithin, added, moved_after, moved_by, nothing}
use Rattle.day_balances.specs.declared.tank_days.TankDay.{TankDay}

-- the day of a tank with these sums
abbrev summed : TankDay → Amount → Amount → Amount → TankDay
summed day receipts deliveries transfers =
    record { tank = day.tank; opening = day.opening; receipts = receipts; deliveries = deliveries; transfers = transfers }

-- days with the same sums are the same
same_sums : (day : TankDay) (receipts receipts′ deliveries deliveries′ transfers transfers′ : Amount) → receipts ≡ receipts′ →
    deliveries ≡ deliveries′ → transfers ≡ transfers′ → summed day receipts deliveries transfers ≡ summed day receipts′ deliveries′ transfers′
same_sums day receipts receipts′ deliveries deliveries′ transfers transfers′ first second third =
    ap (λ r. summed day r deliveries transfers) first
    ∙ ap (λ d. summed day receipts′ d transfers) second
    ∙ ap (λ t. summed day receipts′ deliveries′ t) third

-- nothing is posted
none_day : (day : TankDay) → moved_after [] day ≡ day
none_day day =
    same_sums day _ day.receipts _ day.deliveries _ day.transfers (plus_no_more day.receipts) (plus_no_more day.deliveries) (plus_no_more day.transfers)

-- nothing is posted to any
pub moved_none : (days : List TankDay) → map (moved_after []) days ≡ days
moved_none [] = refl
moved_none (day ∷ days) = ap₂ (λ (first : TankDay) rest. first ∷ rest) (none_day day) (moved_none days)

-- an amount of a kind is added to the sum of its kind
added_one : (posting : Posting) (day : TankDay) →
    added posting.kind posting.amount day
    ≡ summed day (plus day.receipts (posted_as is_receipt (posting ∷ []))) (plus day.deliveries (posted_as is_delivery (posting ∷ [])))
    (plus day.transfers (posted_as is_transfer (posting ∷ [])))
added_one posting day = by posting.kind
  where
    none : (amount : Amount) → amount ≡ plus amount nothing
    none amount = sym (plus_no_more amount)

    one : (amount : Amount) → plus amount posting.amount ≡ plus amount (plus posting.amount nothing)
    one amount = ap (plus amount) (none posting.amount)

    by : (kind : Kind) → added kind posting.amount day
        ≡ summed day (plus day.receipts (amount_of (if is_receipt kind then posting ∷ [] else [])))
        (plus day.deliveries (amount_of (if is_delivery kind then posting ∷ [] else [])))
        (plus day.transfers (amount_of (if is_transfer kind then posting ∷ [] else [])))
    by Receipt = same_sums day _ _ _ _ _ _ (one day.receipts) (none day.deliveries) (none day.transfers)
    by Delivery = same_sums day _ _ _ _ _ _ (none day.receipts) (one day.deliveries) (none day.transfers)
    by TransferOut = same_sums day _ _ _ _ _ _ (none day.receipts) (none day.deliveries) (one day.transfers)
    by TransferIn = same_sums day _ _ _ _ _ _ (none day.receipts) (none day.deliveries) (one day.transfers)
    by Gain = same_sums day _ _ _ _ _ _ (none day.receipts) (none day.deliveries) (none day.transfers)

-- a day after one posting
one_day : (posting : Posting) (day : TankDay) → moved_by posting day ≡ moved_after (posting ∷ []) day
one_day posting day = by (posting.tank == day.tank)
  where
    by : (test : Bool) → (if test then added posting.kind posting.amount day else day)
        ≡ summed day (plus day.receipts (posted_as is_receipt (if test then posting ∷ [] else [])))
        (plus day.deliveries (posted_as is_delivery (if test then posting ∷ [] else [])))
        (plus day.transfers (posted_as is_transfer (if test then posting ∷ [] else [])))
    by true = added_one posting day
    by false = sym (none_day day)

-- days after one posting
pub moved_one : (posting : Posting) (days : List TankDay) → map (moved_by posting) days ≡ map (moved_after (posting ∷ [])) days
moved_one posting [] = refl
moved_one posting (day ∷ days) = ap₂ (λ (first : TankDay) rest. first ∷ rest) (one_day posting day) (moved_one posting days)

-- what postings of a kind at a tank come to, one list after another
as_append : (is_kind : Kind → Bool) (tank : ℕ) (first second : List Posting) →
    posted_as is_kind (at_tank tank (first ++ second))
    ≡ plus (posted_as is_kind (at_tank tank first)) (posted_as is_kind (at_tank tank second))
as_append is_kind tank first second =
    ap (posted_as is_kind) (filter-append (λ posting. posting.tank == tank) first second)
    ∙ passing_append (λ posting. is_kind posting.kind) (at_tank tank first) (at_tank tank second)

-- a day after postings one after another
both_day : (first second : List Posting) (day : TankDay) → moved_after second (moved_after first day) ≡ moved_after (first ++ second) day
both_day first second day =
    let both : (is_kind : Kind → Bool) (sum : Amount) →
    plus (plus sum (posted_as is_kind (at_tank day.tank first))) (posted_as is_kind (at_tank day.tank second))
    ≡ plus sum (posted_as is_kind (at_tank day.tank (first ++ second))) =
    λ is_kind sum. plus_assoc sum (posted_as is_kind (at_tank day.tank first)) (posted_as is_kind (at_tank day.tank second))
    ∙ ap (plus sum) (sym (as_append is_kind day.tank first second)) in
    same_sums day _ _ _ _ _ _ (both is_receipt day.receipts) (both is_delivery day.deliveries) (both is_transfer day.transfers)

-- days after postings one after another
pub moved_both : (first second : List Posting) (days : List TankDay) →
    map (moved_after second) (map (moved_after first) days) ≡ map (moved_after (first ++ second)) days
moved_both first second [] = refl
moved_both first second (day ∷ days) = ap₂ (λ (head : TankDay) rest. head ∷ rest) (both_day first second day) (moved_both first second days)

-- days after three postings
pub moved_three : (first second third : Posting) (days : List TankDay) →
    map (moved_by third) (map (moved_by second) (map (moved_by first) days)) ≡ map (moved_after (first ∷ second ∷ third ∷ [])) days
moved_three first second third days =
    moved_one third (map (moved_by second) (map (moved_by first) days))
    ∙ ap (map (moved_after (third ∷ [])))
    (moved_one second (map (moved_by first) days)
    ∙ ap (map (moved_after (second ∷ []))) (moved_one first days)
    ∙ moved_both (first ∷ []) (second ∷ []) days)
    ∙ moved_both (first ∷ second ∷ []) (third ∷ []) days

-- a day is within a greater bound, too
pub within_more : (most greater : ℕ) (day : TankDay) → most ≤ greater → IsWithin most day → IsWithin greater day
within_more most greater day order within = record {
  receipts = at_most_more most greater day.receipts order within.receipts;
  deliveries = at_most_more most greater day.deliveries order within.deliveries;
  transfers = at_most_more most greater day.transfers order within.transfers;
}

-- so are days
pub all_within_more : (most greater : ℕ) (days : List TankDay) → most ≤ greater → AreWithin most days → AreWithin greater days
all_within_more most greater days order within = All-weaker (IsWithin most) (IsWithin greater) (λ day. within_more most greater day order) days within

-- a day with a posting added is within the sum of the bounds
added_within : (most more : ℕ) (kind : Kind) (amount : Amount) (day : TankDay) → (IsFalse (is_gain kind) → IsAtMost more amount) → IsWithin most day →
    IsWithin (most + more) (added kind amount day)
added_within most more Receipt amount day small within = record {
  receipts = sum_at_most most more day.receipts amount within.receipts (small refl);
  deliveries = at_most_more most (most + more) day.deliveries (omega arith) within.deliveries;
  transfers = at_most_more most (most + more) day.transfers (omega arith) within.transfers;
}
added_within most more Delivery amount day small within = record {
  receipts = at_most_more most (most + more) day.receipts (omega arith) within.receipts;
  deliveries = sum_at_most most more day.deliveries amount within.deliveries (small refl);
  transfers = at_most_more most (most + more) day.transfers (omega arith) within.transfers;
}
added_within most more TransferOut amount day small within = record {
  receipts = at_most_more most (most + more) day.receipts (omega arith) within.receipts;
  deliveries = at_most_more most (most + more) day.deliveries (omega arith) within.deliveries;
  transfers = sum_at_most most more day.transfers amount within.transfers (small refl);
}
added_within most more TransferIn amount day small within = record {
  receipts = at_most_more most (most + more) day.receipts (omega arith) within.receipts;
  deliveries = at_most_more most (most + more) day.deliveries (omega arith) within.deliveries;
  transfers = sum_at_most most more day.transfers amount within.transfers (small refl);
}
added_within most more Gain amount day small within = within_more most (most + more) day (omega arith) within

-- so it is if the posting may be at another tank
moved_within : (most more : ℕ) (posting : Posting) (day : TankDay) → (IsFalse (is_gain posting.kind) → IsAtMost more posting.amount) →
    IsWithin most day → IsWithin (most + more) (moved_by posting day)
moved_within most more posting day small within = by (posting.tank == day.tank)
  where
    by : (test : Bool) → IsWithin (most + more) (if test then added posting.kind posting.amount day else day)
    by true = added_within most more posting.kind posting.amount day small within
    by false = within_more most (most + more) day (omega arith) within

-- and so is each day
pub all_moved_within : (most more : ℕ) (posting : Posting) (days : List TankDay) → (IsFalse (is_gain posting.kind) → IsAtMost more posting.amount) →
    AreWithin most days → AreWithin (most + more) (map (moved_by posting) days)
all_moved_within most more posting days small within =
    All-map (IsWithin (most + more)) (moved_by posting) days
    (All-weaker (IsWithin most) (λ day. IsWithin (most + more) (moved_by posting day)) (λ day. moved_within most more posting day small) days within)

-- each of three postings moves little
pub each_moves : (most : ℕ) (first second third : Posting) → MoveAtMost most (first ∷ second ∷ third ∷ []) →
    (IsFalse (is_gain first.kind) → IsAtMost most first.amount) × (IsFalse (is_gain second.kind) → IsAtMost most second.amount)
    × (IsFalse (is_gain third.kind) → IsAtMost most third.amount)
each_moves most first second third small = (small 0 first (omega arith), small 1 second (omega arith), small 2 third (omega arith))

-- a posting is added to the day of its tank
pub moved_here : (posting : Posting) (day now : TankDay) → posting.tank ≡ day.tank → now ≡ added posting.kind posting.amount day →
    now ≡ moved_by posting day
moved_here posting day now same is =
    let test : (posting.tank == day.tank) ≡ true = grind (arith, nat_tests) in
    is ∙ rw test refl

-- and to no other
pub moved_elsewhere : (posting : Posting) (day : TankDay) → posting.tank ≢ day.tank → day ≡ moved_by posting day
moved_elsewhere posting day other =
    let test : (posting.tank == day.tank) ≡ false = grind (arith, nat_tests) in
    rw test refl

-- one day further on, the posting is added to each so far
pub moved_more : (posting : Posting) (days now written : List TankDay) (index : ℕ) (default : TankDay) → index < length days → length now ≡ length days →
    now ≡ map (moved_by posting) (take index days) ++ drop index days → written ≡ set now index (moved_by posting (get_or now index default)) →
    written ≡ map (moved_by posting) (take (index + 1) days) ++ drop (index + 1) days
moved_more posting days now written index default within long so_far is =
    let within_now : index < length now = omega arith in
    is
    ∙ map_over_more (moved_by posting) days now index (get_or now index default) within so_far
    (get_or_default now index default (get_or now index default) within_now)
