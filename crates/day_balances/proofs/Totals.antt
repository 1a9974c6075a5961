-- The balance of all, one balance after another.
use Rattle.std.proofs.Common.{◌≡◌, ℕ, ◌+◌, ◌<◌, ◌≤◌, List, [], length, drop, get_or, ap, sym, ◌∙◌}
use Rattle.std.proofs.lemmas.List.{at_drop_more, drop_all}
use Rattle.farm_fixed.specs.declared.records.Amount.{Amount}
use Rattle.farm_stock.proofs.Amounts.{plus_assoc, plus_no_more}
use Rattle.farm_history.proofs.PostingSums.{nothing_more}
use Rattle.history_lookups.proofs.Bounds.{at_most_more, nothing_at_most, sum_at_most}
use Rattle.day_balances.specs.Balances.{IsEachWithin, plus_each, total_of}
use Rattle.day_balances.specs.declared.balance.Balance.{Balance}

-- a balance of six amounts
abbrev six : Amount → Amount → Amount → Amount → Amount → Amount → Balance
six opening receipts deliveries transfers gains closing = record {
  opening = opening;
  receipts = receipts;
  deliveries = deliveries;
  transfers = transfers;
  gains = gains;
  closing = closing;
}

-- balances of the same six are the same
pub same_six : (o o′ r r′ d d′ t t′ g g′ c c′ : Amount) → o ≡ o′ → r ≡ r′ → d ≡ d′ → t ≡ t′ → g ≡ g′ → c ≡ c′ → six o r d t g c ≡ six o′ r′ d′ t′ g′ c′
same_six o o′ r r′ d d′ t t′ g g′ c c′ first second third fourth fifth sixth =
    ap (λ x. six x r d t g c) first
    ∙ ap (λ x. six o′ x d t g c) second
    ∙ ap (λ x. six o′ r′ x t g c) third
    ∙ ap (λ x. six o′ r′ d′ x g c) fourth
    ∙ ap (λ x. six o′ r′ d′ t′ x c) fifth
    ∙ ap (six o′ r′ d′ t′ g′) sixth

-- balances may be added in any grouping
each_assoc : (a b c : Balance) → plus_each (plus_each a b) c ≡ plus_each a (plus_each b c)
each_assoc a b c =
    same_six _ _ _ _ _ _ _ _ _ _ _ _ (plus_assoc a.opening b.opening c.opening) (plus_assoc a.receipts b.receipts c.receipts)
    (plus_assoc a.deliveries b.deliveries c.deliveries) (plus_assoc a.transfers b.transfers c.transfers) (plus_assoc a.gains b.gains c.gains)
    (plus_assoc a.closing b.closing c.closing)

-- the sum so far and that of the balances to come still make up the total, one balance on
pub total_more : (balances : List Balance) (index : ℕ) (default before now : Balance) → index < length balances →
    now ≡ plus_each before (get_or balances index default) → plus_each before (total_of (drop index balances)) ≡ total_of balances →
    plus_each now (total_of (drop (index + 1) balances)) ≡ total_of balances
total_more balances index default before now inside is total =
    let next = get_or balances index default in
    let rest = total_of (drop (index + 1) balances) in
    ap (λ (sum : Balance). plus_each sum rest) is
    ∙ each_assoc before next rest
    ∙ ap (plus_each before) (sym (at_drop_more total_of balances index default inside))
    ∙ total

-- each amount of a sum is within the sum of the bounds
pub each_within : (most more : ℕ) (a b : Balance) → IsEachWithin most a → IsEachWithin more b → IsEachWithin (most + more) (plus_each a b)
each_within most more a b first second = record {
  opening = sum_at_most most more a.opening b.opening first.opening second.opening;
  receipts = sum_at_most most more a.receipts b.receipts first.receipts second.receipts;
  deliveries = sum_at_most most more a.deliveries b.deliveries first.deliveries second.deliveries;
  transfers = sum_at_most most more a.transfers b.transfers first.transfers second.transfers;
  gains = sum_at_most most more a.gains b.gains first.gains second.gains;
  closing = sum_at_most most more a.closing b.closing first.closing second.closing;
}

-- and within a greater one
pub each_within_more : (most greater : ℕ) (a : Balance) → most ≤ greater → IsEachWithin most a → IsEachWithin greater a
each_within_more most greater a order within = record {
  opening = at_most_more most greater a.opening order within.opening;
  receipts = at_most_more most greater a.receipts order within.receipts;
  deliveries = at_most_more most greater a.deliveries order within.deliveries;
  transfers = at_most_more most greater a.transfers order within.transfers;
  gains = at_most_more most greater a.gains order within.gains;
  closing = at_most_more most greater a.closing order within.closing;
}

-- the balance of zeros
abbrev pub zeros : Balance
zeros = total_of []

-- nothing is added
pub none_added : (balance : Balance) → plus_each zeros balance ≡ balance
none_added balance =
    same_six _ _ _ _ _ _ _ _ _ _ _ _ (nothing_more balance.opening) (nothing_more balance.receipts) (nothing_more balance.deliveries)
    (nothing_more balance.transfers) (nothing_more balance.gains) (nothing_more balance.closing)

-- nothing is within each bound
pub none_within : (most : ℕ) → IsEachWithin most zeros
none_within most = record {
  opening = nothing_at_most most;
  receipts = nothing_at_most most;
  deliveries = nothing_at_most most;
  transfers = nothing_at_most most;
  gains = nothing_at_most most;
  closing = nothing_at_most most;
}

-- nothing is to come any more
pub nothing_left : (balances : List Balance) (index : ℕ) (now : Balance) → length balances ≤ index →
    plus_each now (total_of (drop index balances)) ≡ total_of balances → now ≡ total_of balances
nothing_left balances index now done total =
    same_six _ _ _ _ _ _ _ _ _ _ _ _ (sym (plus_no_more now.opening)) (sym (plus_no_more now.receipts)) (sym (plus_no_more now.deliveries))
    (sym (plus_no_more now.transfers)) (sym (plus_no_more now.gains)) (sym (plus_no_more now.closing))
    ∙ ap (λ rest. plus_each now (total_of rest)) (sym (drop_all index balances done))
    ∙ total
