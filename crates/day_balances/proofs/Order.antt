-- Moments never fall along a legal history.
use Rattle.std.proofs.Common.{◌≡◌, ℕ, zero, suc, ◌+◌, ◌-◌, ◌<◌, List, [], ◌∷◌, ◌++◌, length, take, drop, get_or, ℤ, pos, ◌≤ℤ◌, refl, ap, ◌∙◌, subst, arith}
use Rattle.std.proofs.Math.Seq.{split_at}
use Rattle.std.proofs.lemmas.Int.{ints}
use Rattle.std.proofs.lemmas.List.{take_more}
use Rattle.farm_history.specs.declared.entry.Entry.{Entry}
use Rattle.farm_history.specs.History.{History, moment_after}
use Rattle.farm_history.specs.Verdicts.{IsLegal}
use Rattle.day_balances.specs.Days.{NeverFall}

-- the moment after entries is that of the last
after_last : (moment : ℤ) (entries : List Entry) (entry : Entry) → moment_after moment (entries ++ entry ∷ []) ≡ entry.at
after_last moment [] entry = refl
after_last moment (first ∷ entries) entry = after_last first.at entries entry

-- an entry of a legal history isn't before the one before it
next_not_before : (limit : ℕ) (history : History) (index : ℕ) (default : Entry) → IsLegal limit history → index + 1 < length history.entries →
    (get_or history.entries index default).at ≤ℤ (get_or history.entries (index + 1) default).at
next_not_before limit history index default legal within =
    let entries = history.entries in
    let next = get_or entries (index + 1) default in
    let came = (legal (take (index + 1) entries) (drop (suc (index + 1)) entries) next (split_at entries (index + 1) default within)).moment in
    let front = take_more entries index default (omega arith) in
    let last : moment_after (pos 0) (take (index + 1) entries) ≡ (get_or entries index default).at =
    ap (moment_after (pos 0)) front ∙ after_last (pos 0) (take index entries) (get_or entries index default) in
    subst (λ moment. moment ≤ℤ next.at) last came

-- nor is a later one
later_not_before : (limit : ℕ) (history : History) (index more : ℕ) (default : Entry) → IsLegal limit history → index + more < length history.entries →
    (get_or history.entries index default).at ≤ℤ (get_or history.entries (index + more) default).at
later_not_before limit history index zero default legal within =
    let same : index ≡ index + zero = omega arith in
    subst (λ i. (get_or history.entries index default).at ≤ℤ (get_or history.entries i default).at) same (omega (arith, ints))
later_not_before limit history index (suc more) default legal within =
    let same : index + more + 1 ≡ index + suc more = omega arith in
    let so_far = later_not_before limit history index more default legal (omega (arith, within)) in
    let next = next_not_before limit history (index + more) default legal (omega (arith, within)) in
    subst (λ i. (get_or history.entries index default).at ≤ℤ (get_or history.entries i default).at) same (omega (arith, ints, so_far, next))

-- moments never fall
pub never_fall : (limit : ℕ) (history : History) → IsLegal limit history → NeverFall history.entries
never_fall limit history legal = λ earlier later default order within.
    let there : earlier + (later - earlier) ≡ later = omega (arith, order) in
    subst (λ i. (get_or history.entries earlier default).at ≤ℤ (get_or history.entries i default).at) there
    (later_not_before limit history earlier (later - earlier) default legal (omega (arith, there, within)))
