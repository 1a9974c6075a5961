-- The faults that the callers of one desk were answered.
use Rattle.std.proofs.Common.{◌≡◌, ◌⊎◌, inl, inr, ⊎_elim, ℕ, ◌+◌, ◌-◌, ◌^◌, ◌<◌, ◌≤◌, min, List, [], ◌∷◌, refl, arith}
use Rattle.std.specs.Prelude.{All, sum_by}
use Rattle.std.proofs.lemmas.Bool.Decides.{leb_tells}
use Rattle.std.proofs.lemmas.List.Elements.{All-cons, All-head, All-nil, All-tail}
use Rattle.std.proofs.lemmas.List.Sums.{sum_by-cons}
use Rattle.farm_base.proofs.Rises.{faults_are_added}
use Rattle.farm_base.specs.Counts.{raised}
use Rattle.journaled_book.specs.Replies.{faults_of}
use Rattle.journaled_book.specs.declared.answer.Answer.{Answer}
use Rattle.journaled_book.specs.declared.answer.Answer.TheVariants.{Done, DiskFault, NoMemory}
use Rattle.desk_turns.specs.Tallies.{CallerFaults, IsTallied, TalliesAddUp}

-- an answer that is no fault leaves the counts
tallied_still : (old new : CallerFaults) (before after : ℕ) → IsTallied old → old.level ≤ before → after ≡ before →
    new.tally + before ≡ old.tally + after → new.level ≡ after → new.faulted ≡ min old.faulted (2 ^ 64 - 1) → IsTallied new
tallied_still old new before after (inl is) seen same tally level count = inl (omega (arith, is, same, tally, count))
tallied_still old new before after (inr is) seen same tally level count =
    inr (omega (arith, is.0, seen, same, level), omega (arith, is.1, same, tally, count))

-- a fault is counted by its caller, and by the desk as long as its count rises
tallied_more : (old new : CallerFaults) (before after : ℕ) → IsTallied old → old.level ≤ before → before ≤ after → after ≡ min (before + 1) (2 ^ 64 - 1) →
    new.tally + before ≡ old.tally + after → new.level ≡ after → new.faulted ≡ min (old.faulted + 1) (2 ^ 64 - 1) →
    (after ≡ before) ⊎ (after ≡ before + 1) → IsTallied new
tallied_more old new before after (inl is) seen rises raise tally level count (inl stopped) =
    inr (omega (arith, raise, rises, stopped, level), omega (arith, is, stopped, tally, count))
tallied_more old new before after (inl is) seen rises raise tally level count (inr rose) =
    inl (omega (arith, is, rose, tally, count))
tallied_more old new before after (inr is) seen rises raise tally level count either =
    inr (omega (arith, is.0, seen, rises, raise, level), omega (arith, is.0, is.1, seen, rises, raise, tally, count))

-- a count that is raised by one stays or rises by one
one_or_none : (before after : ℕ) → before ≤ after → after ≡ min (before + 1) (2 ^ 64 - 1) → (after ≡ before) ⊎ (after ≡ before + 1)
one_or_none before after rises raise =
    ⊎_elim (λ last. inl (omega (arith, last.1, rises, raise))) (λ below. inr (omega (arith, below.1, raise))) (leb_tells (2 ^ 64 - 1) before)

-- after an answer the faults of its caller are counted as before
pub tallied_on : (answer : Answer) (old new : CallerFaults) (before after : ℕ) → IsTallied old → old.level ≤ before → before ≤ after →
    after ≡ raised (faults_of answer) before → new.tally + before ≡ old.tally + after → new.level ≡ after →
    new.faulted ≡ min (old.faulted + faults_of answer) (2 ^ 64 - 1) → IsTallied new
tallied_on (Done reply) old new before after is seen rises raise tally level count =
    tallied_still old new before after is seen raise tally level (omega (arith, count))
tallied_on DiskFault old new before after is seen rises raise tally level count =
    tallied_more old new before after is seen rises raise tally level count (one_or_none before after rises raise)
tallied_on NoMemory old new before after is seen rises raise tally level count =
    tallied_still old new before after is seen raise tally level (omega (arith, count))

-- and so they are after a look, which leaves the desk's count
pub tallied_looked : (old new : CallerFaults) (before after : ℕ) → IsTallied old → old.level ≤ before → after ≡ before →
    new.tally + before ≡ old.tally + after → new.level ≡ after → new.faulted ≡ old.faulted → IsTallied new
tallied_looked old new before after (inl is) seen same tally level count = inl (omega (arith, is, same, tally, count))
tallied_looked old new before after (inr is) seen same tally level count =
    inr (omega (arith, is.0, seen, same, level), omega (arith, is.1, same, tally, count))

-- a count of at most the last u64 doesn't fall
pub raised_not_below : (n before : ℕ) → before < 2 ^ 64 → before ≤ raised n before
raised_not_below n before small = omega (arith, small, faults_are_added n before small)

-- a count of its own that is at most the last u64 is raised by the faults of an answer
pub raised_own : (answer : Answer) (old new : ℕ) → old < 2 ^ 64 → new ≡ min (old + faults_of answer) (2 ^ 64 - 1) → new ≡ raised (faults_of answer) old
raised_own (Done reply) old new small is = omega (arith, small, is)
raised_own DiskFault old new small is = is
raised_own NoMemory old new small is = omega (arith, small, is)

-- no count of its own is below the tally, up to the last u64
own_not_below : (caller : CallerFaults) → IsTallied caller → min caller.tally (2 ^ 64 - 1) ≤ caller.faulted
own_not_below caller (inl is) = omega (arith, is)
own_not_below caller (inr is) = is.1

-- nor are all of them together
all_not_below : (callers : List CallerFaults) → All IsTallied callers →
    min (sum_by (λ caller. caller.tally) callers) (2 ^ 64 - 1) ≤ sum_by (λ caller. caller.faulted) callers
all_not_below [] all = omega arith
all_not_below (caller ∷ callers) all =
    omega (
      arith,
      sum_by-cons (λ (one : CallerFaults). one.tally) caller callers,
      sum_by-cons (λ (one : CallerFaults). one.faulted) caller callers,
      own_not_below caller (All-head IsTallied caller callers all),
      all_not_below callers (All-tail IsTallied caller callers all),
    )

-- either the desk's count stands at the last u64, or each caller counted by how much its jobs raised it
all_alike : (failed : ℕ) (callers : List CallerFaults) → failed < 2 ^ 64 → All (λ caller. caller.level ≤ failed) callers → All IsTallied callers →
    (failed ≡ 2 ^ 64 - 1) ⊎ All (λ caller. caller.faulted ≡ min caller.tally (2 ^ 64 - 1)) callers
all_alike failed [] small levels all = inr (All-nil (λ (caller : CallerFaults). caller.faulted ≡ min caller.tally (2 ^ 64 - 1)))
all_alike failed (caller ∷ callers) small levels all =
    let Alike : CallerFaults → Type 0 = λ one. one.faulted ≡ min one.tally (2 ^ 64 - 1) in
    let level = All-head (λ (one : CallerFaults). one.level ≤ failed) caller callers levels in
    by_first (All-head IsTallied caller callers all)
    (all_alike failed callers small (All-tail (λ (one : CallerFaults). one.level ≤ failed) caller callers levels) (All-tail IsTallied caller callers all))
  where
    by_first : IsTallied caller → (failed ≡ 2 ^ 64 - 1) ⊎ All (λ one. one.faulted ≡ min one.tally (2 ^ 64 - 1)) callers →
        (failed ≡ 2 ^ 64 - 1) ⊎ All (λ one. one.faulted ≡ min one.tally (2 ^ 64 - 1)) (caller ∷ callers)
    by_first (inl is) (inl last) = inl last
    by_first (inl is) (inr rest) = inr (All-cons (λ (one : CallerFaults). one.faulted ≡ min one.tally (2 ^ 64 - 1)) caller callers is rest)
    by_first (inr is) rest = inl (omega (arith, small, is.0, All-head (λ (one : CallerFaults). one.level ≤ failed) caller callers levels))

-- counts alike add up alike, as long as the sum is at most the last u64
all_counted : (callers : List CallerFaults) → sum_by (λ caller. caller.tally) callers < 2 ^ 64 →
    All (λ caller. caller.faulted ≡ min caller.tally (2 ^ 64 - 1)) callers →
    sum_by (λ caller. caller.faulted) callers ≡ sum_by (λ caller. caller.tally) callers
all_counted [] small alike = refl
all_counted (caller ∷ callers) small alike =
    let Alike : CallerFaults → Type 0 = λ one. one.faulted ≡ min one.tally (2 ^ 64 - 1) in
    let tallies = sum_by-cons (λ (one : CallerFaults). one.tally) caller callers in
    omega (
      arith,
      tallies,
      small,
      sum_by-cons (λ (one : CallerFaults). one.faulted) caller callers,
      All-head Alike caller callers alike,
      all_counted callers (omega (arith, tallies, small)) (All-tail Alike caller callers alike),
    )

-- the faults of all callers add up
pub tallies_add_up : TalliesAddUp
tallies_add_up failed callers small sum levels all =
    let added = faults_are_added (sum_by (λ (caller : CallerFaults). caller.faulted) callers) 0 (omega arith) in
    by (all_alike failed callers small levels all) added
  where
    by : (failed ≡ 2 ^ 64 - 1) ⊎ All (λ caller. caller.faulted ≡ min caller.tally (2 ^ 64 - 1)) callers →
        raised (sum_by (λ caller. caller.faulted) callers) 0 ≡ min (0 + sum_by (λ caller. caller.faulted) callers) (2 ^ 64 - 1) →
        failed ≡ raised (sum_by (λ caller. caller.faulted) callers) 0
    by (inl last) added = omega (arith, last, sum, added, all_not_below callers all)
    by (inr alike) added = omega (arith, small, sum, added, all_counted callers (omega (arith, small, sum)) alike)
