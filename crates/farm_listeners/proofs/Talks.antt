-- The one count of a connection in memory, and a connection that wasn't used.
use Rattle.std.proofs.Common.{◌≡◌, ℕ, ◌+◌, ◌-◌, ◌^◌, min, true, List, [], ◌∷◌, length, take, refl, Result, Ok, Err, arith}
use Rattle.std.specs.Prelude.{◌==◌}
use Rattle.farm_base.proofs.BoolTests.{and_parts}
use Rattle.std.proofs.lemmas.Bool.Decides.{nat_tests}
use Rattle.farm_base.specs.Counts.{Counts}
use Rattle.farm_listeners.specs.Listeners.{IsFreshConnection}
use Rattle.farm_listeners.specs.Objects.{TalkState, is_new_talk, known_talk}

-- a call that raises one of two counts raises both as one
pub one_count_rises : {T E : Type 0} (before now other : ℕ) (result : Result T E) → Counts before now result →
    Counts (min (before + other) (2 ^ 64 - 1)) (min (now + other) (2 ^ 64 - 1)) result
one_count_rises before now other (Ok done) counts = record { never_falls = omega (arith, counts.never_falls); failed = tt; quiet = omega (arith, counts.quiet) }
one_count_rises before now other (Err e) counts = record {
  never_falls = omega (arith, counts.never_falls);
  failed = omega (arith, counts.never_falls, counts.failed);
  quiet = tt;
}

-- the same of the other count
pub other_count_rises : {T E : Type 0} (other before now : ℕ) (result : Result T E) → Counts before now result →
    Counts (min (other + before) (2 ^ 64 - 1)) (min (other + now) (2 ^ 64 - 1)) result
other_count_rises other before now (Ok done) counts = record { never_falls = omega (arith, counts.never_falls); failed = tt; quiet = omega (arith, counts.quiet) }
other_count_rises other before now (Err e) counts = record {
  never_falls = omega (arith, counts.never_falls);
  failed = omega (arith, counts.never_falls, counts.failed);
  quiet = tt;
}

-- a list whose length tests as 0 has no item
none_of : (xs : List ℕ) → (length xs == 0) ≡ true → xs ≡ []
none_of [] none = refl
none_of (x ∷ xs) none = grind (arith, nat_tests)

-- a connection that wasn't used is fresh
pub new_is_fresh : (talk : TalkState) → is_new_talk talk ≡ true → IsFreshConnection (known_talk talk)
new_is_fresh talk new =
    let parts = and_parts _ _ new in
    let moved = and_parts _ _ parts.0 in
    record {
      taken = none_of (take talk.source.taken talk.source.bytes) moved.0;
      held = none_of talk.sink.bytes moved.1;
      faults = grind (arith, nat_tests);
    }
