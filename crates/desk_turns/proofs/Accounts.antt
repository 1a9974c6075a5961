-- The callers of a desk, once their turn is closed.
use Rattle.std.proofs.Common.{◌≡◌, ◌∙◌, ℕ, zero, suc, ◌^◌, ◌<◌, ◌≤◌, List, [], ◌∷◌, get_or, map, refl, sym, ap, subst, arith}
use Rattle.std.specs.Prelude.{All, Any, Option, Some, sum_by}
use Rattle.std.proofs.lemmas.List.Elements.{All-cons, All-head, All-map, All-nil, All-tail}
use Rattle.std.proofs.lemmas.List.Sums.{sum_by-cons}
use mathlib.Core.List.{IsPrefix}
use Rattle.farm_history.specs.declared.entry.Entry.{Entry}
use Rattle.farm_turn.specs.Chronicles.{entries_of}
use Rattle.farm_turn.specs.Sharing.{IsClosed}
use Rattle.farm_turn.specs.Views.{PassView, TurnView}
use Rattle.journaled_book.specs.Histories.{certain}
use Rattle.farm_desk.specs.States.{Continues, DeskState, FoundState}
use Rattle.desk_access.specs.Access.{CallerState, entered_since}
use Rattle.desk_access.proofs.Lists.{all_by_both}
use Rattle.farm_base.specs.Counts.{raised}
use Rattle.desk_turns.specs.Closing.{AccountsFor, AreCallers, IsAccessOf, IsUnused, entries_by}
use Rattle.desk_turns.specs.Tallies.{CallerFaults, IsTallied}
use Rattle.desk_turns.specs.Turns.{TurnState, seen_history, turn_caller}
use Rattle.desk_turns.proofs.Counting.{tallies_add_up}
use Rattle.desk_turns.proofs.Seeing.{continues_by}
use Rattle.desk_turns.proofs.Turning.{desk_features, same_number}

-- what holds of each image of elements holds of the elements
all_of_map : {X Y : Type 0} (f : X → Y) (P : Y → Type 0) (xs : List X) → All P (map f xs) → All (λ x. P (f x)) xs
all_of_map f P [] all = All-nil (λ x. P (f x))
all_of_map f P (x ∷ xs) all =
    All-cons (λ y. P (f y)) x xs (All-head P (f x) (map f xs) all) (all_of_map f P xs (All-tail P (f x) (map f xs) all))

-- a sum over images is a sum over the elements
sum_of_map : {X Y : Type 0} (f : X → Y) (g : Y → ℕ) (xs : List X) → sum_by g (map f xs) ≡ sum_by (λ x. g (f x)) xs
sum_of_map f g [] = refl
sum_of_map {X} f g (x ∷ xs) =
    omega (arith, sum_by-cons g (f x) (map f xs), sum_by-cons (λ (y : X). g (f y)) x xs, sum_of_map f g xs)

-- one of some elements is one of more
any_more : {X : Type 0} (P : X → Type 0) (x : X) (xs : List X) → Any P xs → Any P (x ∷ xs)
any_more P x xs (k, y, within, at, holds) = (suc k, y, omega (arith, within), at, holds)

-- one of the images of elements is that of one of them
any_of_map : {X Y : Type 0} (f : X → Y) (P : Y → Type 0) (xs : List X) → Any P (map f xs) → Any (λ x. P (f x)) xs
any_of_map f P [] (k, y, within, at, holds) = absurd (omega (arith, within))
any_of_map f P (x ∷ xs) (zero, y, within, at, holds) = (zero, x, omega arith, refl, subst P (sym at) holds)
any_of_map f P (x ∷ xs) (suc k, y, within, at, holds) =
    any_more (λ z. P (f z)) x xs (any_of_map f P xs (k, y, omega (arith, within), at, holds))

-- and the image of one of them is one of the images
any_to_map : {X Y : Type 0} (f : X → Y) (P : Y → Type 0) (xs : List X) → Any (λ x. P (f x)) xs → Any P (map f xs)
any_to_map f P [] (k, y, within, at, holds) = absurd (omega (arith, within))
any_to_map f P (x ∷ xs) (zero, y, within, at, holds) = (zero, f x, omega arith, refl, subst (λ z. P (f z)) (sym at) holds)
any_to_map f P (x ∷ xs) (suc k, y, within, at, holds) =
    any_more P (f x) (map f xs) (any_to_map f P xs (k, y, omega (arith, within), at, holds))

-- what follows of one element follows of the one there is
any_by : {X : Type 0} (P Q R : X → Type 0) (xs : List X) → All P xs → ((x : X) → P x → Q x → R x) → Any Q xs → Any R xs
any_by P Q R xs all implies (k, x, within, at, holds) = (k, x, within, at, implies x (subst P at (all k x within)) holds)

-- what is known of the faults of a caller, by its access
abbrev caller_faults : {D : Type 0} → TurnState D → CallerFaults
caller_faults access = record { tally = access.pass.known.tally; level = access.pass.known.level; faulted = access.faulted }

module _ {D : Type 0} (turn : TurnView (DeskState D)) (passes : List (PassView Entry (FoundState D))) (left : DeskState D)
    (closed : IsClosed desk_features turn.opening passes left) (unused : IsUnused turn.opening) (fits : left.failed < 2 ^ 64) where
  module _ (accesses : List (TurnState D)) (maps : map (λ access. access.pass) accesses ≡ passes) (each : All (IsAccessOf turn) accesses) where
    -- what holds of each pass holds of the pass of each access
    of_each : (P : PassView Entry (FoundState D) → Type 0) → All P passes → All (λ access. P access.pass) accesses
    of_each P all = all_of_map (λ (access : TurnState D). access.pass) P accesses (subst (All P) (sym maps) all)

    -- the desk's history continues what a caller has seen
    continues_one : (access : TurnState D) → IsAccessOf turn access → IsPrefix access.pass.known.seen left.history.entries →
        Continues (seen_history access) left.history
    continues_one access is prefix =
        continues_by (seen_history access) left.history
        (ap (λ (found : FoundState D). found.history.site) closed.root_is
        ∙ ap (λ (view : TurnView (DeskState D)). view.opening.history.site) (sym is.turn_is)) prefix

    -- its entries are those with its number
    own_one : (access : TurnState D) → IsAccessOf turn access →
        access.pass.known.own ≡ entries_of (λ (entry : Entry). entry.caller) access.pass.known.number (entered_since turn.opening.history left.history) →
        access.pass.known.own ≡ entries_by access.caller (entered_since turn.opening.history left.history)
    own_one access is own =
        own ∙ ap (λ (number : Option ℕ). entries_of (λ (entry : Entry). entry.caller) number (entered_since turn.opening.history left.history)) is.stands.enrolled

    -- all faults of the accesses are those of the desk
    failed_is : left.failed ≡ sum_by (λ (faults : CallerFaults). faults.tally) (map caller_faults accesses)
    failed_is =
        let sums = sum_of_map (λ (access : TurnState D). access.pass) (λ (pass : PassView Entry (FoundState D)). pass.known.tally) accesses in
        let same = ap (sum_by (λ (pass : PassView Entry (FoundState D)). pass.known.tally)) maps in
        let own = sum_of_map caller_faults (λ (faults : CallerFaults). faults.tally) accesses in
        omega (arith, closed.tally, unused.failed, sums, same, own)

    -- the callers are all that the desk had
    pub are_callers : AreCallers turn.opening left (map turn_caller accesses)
    are_callers = record {
      found = closed.root_is;
      seen = All-map (λ (caller : CallerState). Continues caller.seen left.history) turn_caller accesses
          (all_by_both (IsAccessOf turn) (λ (access : TurnState D). IsPrefix access.pass.known.seen left.history.entries)
          (λ (access : TurnState D). Continues (seen_history access) left.history) accesses continues_one each
          (of_each (λ pass. IsPrefix pass.known.seen left.history.entries) closed.seen));
      own = All-map (λ (caller : CallerState). caller.own ≡ entries_by caller.caller (entered_since turn.opening.history left.history)) turn_caller accesses
          (all_by_both (IsAccessOf turn)
          (λ (access : TurnState D). access.pass.known.own
          ≡ entries_of (λ (entry : Entry). entry.caller) access.pass.known.number (entered_since turn.opening.history left.history))
          (λ (access : TurnState D). access.pass.known.own ≡ entries_by access.caller (entered_since turn.opening.history left.history)) accesses own_one each
          (of_each (λ pass. pass.known.own
          ≡ entries_of (λ (entry : Entry). entry.caller) pass.known.number (entered_since turn.opening.history left.history)) closed.own_entries));
      entered = λ k d within.
          let entry : Entry = get_or (entered_since turn.opening.history left.history) k d in
          any_to_map turn_caller (λ (caller : CallerState). caller.caller ≡ entry.caller) accesses
          (any_by (IsAccessOf turn) (λ (access : TurnState D). access.pass.known.number ≡ Some entry.caller)
          (λ (access : TurnState D). access.caller ≡ entry.caller) accesses each
          (λ access is number. same_number access.caller entry.caller access.pass.known.number is.stands.enrolled number)
          (any_of_map (λ (access : TurnState D). access.pass) (λ (pass : PassView Entry (FoundState D)). pass.known.number ≡ Some entry.caller) accesses
          (subst (λ (all : List (PassView Entry (FoundState D))). Any (λ pass. pass.known.number ≡ Some entry.caller) all) (sym maps)
          (closed.callers k d within))));
      certain = All-map (λ (caller : CallerState). caller.certain ≤ certain left.doubt left.history) turn_caller accesses
          (of_each (λ pass. pass.known.mark ≤ certain left.doubt left.history) closed.marks);
      failed = tallies_add_up left.failed (map caller_faults accesses) fits failed_is
          (All-map (λ (faults : CallerFaults). faults.level ≤ left.failed) caller_faults accesses
          (of_each (λ pass. pass.known.level ≤ left.failed) closed.levels))
          (All-map IsTallied caller_faults accesses
          (λ k d within. (each k d within).stands.tallied))
          ∙ ap (λ (faults : ℕ). raised faults 0)
          (sum_of_map caller_faults (λ (faults : CallerFaults). faults.faulted) accesses
          ∙ sym (sum_of_map turn_caller (λ (caller : CallerState). caller.faulted) accesses));
    }

  -- whatever accesses the passes are of
  pub accounts : AccountsFor turn passes left
  accounts = are_callers
