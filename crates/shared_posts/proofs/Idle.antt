-- The callers of a desk without one that entered nothing.
use Rattle.std.proofs.Common.{◌≡◌, ◌≢◌, ◌∙◌, ℕ, zero, suc, ◌<◌, ◌≤◌, ◌==◌, Bool, true, false, if◌then◌else◌, List, [], ◌∷◌, get_or, length, refl, sym, ap, subst, arith}
use Rattle.std.specs.Prelude.{Any}
use Rattle.std.proofs.lemmas.Bool.Decides.{nat_tests}
use Rattle.std.proofs.lemmas.List.Elements.{All-head, All-tail}
use Rattle.std.proofs.lemmas.List.Sums.{sum_by-cons}
use Rattle.farm_base.specs.Counts.{raised}
use Rattle.farm_history.specs.declared.entry.Entry.{Entry}
use Rattle.journaled_book.specs.Histories.{certain}
use Rattle.farm_desk.specs.States.{Continues, DeskState}
use Rattle.desk_access.specs.Access.{CallerState, entered_since}
use Rattle.desk_turns.specs.Closing.{AreCallers, entries_by}

-- an entry that isn't taken into a list of which none is left isn't the caller's, nor is one after it
none_after : (n : ℕ) (e : Entry) (es : List Entry) (d : Entry) (test : Bool) → (e.caller == n) ≡ test →
    (if test then e ∷ entries_by n es else entries_by n es) ≡ [] →
    (entries_by n es ≡ [] → (k : ℕ) → k < length es → (get_or es k d).caller ≢ n) → (k : ℕ) → k < length (e ∷ es) → (get_or (e ∷ es) k d).caller ≢ n
none_after n e es d true is some later k within = absurd cc
none_after n e es d false is some later zero within = λ same.
    let t : (e.caller == n) ≡ true = grind (arith, nat_tests) in
    absurd (let clash : true ≡ false = sym t ∙ is in cc)
none_after n e es d false is some later (suc k) within = later some k (omega (arith, within))

-- if a caller has none of some entries, none of them is its
none_with : (n : ℕ) (entries : List Entry) → entries_by n entries ≡ [] → (d : Entry) (k : ℕ) → k < length entries → (get_or entries k d).caller ≢ n
none_with n [] none d k within = absurd (omega (arith, within))
none_with n (e ∷ es) none d k within = none_after n e es d (e.caller == n) refl none (λ some. none_with n es some d) k within

-- one of some, and not the first, is one of the others
any_other : {X : Type 0} (P : X → Type 0) (x : X) (xs : List X) → ¬ (P x) → Any P (x ∷ xs) → Any P xs
any_other P x xs isnt (zero, y, within, at, holds) = absurd (isnt (subst P (sym at) holds))
any_other P x xs isnt (suc k, y, within, at, holds) = (k, y, omega (arith, within), at, holds)

-- without a caller that entered nothing, the others are all callers of the desk
pub without_idle : {D : Type 0} (opening left : DeskState D) (idle : CallerState) (callers : List CallerState) → idle.own ≡ [] → idle.faulted ≡ 0 →
    AreCallers opening left (idle ∷ callers) → AreCallers opening left callers
without_idle opening left idle callers nothing no_fault are =
    let entered : List Entry = entered_since opening.history left.history in
    let Own : CallerState → Type 0 = λ (caller : CallerState). caller.own ≡ entries_by caller.caller entered in
    let none : entries_by idle.caller entered ≡ [] = sym (All-head Own idle callers are.own) ∙ nothing in
    let sum = sum_by-cons (λ (caller : CallerState). caller.faulted) idle callers in
    record {
      found = are.found;
      seen = All-tail (λ (caller : CallerState). Continues caller.seen left.history) idle callers are.seen;
      own = All-tail Own idle callers are.own;
      entered = λ k d within.
          any_other (λ (caller : CallerState). caller.caller ≡ (get_or entered k d).caller) idle callers
          (λ same. none_with idle.caller entered none d k within (sym same)) (are.entered k d within);
      certain = All-tail (λ (caller : CallerState). caller.certain ≤ certain left.doubt left.history) idle callers are.certain;
      failed = are.failed ∙ ap (λ (n : ℕ). raised n 0) (omega (arith, sum, no_fault));
    }
