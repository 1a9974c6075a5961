-- The list has one answer, but for a front that ends within the target.
use Rattle.std.proofs.Common.{◌≡◌, ℕ, Bool, true, false, IsTrue, List, [], length, refl, sym, ap, subst, ◌∙◌, arith, inl, inr}
use Rattle.std.proofs.lemmas.Bool.{false≢true}
use Rattle.std.specs.Prelude.{◌↔◌}
use Rattle.httparse.specs.Grammar.{EndsInTarget, RequestHead, print_request}
use Rattle.httparse.proofs.GrammarLemmas.{request_unique}
use Rattle.http_heads.specs.declared.fronts.Front.{Front}
use Rattle.http_heads.specs.declared.fronts.Front.TheVariants.{Broken, Need, Whole}
use Rattle.http_heads.specs.declared.fronts.RequestFront.{RequestFront}
use Rattle.http_heads.specs.Limits.{bad_request}
use Rattle.http_heads.specs.Rows.{IsLast, LacksLength}
use Rattle.http_heads.specs.Fronts.{AwaitsHead, HasHead, IsBroken, IsFront, IsNeeded, IsRequest, bad, lacks_length, of_body, of_head, too_large, too_long}
use Rattle.http_heads.specs.Laws.{IsOnlyFront, IsSameRequest}

-- bytes have one whole head
same_head : (bytes : List ℕ) (one other : RequestHead) → HasHead bytes one → HasHead bytes other → one ≡ other
same_head bytes one other is has = (request_unique bytes one other is.rest has.rest is.reads has.reads).0

-- the one head lacks a length, or it doesn't
both_lengths : (bytes : List ℕ) (one other : RequestHead) → HasHead bytes one → HasHead bytes other → LacksLength one bytes
    → ¬ (LacksLength other bytes) → ⊥
both_lengths bytes one other is has lacks stated =
    stated (subst (λ (head : RequestHead). LacksLength head bytes) (same_head bytes one other is has) lacks)

-- no head is whole where one is awaited
no_head : (bytes : List ℕ) (head : RequestHead) → AwaitsHead bytes → HasHead bytes head → ⊥
no_head bytes head awaits has = awaits.none_yet head has.rest has.reads

-- a status and Need
need_or_broken : (bytes : List ℕ) (status : ℕ) → IsNeeded bytes → IsBroken bytes status
    → EndsInTarget bytes × (status ≡ bad_request)
need_or_broken bytes status (of_head awaits) (too_large is large) = absurd (awaits.within_limits large)
need_or_broken bytes status (of_head awaits) (bad is fine (inl never)) =
    elim awaits.may_come [
      | inl some ↦ absurd (never some.0 some.1 [] some.2)
      | inr ends ↦ (ends, is)
    ]
need_or_broken bytes status (of_head awaits) (bad is fine (inr length)) = absurd (awaits.good_length length)
need_or_broken bytes status (of_head awaits) (lacks_length is head has lacks) = absurd (no_head bytes head awaits has)
need_or_broken bytes status (of_head awaits) (too_long is head has stated long) = absurd (no_head bytes head awaits has)
need_or_broken bytes status (of_body awaits) (too_large is large) = absurd (awaits.has_length.whole.within_limits large)
need_or_broken bytes status (of_body awaits) (bad is fine broken) = absurd (awaits.has_length.whole.good broken)
need_or_broken bytes status (of_body awaits) (lacks_length is head has lacks) =
    absurd (both_lengths bytes head awaits.head has awaits.has_length.whole lacks awaits.has_length.stated)
need_or_broken bytes status (of_body awaits) (too_long is head has stated long) = absurd (awaits.has_length.within_limit long)

-- a whole request and Need
need_or_whole : (bytes : List ℕ) (request : RequestFront) → IsNeeded bytes → IsRequest bytes request → ⊥
need_or_whole bytes request (of_head awaits) is = no_head bytes is.of awaits is.has_length.whole
need_or_whole bytes request (of_body awaits) is =
    let same = same_head bytes awaits.head is.of awaits.has_length.whole is.has_length.whole in
    omega (arith, awaits.lacks_body, is.whole, is.head, is.body, ap (λ head. length (print_request head)) same)

-- a whole request and a status
broken_or_whole : (bytes : List ℕ) (status : ℕ) (request : RequestFront) → IsBroken bytes status → IsRequest bytes request → ⊥
broken_or_whole bytes status request (too_large at large) is = is.has_length.whole.within_limits large
broken_or_whole bytes status request (bad at fine broken) is = is.has_length.whole.good broken
broken_or_whole bytes status request (lacks_length at head has lacks) is =
    both_lengths bytes head is.of has is.has_length.whole lacks is.has_length.stated
broken_or_whole bytes status request (too_long at head has stated long) is = is.has_length.within_limit long

-- two statuses
one_status : (bytes : List ℕ) (status other : ℕ) → IsBroken bytes status → IsBroken bytes other → status ≡ other
one_status bytes status other (too_large at large) (too_large is much) = at ∙ sym is
one_status bytes status other (too_large at large) (bad is fine broken) = absurd (fine large)
one_status bytes status other (too_large at large) (lacks_length is head has lacks) = absurd (has.within_limits large)
one_status bytes status other (too_large at large) (too_long is head has stated long) = absurd (has.within_limits large)
one_status bytes status other (bad at fine broken) (too_large is much) = absurd (fine much)
one_status bytes status other (bad at fine broken) (bad is well poor) = at ∙ sym is
one_status bytes status other (bad at fine broken) (lacks_length is head has lacks) = absurd (has.good broken)
one_status bytes status other (bad at fine broken) (too_long is head has stated long) = absurd (has.good broken)
one_status bytes status other (lacks_length at head has lacks) (too_large is much) = absurd (has.within_limits much)
one_status bytes status other (lacks_length at head has lacks) (bad is well poor) = absurd (has.good poor)
one_status bytes status other (lacks_length at head has lacks) (lacks_length is again had lack) = at ∙ sym is
one_status bytes status other (lacks_length at head has lacks) (too_long is again had stated long) =
    absurd (both_lengths bytes head again has had lacks stated)
one_status bytes status other (too_long at head has stated long) (too_large is much) = absurd (has.within_limits much)
one_status bytes status other (too_long at head has stated long) (bad is well poor) = absurd (has.good poor)
one_status bytes status other (too_long at head has stated long) (lacks_length is again had lacks) =
    absurd (both_lengths bytes again head had has lacks stated)
one_status bytes status other (too_long at head has stated long) (too_long is again had told much) = at ∙ sym is

-- two tests of one fact
same_test : {P : Type 0} (one other : Bool) → (IsTrue one ↔ P) → (IsTrue other ↔ P) → one ≡ other
same_test true true is has = refl
same_test true false is has = absurd (false≢true (has.1 (is.0 refl)))
same_test false true is has = absurd (false≢true (is.1 (has.0 refl)))
same_test false false is has = refl

-- two whole requests
one_request : (bytes : List ℕ) (one other : RequestFront) → IsRequest bytes one → IsRequest bytes other → IsSameRequest one other
one_request bytes one other is has =
    let same = same_head bytes is.of has.of is.has_length.whole has.has_length.whole in
    let last : IsTrue one.last ↔ IsLast has.of bytes =
    subst (λ (head : RequestHead). IsTrue one.last ↔ IsLast head bytes) same is.last in
    record {
      method = is.method ∙ ap (λ head. head.method) same ∙ sym has.method;
      target = is.target ∙ ap (λ head. head.target) same ∙ sym has.target;
      last = same_test one.last other.last last has.last;
      head = is.head ∙ ap (λ head. length (print_request head)) same ∙ sym has.head;
      body = is.body ∙ sym has.body;
    }

-- no other answer is one of the list
pub only_front : (bytes : List ℕ) (answer : Front) → IsFront bytes answer → IsOnlyFront bytes answer
only_front bytes Need is Need other = inl tt
only_front bytes Need is (Broken status) other = inr (need_or_broken bytes status is other)
only_front bytes Need is (Whole request) other = absurd (need_or_whole bytes request is other)
only_front bytes (Broken status) is Need other = inr (need_or_broken bytes status other is)
only_front bytes (Broken status) is (Broken again) other = inl (one_status bytes status again is other)
only_front bytes (Broken status) is (Whole request) other = absurd (broken_or_whole bytes status request is other)
only_front bytes (Whole request) is Need other = absurd (need_or_whole bytes request other is)
only_front bytes (Whole request) is (Broken status) other = absurd (broken_or_whole bytes status request other is)
only_front bytes (Whole request) is (Whole again) other = inl (one_request bytes request again is other)
