-- Statuses of requests that the desk isn't asked.
use Rattle.std.proofs.Common.{◌≡◌, inl, inr, ℕ, Bool, List, Option, Some, None, refl, sym, subst, arith}
use Rattle.farm_http.specs.PageTexts.{IsAnswer}
use Rattle.farm_http.specs.declared.page.Allow.{Allow}
use Rattle.farm_http.specs.declared.page.Page.TheVariants as pages
use Rattle.http_heads.specs.Fronts.{IsBroken}
use Rattle.http_heads.specs.Fronts.IsBroken.{too_large, bad, lacks_length, too_long}
use Rattle.http_requests.specs.Asking.{AskedIsFirst, IsAskedOf, method_of}
use Rattle.http_requests.specs.Asking.IsAskedOf.{nowhere, other_method, bad_body, command, look_up}
use Rattle.http_requests.specs.Hearing.{IsGot, body_of}
use Rattle.http_requests.specs.declared.asked.Asked.{Asked}
use Rattle.http_requests.specs.declared.asked.Asked.TheVariants as asks

-- each of these statuses is answered
answer_400 : IsAnswer (pages.Status 400 None)
answer_400 = (inl refl, (λ some. absurd (cc some), λ is. absurd (omega (arith, is))))

answer_404 : IsAnswer (pages.Status 404 None)
answer_404 = (inr (inl refl), (λ some. absurd (cc some), λ is. absurd (omega (arith, is))))

answer_405 : (allow : Allow) → IsAnswer (pages.Status 405 (Some allow))
answer_405 allow = (inr (inr (inl refl)), (λ some. refl, λ is. refl))

answer_411 : IsAnswer (pages.Status 411 None)
answer_411 = (inr (inr (inr (inl refl))), (λ some. absurd (cc some), λ is. absurd (omega (arith, is))))

answer_413 : IsAnswer (pages.Status 413 None)
answer_413 = (inr (inr (inr (inr (inl refl)))), (λ some. absurd (cc some), λ is. absurd (omega (arith, is))))

answer_431 : IsAnswer (pages.Status 431 None)
answer_431 = (inr (inr (inr (inr (inr (inl refl))))), (λ some. absurd (cc some), λ is. absurd (omega (arith, is))))

-- a fault of the disk is answered
pub answer_503 : IsAnswer (pages.Status 503 None)
answer_503 = (inr (inr (inr (inr (inr (inr (inl refl)))))), (λ some. absurd (cc some), λ is. absurd (omega (arith, is))))

-- out of memory is answered
pub answer_507 : IsAnswer (pages.Status 507 None)
answer_507 = (inr (inr (inr (inr (inr (inr (inr refl)))))), (λ some. absurd (cc some), λ is. absurd (omega (arith, is))))

-- a status that is known is answered
known_status : (status known : ℕ) → status ≡ known → IsAnswer (pages.Status known None) → IsAnswer (pages.Status status None)
known_status status known is answer = subst (λ (n : ℕ). IsAnswer (pages.Status n None)) (sym is) answer

-- the status of broken bytes is answered
pub broken_answer : (bytes : List ℕ) (status : ℕ) → IsBroken bytes status → IsAnswer (pages.Status status None)
broken_answer bytes status (too_large is large) = known_status status 431 is answer_431
broken_answer bytes status (bad is small broken) = known_status status 400 is answer_400
broken_answer bytes status (lacks_length is head has lacks) = known_status status 411 is answer_411
broken_answer bytes status (too_long is head has states long) = known_status status 413 is answer_413

-- what isn't asked, as it is known, is answered
known_bad : (status known : ℕ) (allow same : Option Allow) → asks.Bad status allow ≡ asks.Bad known same → IsAnswer (pages.Status known same) →
    IsAnswer (pages.Status status allow)
known_bad status known allow same is answer =
    let is_status : known ≡ status = cc is in
    let is_allow : same ≡ allow = cc is in
    subst (λ (n : ℕ). IsAnswer (pages.Status n allow)) is_status
    (subst (λ (method : Option Allow). IsAnswer (pages.Status known method)) is_allow answer)

-- the status of a request that asks nothing, by its method, its target and its body
asked_answer : (method target body : List ℕ) (status : ℕ) (allow : Option Allow) → IsAskedOf method target body (asks.Bad status allow) →
    IsAnswer (pages.Status status allow)
asked_answer method target body status allow (nowhere is none) = known_bad status 404 allow None is answer_404
asked_answer method target body status allow (other_method resource is names other) =
    known_bad status 405 allow (Some (method_of resource)) is (answer_405 (method_of resource))
asked_answer method target body status allow (bad_body word is names post unread) = known_bad status 400 allow None is answer_400
asked_answer method target body status allow (command word ask is names post reads) = absurd (cc is)
asked_answer method target body status allow (look_up query is names get) = absurd (cc is)

-- the status of a request that asks nothing is answered
pub bad_answer : AskedIsFirst → (bytes : List ℕ) (status : ℕ) (allow : Option Allow) (last : Bool) (used : ℕ) →
    IsGot bytes (asks.Bad status allow) last used → IsAnswer (pages.Status status allow)
bad_answer first bytes status allow last used got =
    let method = got.request.method.now in
    let target = got.request.target.now in
    let body = body_of got.request bytes in
    asked_answer method target body status allow
    (subst (λ (asked : Asked). IsAskedOf method target body asked) (sym got.asks) (first method target body))
