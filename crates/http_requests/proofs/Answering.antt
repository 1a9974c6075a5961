-- What a request asks is the first that holds, and what is heard is one answer.
use Rattle.std.proofs.Common.{◌≡◌, ◌+◌, ◌<◌, ℕ, Bool, true, false, if◌then◌else◌, List, length, take, drop, Option, Some, None, refl, sym, ap, ◌∙◌, arith, inl, inr}
use Rattle.std.proofs.lemmas.Bool.{cases_lt, false≢true}
use Rattle.std.proofs.lemmas.Slice.Eq.{bytes_eq-Decides}
use Rattle.std.specs.Str.{bytes_eq}
use Rattle.farm_history.specs.declared.ask.Ask.{Ask}
use Rattle.farm_http.specs.Requests.{ask_of_posted}
use Rattle.http_heads.specs.declared.fronts.Front.TheVariants as fronts
use Rattle.http_heads.specs.declared.fronts.RequestFront.{RequestFront}
use Rattle.http_heads.specs.Fields.{content_length_of}
use Rattle.http_heads.specs.Fronts.{IsFront, IsNeeded, of_body, of_head}
use Rattle.http_heads.specs.Laws.{IsOnlyFront, IsSameRequest}
use Rattle.http_heads.proofs.HeadLimits.{head_in_limit, none_within}
use Rattle.http_requests.specs.declared.asked.Asked.{Asked}
use Rattle.http_requests.specs.declared.asked.Asked.TheVariants as answers
use Rattle.http_requests.specs.declared.heard.Heard.{Heard}
use Rattle.http_requests.specs.declared.heard.Heard.TheVariants.{Broken, Got, Need, NoMemory}
use Rattle.http_requests.specs.declared.resource.Resource.{Resource}
use Rattle.http_requests.specs.declared.resource.Resource.TheVariants.{Command, Look}
use Rattle.http_requests.specs.Asking.{AskedIsFirst, IsAskedOf, ask_or_bad, asked_by, asked_of, asked_on, bad_body, command, look_up, method_of, name_of, nowhere, other_method}
use Rattle.http_requests.specs.Hearing.{IsGotOf, IsHeard, IsOnlyHeard, body_of}
use Rattle.http_requests.specs.Limits.{most_request_bytes}
use Rattle.http_requests.specs.Paths.{IsPathOf, path_of, resource_of}
use Rattle.http_requests.specs.Routes.{text_of}
use Rattle.http_requests.proofs.Naming.{is_named, is_path}

-- what is asked by the method of what a path names
first_by : (method target body : List ℕ) (resource : Resource) → IsPathOf (path_of target) resource
    → method ≡ name_of (method_of resource) → IsAskedOf method target body (asked_by resource body)
unfolding asked_by
first_by method target body (Look query) is same = look_up query refl is same
first_by method target body (Command word) is same = on (ask_of_posted (text_of word) body) refl
  where
    on : (posted : Option Ask) → ask_of_posted (text_of word) body ≡ posted → IsAskedOf method target body (ask_or_bad posted)
    on None e = bad_body word refl is same e
    on (Some ask) e = command word ask refl is same e

first_on : (method target body : List ℕ) (resource : Option Resource) → resource_of (path_of target) ≡ resource
    → IsAskedOf method target body (asked_on resource method body)
unfolding asked_on
first_on method target body None e =
    nowhere refl (λ resource is.
    let named = is_named (path_of target) resource is in
    absurd cc)
first_on method target body (Some resource) e = by (bytes_eq method (name_of (method_of resource))) refl
  where
    is : IsPathOf (path_of target) resource
    is = is_path (path_of target) resource e

    by : (v : Bool) → bytes_eq method (name_of (method_of resource)) ≡ v
        → IsAskedOf method target body (if v then asked_by resource body else answers.Bad 405 (Some (method_of resource)))
    by true test = first_by method target body resource is ((bytes_eq-Decides method (name_of (method_of resource))).0 test)
    by false test =
        other_method resource refl is
        (λ same. false≢true (sym test ∙ (bytes_eq-Decides method (name_of (method_of resource))).1 same))

pub asked_is_first : AskedIsFirst
unfolding asked_of
asked_is_first method target body = first_on method target body (resource_of (path_of target)) refl

-- ---- what is heard

-- more bytes are needed only of fewer than a request may have
pub need_is_short : (bytes : List ℕ) → IsNeeded bytes → length bytes < most_request_bytes
need_is_short bytes (of_head awaits) =
    elim (cases_lt (length bytes) 81920) [
      | inl short ↦ short
      | inr long ↦ absurd (awaits.within_limits (inr (record {
        enough = omega (arith, long);
        none = none_within bytes 16384 awaits.none_yet;
      })))
    ]
need_is_short bytes (of_body awaits) =
    let has = awaits.has_length.whole in
    let head = head_in_limit bytes awaits.head has.rest has.within_limits has.reads in
    elim (cases_lt 65536 (content_length_of bytes)) [
      | inl long ↦ absurd (awaits.has_length.within_limit long)
      | inr fits ↦ omega (arith, awaits.lacks_body, fits, head)
    ]

-- what a whole request is found to be is heard
pub got_heard : (bytes : List ℕ) (request : RequestFront) (answer : Heard) → IsFront bytes (fronts.Whole request)
    → IsGotOf bytes request answer → IsHeard bytes answer
got_heard bytes request Need is wrong = absurd wrong
got_heard bytes request NoMemory is free = tt
got_heard bytes request (Broken status) is wrong = absurd wrong
got_heard bytes request (Got asked last used) is got = record {
  request = request;
  front = is;
  asks = got.0;
  is_last = got.1;
  uses = got.2;
}

pub only_need : (bytes : List ℕ) → IsOnlyFront bytes fronts.Need → IsOnlyHeard bytes Need
only_need bytes only Need is = inr (inr (inl refl))
only_need bytes only NoMemory is = inr (inl refl)
only_need bytes only (Broken status) is = elim (only (fronts.Broken status) is) [
  | inl wrong ↦ absurd wrong
  | inr within ↦ inr (inr (inr (within.0, within.1)))
]
only_need bytes only (Got asked last used) is = elim (only (fronts.Whole is.request) is.front) [
  | inl wrong ↦ absurd wrong
  | inr wrong ↦ absurd wrong.1
]

pub only_broken : (bytes : List ℕ) (status : ℕ) → IsOnlyFront bytes (fronts.Broken status) → IsOnlyHeard bytes (Broken status)
only_broken bytes status only Need is = elim (only fronts.Need is) [
  | inl wrong ↦ absurd wrong
  | inr within ↦ inr (inr (inr (within.0, within.1)))
]
only_broken bytes status only NoMemory is = inr (inl refl)
only_broken bytes status only (Broken other) is = elim (only (fronts.Broken other) is) [
  | inl same ↦ inr (inr (inl (ap Broken same)))
  | inr wrong ↦ absurd wrong.1
]
only_broken bytes status only (Got asked last used) is = elim (only (fronts.Whole is.request) is.front) [
  | inl wrong ↦ absurd wrong
  | inr wrong ↦ absurd wrong.1
]

-- two requests that are the same are heard as the same
same_got : (bytes : List ℕ) (one other : RequestFront) (asked asks : Asked) (last ends : Bool) (used uses : ℕ)
    → IsSameRequest one other → IsGotOf bytes one (Got asked last used) → IsGotOf bytes other (Got asks ends uses)
    → Got asked last used ≡ Got asks ends uses
same_got bytes one other asked asks last ends used uses same is has =
    let bodies : body_of one bytes ≡ body_of other bytes = λ i. take (same.body i) (drop (same.head i) bytes) in
    let first : asked ≡ asks = is.0 ∙ (λ i. asked_of (same.method i) (same.target i) (bodies i)) ∙ sym has.0 in
    let second : last ≡ ends = is.1 ∙ same.last ∙ sym has.1 in
    let third : used ≡ uses = is.2 ∙ (λ i. same.head i + same.body i) ∙ sym has.2 in
    λ i. Got (first i) (second i) (third i)

pub only_got : (bytes : List ℕ) (request : RequestFront) (answer : Heard) → IsOnlyFront bytes (fronts.Whole request)
    → IsGotOf bytes request answer → IsOnlyHeard bytes answer
only_got bytes request Need only wrong other is = absurd wrong
only_got bytes request NoMemory only free other is = inl refl
only_got bytes request (Broken status) only wrong other is = absurd wrong
only_got bytes request (Got asked last used) only got Need is = elim (only fronts.Need is) [
  | inl wrong ↦ absurd wrong
  | inr wrong ↦ absurd wrong.1
]
only_got bytes request (Got asked last used) only got NoMemory is = inr (inl refl)
only_got bytes request (Got asked last used) only got (Broken status) is = elim (only (fronts.Broken status) is) [
  | inl wrong ↦ absurd wrong
  | inr wrong ↦ absurd wrong.1
]
only_got bytes request (Got asked last used) only got (Got asks ends uses) is =
    elim (only (fronts.Whole is.request) is.front) [
      | inl same ↦ inr (inr (inl (same_got bytes request is.request asked asks last ends used uses same got (is.asks, is.is_last, is.uses))))
      | inr wrong ↦ absurd wrong.1
    ]
