-- What a connection's bytes ask.
use Rattle.std.specs.Prelude.{◌≡◌, ◌⊎◌, ℕ, ◌+◌, Bool, List, drop, take}
use Rattle.httparse.specs.Grammar.{EndsInTarget}
use Rattle.http_heads.specs.declared.fronts.Front.TheVariants as fronts
use Rattle.http_heads.specs.declared.fronts.RequestFront.{RequestFront}
use Rattle.http_heads.specs.Fronts.{IsFront}
use Rattle.http_heads.specs.Limits.{bad_request}
use Rattle.http_requests.specs.declared.asked.Asked.{Asked}
use Rattle.http_requests.specs.declared.heard.Heard.{Heard}
use Rattle.http_requests.specs.declared.heard.Heard.TheVariants.{Broken, Got, Need, NoMemory}
use Rattle.http_requests.specs.Asking.{asked_of}

-- the body of a whole request: the bytes after its head, as many as it has
abbrev pub body_of : RequestFront → List ℕ → List ℕ
body_of request bytes = take request.body (drop request.head bytes)

-- the bytes begin with a whole request, and this is what it asks; `used` counts its head and its body
pub record IsGot (bytes : List ℕ) (asked : Asked) (last : Bool) (used : ℕ) : Type 0 where
  pub request : RequestFront
  pub front : IsFront bytes (fronts.Whole request)
  pub asks : asked ≡ asked_of request.method.now request.target.now (body_of request bytes)
  pub is_last : last ≡ request.last
  pub uses : used ≡ request.head + request.body

-- what the code reports of a whole request at the start
abbrev pub IsGotOf : List ℕ → RequestFront → Heard → Type 0
IsGotOf bytes request Need = ⊥
IsGotOf bytes request NoMemory = Unit {0}
IsGotOf bytes request (Broken status) = ⊥
IsGotOf bytes request (Got asked last used) =
    (asked ≡ asked_of request.method.now request.target.now (body_of request bytes)) × (last ≡ request.last)
    × (used ≡ request.head + request.body)

-- what the bytes in hand are; out of memory may come at any time
abbrev pub IsHeard : List ℕ → Heard → Type 0
IsHeard bytes Need = IsFront bytes fronts.Need
IsHeard bytes NoMemory = Unit {0}
IsHeard bytes (Broken status) = IsFront bytes (fronts.Broken status)
IsHeard bytes (Got asked last used) = IsGot bytes asked last used

-- of two answers the one is that more bytes are needed, and the other is 400
abbrev pub AreNeedAndBad : Heard → Heard → Type 0
AreNeedAndBad Need (Broken status) = status ≡ bad_request
AreNeedAndBad (Broken status) Need = status ≡ bad_request
AreNeedAndBad one other = ⊥

-- but for out of memory no other answer is right; within the target a hopeless prefix may be Need or 400
abbrev pub IsOnlyHeard : List ℕ → Heard → Type 0
IsOnlyHeard bytes answer =
    (other : Heard) → IsHeard bytes other
    → (answer ≡ NoMemory) ⊎ ((other ≡ NoMemory) ⊎ ((answer ≡ other) ⊎ (EndsInTarget bytes × AreNeedAndBad answer other)))
