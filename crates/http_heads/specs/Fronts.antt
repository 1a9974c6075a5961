-- What the front of a connection's bytes is: of the rows of the list, the first that holds.
use Rattle.std.specs.Prelude.{◌≡◌, ◌↔◌, ℕ, ◌+◌, ◌≤◌, IsTrue, List, length}
use Rattle.httparse.specs.Grammar.{HasNoRequest, MayBecomeRequest, ReadsRequest, RequestHead, print_request}
use Rattle.http_heads.specs.declared.fronts.Front.{Front}
use Rattle.http_heads.specs.declared.fronts.Front.TheVariants.{Broken, Need, Whole}
use Rattle.http_heads.specs.declared.fronts.RequestFront.{RequestFront}
use Rattle.http_heads.specs.Limits.{bad_request, content_too_large, header_fields_too_large, length_required}
use Rattle.http_heads.specs.Fields.{HasBadLength, content_length_of}
use Rattle.http_heads.specs.Rows.{IsBad, IsLast, IsTooLarge, IsTooLong, LacksBody, LacksLength}

-- Row 3, and no row before it: no head is whole yet, and some bytes can complete one. If the bytes end within the target, it isn't
-- asked whether some can: httparse tests a target for UTF-8 once it is whole.
pub record AwaitsHead (bytes : List ℕ) : Type 0 where
  pub within_limits : ¬ (IsTooLarge bytes)
  pub good_length : ¬ (HasBadLength bytes)
  pub none_yet : HasNoRequest bytes
  pub may_come : MayBecomeRequest bytes

-- rows 1 to 3 don't hold: this head is whole
pub record HasHead (bytes : List ℕ) (head : RequestHead) : Type 0 where
  pub within_limits : ¬ (IsTooLarge bytes)
  pub good : ¬ (IsBad bytes)
  pub rest : List ℕ
  pub reads : ReadsRequest bytes head rest

-- rows 1 to 5 don't hold: this head is whole, and the length of its body is within the limit
pub record HasLength (bytes : List ℕ) (head : RequestHead) : Type 0 where
  pub whole : HasHead bytes head
  pub stated : ¬ (LacksLength head bytes)
  pub within_limit : ¬ (IsTooLong bytes)

-- row 6, and no row before it: the body isn't whole
pub record AwaitsBody (bytes : List ℕ) : Type 0 where
  pub head : RequestHead
  pub has_length : HasLength bytes head
  pub lacks_body : LacksBody head bytes

-- more bytes are needed: row 3 or row 6
pub data IsNeeded (bytes : List ℕ) : Type 0 where
  of_head : AwaitsHead bytes → IsNeeded bytes
  of_body : AwaitsBody bytes → IsNeeded bytes

-- the status that says how bytes are broken: that of row 1, 2, 4 or 5, if no row before it holds
pub data IsBroken (bytes : List ℕ) (status : ℕ) : Type 0 where
  too_large : status ≡ header_fields_too_large → IsTooLarge bytes → IsBroken bytes status
  bad : status ≡ bad_request → ¬ (IsTooLarge bytes) → IsBad bytes → IsBroken bytes status
  lacks_length :
      status ≡ length_required → (head : RequestHead) → HasHead bytes head → LacksLength head bytes → IsBroken bytes status
  too_long :
      status ≡ content_too_large → (head : RequestHead) → HasHead bytes head → ¬ (LacksLength head bytes) → IsTooLong bytes
      → IsBroken bytes status

-- row 7, and no row before it: a whole request, with these parts and lengths
pub record IsRequest (bytes : List ℕ) (request : RequestFront) : Type 0 where
  pub of : RequestHead
  pub has_length : HasLength bytes of
  pub method : request.method.now ≡ of.method
  pub target : request.target.now ≡ of.target
  pub last : IsTrue request.last ↔ IsLast of bytes
  pub head : request.head ≡ length (print_request of)
  pub body : request.body ≡ content_length_of bytes
  pub whole : request.head + request.body ≤ length bytes

-- the answer of the list
abbrev pub IsFront : List ℕ → Front → Type 0
IsFront bytes Need = IsNeeded bytes
IsFront bytes (Broken status) = IsBroken bytes status
IsFront bytes (Whole request) = IsRequest bytes request
