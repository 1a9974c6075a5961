-- An answer stays whatever follows.
use Rattle.std.proofs.Common.{◌≡◌, ◌⊎◌, ℕ, Bool, IsTrue, List, [], ◌++◌, length, codes, sym, ap, subst, ◌∙◌, arith, append_assoc, inl, inr, length-append}
use Rattle.std.proofs.lemmas.List.{take-append-le}
use Rattle.std.specs.Prelude.{◌↔◌}
use Rattle.std.specs.List.{list_any}
use Rattle.httparse.specs.Grammar.{HasNoRequest, ReadsRequest, RequestHead}
use Rattle.httparse.proofs.GrammarLemmas.{ReadsRequest-append}
use Rattle.http_heads.specs.declared.fronts.Front.{Front}
use Rattle.http_heads.specs.declared.fronts.Front.TheVariants.{Broken, Need, Whole}
use Rattle.http_heads.specs.declared.fronts.RequestFront.{RequestFront}
use Rattle.http_heads.specs.Limits.{bad_request, most_head_bytes}
use Rattle.http_heads.specs.Lines.{field_lines}
use Rattle.http_heads.specs.Fields.{HasBadLength, content_length_of, is_close, is_named, stated_in, values_in}
use Rattle.http_heads.specs.Rows.{IsBad, IsLast, IsTooLarge, LacksLength}
use Rattle.http_heads.specs.Fronts.{HasHead, HasLength, IsBroken, IsFront, IsRequest, bad, lacks_length, too_large, too_long}
use Rattle.http_heads.specs.Laws.{StaysDecided}
use Rattle.http_heads.proofs.Growth.{fields_grow}
use Rattle.http_heads.proofs.HeadLimits.{head_fits, head_good, head_in_limit}
use Rattle.http_heads.proofs.HeadLines.{lines_of_head}
use Rattle.http_heads.proofs.Values.{AreBad, bad_append, values_append}

-- the field lines of a whole head stay
same_lines : (bytes more : List ℕ) (head : RequestHead) (rest : List ℕ) → ReadsRequest bytes head rest
    → field_lines bytes ≡ field_lines (bytes ++ more)
same_lines bytes more head rest reads =
    lines_of_head bytes head rest reads
    ∙ sym (lines_of_head (bytes ++ more) head (rest ++ more) (ReadsRequest-append bytes head rest more reads))

-- row 1 stays
large_stays : (bytes more : List ℕ) → IsTooLarge bytes → IsTooLarge (bytes ++ more)
large_stays bytes more (inl many) =
    let grows = fields_grow bytes more in
    inl (omega (arith, many, ap length grows.is, length-append (field_lines bytes) grows.more))
large_stays bytes more (inr none) = inr (record {
  enough = omega (arith, none.enough, length-append bytes more);
  none = subst HasNoRequest (sym (take-append-le most_head_bytes bytes more none.enough)) none.none;
})

-- row 2 stays
bad_stays : (bytes more : List ℕ) → IsBad bytes → IsBad (bytes ++ more)
bad_stays bytes more (inl never) =
    inl (λ after. subst HasNoRequest (sym (append_assoc bytes more after)) (never (more ++ after)))
bad_stays bytes more (inr poor) =
    let grows = fields_grow bytes more in
    let name = codes "content-length" in
    let values : values_in name (field_lines (bytes ++ more)) ≡ values_in name (field_lines bytes) ++ values_in name grows.more =
    ap (λ lines. values_in name lines) grows.is ∙ values_append name (field_lines bytes) grows.more in
    inr (subst AreBad (sym values) (bad_append (values_in name (field_lines bytes)) (values_in name grows.more) poor))

-- the Content-Length isn't bad, where the field lines are the same
good_stays : (bytes more : List ℕ) → field_lines bytes ≡ field_lines (bytes ++ more) → ¬ (HasBadLength bytes)
    → ¬ (HasBadLength (bytes ++ more))
good_stays bytes more same good poor =
    good (subst (λ (lines : List (List ℕ)). AreBad (values_in (codes "content-length") lines)) (sym same) poor)

-- a whole head within the limits stays
head_stays : (bytes more : List ℕ) (head : RequestHead) → HasHead bytes head → HasHead (bytes ++ more) head
head_stays bytes more head has =
    let same = same_lines bytes more head has.rest has.reads in
    let reads = ReadsRequest-append bytes head has.rest more has.reads in
    let fits = head_in_limit bytes head has.rest has.within_limits has.reads in
    record {
      within_limits =
          head_fits (bytes ++ more) head (has.rest ++ more)
          (λ many. has.within_limits (inl (omega (arith, many, ap length same)))) reads fits;
      good = head_good (bytes ++ more) head (has.rest ++ more) reads (good_stays bytes more same (λ poor. has.good (inr poor)));
      rest = has.rest ++ more;
      reads = reads;
    }

-- rows 4 and 5 depend on the head and the field lines
abbrev LacksIn : RequestHead → List (List ℕ) → Type 0
LacksIn head lines =
    IsTrue (list_any (is_named (codes "transfer-encoding")) lines) ⊎ ((head.method ≡ codes "POST") × (values_in (codes "content-length") lines ≡ []))

-- the length of a body stays
length_stays : (bytes more : List ℕ) (head : RequestHead) → HasHead bytes head
    → content_length_of bytes ≡ content_length_of (bytes ++ more)
length_stays bytes more head has =
    ap (λ lines. stated_in (values_in (codes "content-length") lines)) (same_lines bytes more head has.rest has.reads)

lacks_stays : (bytes more : List ℕ) (head : RequestHead) → HasHead bytes head → LacksLength head bytes
    → LacksLength head (bytes ++ more)
lacks_stays bytes more head has lacks = subst (LacksIn head) (same_lines bytes more head has.rest has.reads) lacks

stated_stays : (bytes more : List ℕ) (head : RequestHead) → HasHead bytes head → ¬ (LacksLength head bytes)
    → ¬ (LacksLength head (bytes ++ more))
stated_stays bytes more head has stated lacks =
    stated (subst (LacksIn head) (sym (same_lines bytes more head has.rest has.reads)) lacks)

-- a whole head with a length of its body within the limits stays
sized_stays : (bytes more : List ℕ) (head : RequestHead) → HasLength bytes head → HasLength (bytes ++ more) head
sized_stays bytes more head has = record {
  whole = head_stays bytes more head has.whole;
  stated = stated_stays bytes more head has.whole has.stated;
  within_limit = λ long. has.within_limit (omega (arith, long, length_stays bytes more head has.whole));
}

-- what the last request is depends on the head and the field lines
last_stays : (bytes more : List ℕ) (head : RequestHead) (last : Bool) → HasHead bytes head → (IsTrue last ↔ IsLast head bytes)
    → (IsTrue last ↔ IsLast head (bytes ++ more))
last_stays bytes more head last has is =
    subst
    (λ (lines : List (List ℕ)). IsTrue last ↔ ((head.minor ≡ 0) ⊎ (IsTrue (list_any is_close (values_in (codes "connection") lines)) ⊎ (head.method ≡ codes "HEAD"))))
    (same_lines bytes more head has.rest has.reads) is

-- a whole request stays
request_stays : (bytes more : List ℕ) (request : RequestFront) → IsRequest bytes request → IsRequest (bytes ++ more) request
request_stays bytes more request is = record {
  of = is.of;
  has_length = sized_stays bytes more is.of is.has_length;
  method = is.method;
  target = is.target;
  last = last_stays bytes more is.of request.last is.has_length.whole is.last;
  head = is.head;
  body = is.body ∙ length_stays bytes more is.of is.has_length.whole;
  whole = omega (arith, is.whole, length-append bytes more);
}

-- a status stays; 400 where row 1 doesn't hold
status_stays : (bytes more : List ℕ) (status : ℕ) → IsBroken bytes status → (status ≡ bad_request → ¬ (IsTooLarge (bytes ++ more)))
    → IsBroken (bytes ++ more) status
status_stays bytes more status (too_large at large) fine = too_large at (large_stays bytes more large)
status_stays bytes more status (bad at well broken) fine = bad at (fine at) (bad_stays bytes more broken)
status_stays bytes more status (lacks_length at head has lacks) fine =
    lacks_length at head (head_stays bytes more head has) (lacks_stays bytes more head has lacks)
status_stays bytes more status (too_long at head has stated long) fine =
    too_long at head (head_stays bytes more head has) (stated_stays bytes more head has stated)
    (omega (arith, long, length_stays bytes more head has))

-- an answer stays
pub stays_decided : (bytes : List ℕ) (answer : Front) → IsFront bytes answer → StaysDecided bytes answer
stays_decided bytes Need is = tt
stays_decided bytes (Broken status) is = λ more fine. status_stays bytes more status is fine
stays_decided bytes (Whole request) is = λ more. request_stays bytes more request is
