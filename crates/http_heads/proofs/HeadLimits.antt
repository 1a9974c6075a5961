-- Heads within the limit of bytes.
use Rattle.std.proofs.Common.{◌≡◌, ℕ, ◌<◌, ◌≤◌, true, leb, ltb, List, [], ◌++◌, length, take, drop, refl, sym, ap, subst, ◌∙◌, arith, inl, inr, length-append, length-take, take-append-drop}
use Rattle.std.proofs.lemmas.Bool.{cases_lt, le-leb, leb-true, lt-ltb, ltb-true}
use Rattle.std.proofs.lemmas.List.{take-take, take_at}
use Rattle.httparse.specs.Grammar.{HasNoRequest, NeverHasRequest, ReadsRequest, RequestHead, print_request}
use Rattle.httparse.proofs.GrammarLemmas.{ReadsRequest-append, request_unique}
use Rattle.http_heads.specs.Limits.{most_head_bytes}
use Rattle.http_heads.specs.Fields.{HasBadLength, HasTooManyFields}
use Rattle.http_heads.specs.Rows.{HasNoWholeHead, IsBad, IsTooLarge}
use Rattle.http_heads.specs.Fronts.{HasHead}
use Rattle.http_heads.specs.declared.heads.Head.{Head}
use Rattle.http_heads.specs.Gathered.{IsHeadOf}

-- a head of the first bytes is one of all
all_read : (bytes : List ℕ) (limit : ℕ) (head : RequestHead) (rest : List ℕ) → ReadsRequest (take limit bytes) head rest
    → ReadsRequest bytes head (rest ++ drop limit bytes)
all_read bytes limit head rest early =
    subst (λ (t : List ℕ). ReadsRequest t head (rest ++ drop limit bytes)) (take-append-drop limit bytes)
    (ReadsRequest-append (take limit bytes) head rest (drop limit bytes) early)

-- a head that has more bytes than the limit isn't whole within it
pub head_over : (bytes : List ℕ) (limit : ℕ) (head : RequestHead) (rest : List ℕ) → ReadsRequest bytes head rest
    → limit < length (print_request head) → HasNoRequest (take limit bytes)
head_over bytes limit head rest reads over other after early =
    let same = request_unique bytes head other rest _ reads (all_read bytes limit other after early) in
    let lengths = ap (λ k. length (print_request k)) same.0 in
    omega (arith, ap length early.1, length-append (print_request other) after, length-take limit bytes, lengths)

-- a head that has no more is whole within it
pub head_within : (bytes : List ℕ) (limit : ℕ) (head : RequestHead) (rest : List ℕ) → ReadsRequest bytes head rest
    → length (print_request head) ≤ limit → ¬ (HasNoRequest (take limit bytes))
head_within bytes limit head rest reads fits none =
    let n = length (print_request head) in
    let front : take n (take limit bytes) ≡ print_request head =
    take-take n limit bytes fits ∙ ap (λ t. take n t) reads.1 ∙ take_at (print_request head) rest n refl in
    let split : take limit bytes ≡ print_request head ++ drop n (take limit bytes) =
    sym (take-append-drop n (take limit bytes)) ∙ ap (λ t. t ++ drop n (take limit bytes)) front in
    none head (drop n (take limit bytes)) (reads.0, split)

-- where no head is whole, none is within the limit
pub none_within : (bytes : List ℕ) (limit : ℕ) → HasNoRequest bytes → HasNoRequest (take limit bytes)
none_within bytes limit none head rest early = none head (rest ++ drop limit bytes) (all_read bytes limit head rest early)

-- where none ever is, none is whole now
pub never_now : (bytes : List ℕ) → NeverHasRequest bytes → HasNoRequest bytes
never_now bytes never head rest reads = never [] head (rest ++ []) (ReadsRequest-append bytes head rest [] reads)

-- a head is at most as long as the bytes
pub head_length : (bytes : List ℕ) (head : RequestHead) (rest : List ℕ) → ReadsRequest bytes head rest
    → length (print_request head) ≤ length bytes
head_length bytes head rest reads = omega (arith, ap length reads.1, length-append (print_request head) rest)

-- a whole head is within the limit, where row 1 doesn't hold
pub head_in_limit : (bytes : List ℕ) (head : RequestHead) (rest : List ℕ) → ¬ (IsTooLarge bytes) → ReadsRequest bytes head rest
    → length (print_request head) ≤ most_head_bytes
head_in_limit bytes head rest fine reads =
    elim (cases_lt most_head_bytes (length (print_request head))) [
      | inl over ↦ absurd (fine (inr (record {
        enough = omega (arith, head_length bytes head rest reads);
        none = head_over bytes most_head_bytes head rest reads over;
      })))
      | inr within ↦ within
    ]

-- and row 1 doesn't hold, where a whole head is within the limit and has few fields
pub head_fits : (bytes : List ℕ) (head : RequestHead) (rest : List ℕ) → ¬ (HasTooManyFields bytes) → ReadsRequest bytes head rest
    → length (print_request head) ≤ most_head_bytes → ¬ (IsTooLarge bytes)
head_fits bytes head rest few reads fits (inl many) = few many
head_fits bytes head rest few reads fits (inr none) = head_within bytes most_head_bytes head rest reads fits none.none

-- row 2 doesn't hold, where a head is whole and its length isn't bad
pub head_good : (bytes : List ℕ) (head : RequestHead) (rest : List ℕ) → ReadsRequest bytes head rest → ¬ (HasBadLength bytes)
    → ¬ (IsBad bytes)
head_good bytes head rest reads good (inl never) = never_now bytes never head rest reads
head_good bytes head rest reads good (inr bad) = good bad

-- row 1 speaks of a whole head by its length
pub whole_lacks : (bytes : List ℕ) (len : ℕ) (head : RequestHead) (rest : List ℕ) → ReadsRequest bytes head rest
    → len ≡ length (print_request head)
    → (ltb most_head_bytes len ≡ true → HasNoWholeHead bytes) × (HasNoWholeHead bytes → ltb most_head_bytes len ≡ true)
whole_lacks bytes len head rest reads len_is = (
  λ over.
      let far : most_head_bytes < length (print_request head) = omega (arith, ltb-true most_head_bytes len over, len_is) in
      record {
        enough = omega (arith, head_length bytes head rest reads);
        none = head_over bytes most_head_bytes head rest reads far;
      },
  λ none.
      elim (cases_lt most_head_bytes len) [
        | inl over ↦ lt-ltb most_head_bytes len over
        | inr fits ↦ absurd (head_within bytes most_head_bytes head rest reads (omega (arith, len_is)) none.none)
      ],
)

-- and where no head is whole, by the number of bytes
pub none_lacks : (bytes : List ℕ) → HasNoRequest bytes
    → (leb most_head_bytes (length bytes) ≡ true → HasNoWholeHead bytes) × (HasNoWholeHead bytes → leb most_head_bytes (length bytes) ≡ true)
none_lacks bytes none = (
  λ enough. record { enough = leb-true most_head_bytes (length bytes) enough; none = none_within bytes most_head_bytes none },
  λ lacks. le-leb most_head_bytes (length bytes) lacks.enough,
)

-- a whole head that rows 1 and 2 don't refuse
pub has_head : (bytes : List ℕ) (found : Head) (head : RequestHead) → ¬ (IsTooLarge bytes) → IsHeadOf bytes found head
    → ¬ (HasBadLength bytes) → HasHead bytes head
has_head bytes found head fine is good = record {
  within_limits = fine;
  good = head_good bytes head (drop found.len bytes) is.reads good;
  rest = drop found.len bytes;
  reads = is.reads;
}
