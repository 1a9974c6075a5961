-- Two lists of records that the same bytes begin with.
use Rattle.std.proofs.Common.{◌≡◌, ◌⊎◌, inl, inr, ⊎_elim, ℕ, suc, List, [], ◌∷◌, ◌++◌, length, get_or, take, drop, refl, sym, ap, ◌∙◌, subst, arith, append_assoc, length-append}
use Rattle.std.specs.Int.{to_be_bytes, w32}
use Rattle.std.specs.Bool.{IsFalse, IsTrue}
use Rattle.std.specs.List.{All}
use Rattle.std.proofs.lemmas.List.{drop_at, get_or_at, take_all, take_at}
use Rattle.farm_journal.specs.Layout.{IsClosed, IsShort, counted, counting, open_record, open_records, opening, signature}
use Rattle.farm_journal.specs.Recovery.{Accepts, AreAccepted, IsRecordDamaged, IsWhole, counted_in}
use Rattle.farm_journal.specs.Windows.{BeginsWith, IsCounted}
use Rattle.farm_journal.proofs.Fronts.{begins_first, begins_second, begins_with_1}
use Rattle.farm_journal.proofs.JournalBytes.{length-counted}
use Rattle.farm_journal.proofs.Records.{whole_left}

-- bytes that are short are counted in what begins with their length and them
pub whole_of : (bytes left : List ℕ) → IsShort bytes → BeginsWith (counted bytes) left → IsWhole left × (counted_in left ≡ bytes)
unfolding counted
whole_of bytes left short begins =
    let length_bytes = to_be_bytes w32 (length bytes) in
    let is : IsCounted (length bytes) (counted bytes) = record {
      within = short;
      has_all = omega (arith, length-counted bytes);
      counts = take_at length_bytes bytes 4 refl;
    } in
    let whole = whole_left (length bytes) (counted bytes) left is begins in
    (whole.0, whole.1 ∙ ap (λ rest. take (length bytes) rest) (drop_at length_bytes bytes 4 refl) ∙ take_all (length bytes) bytes (omega arith))

-- so the same bytes count one list of bytes at most
pub counted_same : (bytes other left : List ℕ) → IsShort bytes → IsShort other → BeginsWith (counted bytes) left → BeginsWith (counted other) left →
    bytes ≡ other
counted_same bytes other left short other_short begins other_begins =
    sym (whole_of bytes left short begins).1 ∙ (whole_of other left other_short other_begins).1

-- past an open gate a body is counted
pub record_rest : (body left : List ℕ) → BeginsWith (open_record body) left → (left ≡ 1 ∷ drop 1 left) × BeginsWith (counted body) (drop 1 left)
unfolding open_record
record_rest body left begins =
    (begins_with_1 left (begins_first (1 ∷ []) (counted body) left begins), begins_second (1 ∷ []) (counted body) left begins)

-- if a record with an open gate stands there, what is expected isn't closed
pub closed_not_next : (body left : List ℕ) → BeginsWith (open_record body) left → IsClosed left → ⊥
closed_not_next body left begins closed =
    subst (λ left. IsClosed left) (record_rest body left begins).0 closed refl

-- nor is it damaged, where its body is accepted
pub damaged_not_next : (accepts : Accepts) (taken : List (List ℕ)) (body left : List ℕ) → IsShort body → IsTrue (accepts taken body) →
    BeginsWith (open_record body) left → IsRecordDamaged accepts taken left → ⊥
damaged_not_next accepts taken body left short accepted begins damaged =
    let rest = record_rest body left begins in
    let whole = whole_of body (drop 1 left) short rest.1 in
    let is = subst (λ left. IsRecordDamaged accepts taken left) rest.0 damaged in
    ⊎_elim (λ cut. cut whole.0)
    (λ refused. let both : IsFalse (accepts taken body) = ap (λ body. accepts taken body) (sym whole.1) ∙ refused.1 in cc) is.1

-- one list of records goes on where another one ends
pub record IsLonger (shorter longer : List (List ℕ)) : Type 0 where
  pub next : List ℕ
  pub more : List (List ℕ)
  pub split : longer ≡ shorter ++ next ∷ more

-- the same record before both
longer_after : (body other : List ℕ) (shorter longer : List (List ℕ)) → body ≡ other → IsLonger shorter longer →
    IsLonger (body ∷ shorter) (other ∷ longer)
longer_after body other shorter longer same is = record {
  next = is.next;
  more = is.more;
  split = ap (λ body. body ∷ longer) (sym same) ∙ ap (λ longer. body ∷ longer) is.split;
}

-- two lists of records that bytes begin with are the same, or one of them goes on
pub compare : (bodies others : List (List ℕ)) (bytes : List ℕ) → All IsShort bodies → All IsShort others →
    BeginsWith (open_records bodies) bytes → BeginsWith (open_records others) bytes →
    (bodies ≡ others) ⊎ (IsLonger bodies others ⊎ IsLonger others bodies)
compare [] [] bytes short others_short begins others_begin = inl refl
compare [] (other ∷ others) bytes short others_short begins others_begin =
    inr (inl (record { next = other; more = others; split = refl }))
compare (body ∷ bodies) [] bytes short others_short begins others_begin =
    inr (inr (record { next = body; more = bodies; split = refl }))
compare (body ∷ bodies) (other ∷ others) bytes short others_short begins others_begin =
    let first = record_rest body bytes (begins_first (open_record body) (open_records bodies) bytes begins) in
    let second = record_rest other bytes (begins_first (open_record other) (open_records others) bytes others_begin) in
    let same : body ≡ other =
    counted_same body other (drop 1 bytes) (short 0 [] (omega arith)) (others_short 0 [] (omega arith)) first.1 second.1 in
    let rest : BeginsWith (open_records others) (drop (length (open_record body)) bytes) =
    subst (λ body. BeginsWith (open_records others) (drop (length (open_record body)) bytes)) (sym same)
    (begins_second (open_record other) (open_records others) bytes others_begin) in
    ⊎_elim (λ alike. inl (ap (λ body. body ∷ bodies) same ∙ ap (λ bodies. other ∷ bodies) alike))
    (λ longer. inr (⊎_elim (λ is. inl (longer_after body other bodies others same is))
    (λ is. inr (longer_after other body others bodies (sym same) is)) longer))
    (compare bodies others (drop (length (open_record body)) bytes) (λ k d within. short (suc k) d (omega arith))
    (λ k d within. others_short (suc k) d (omega arith))
    (begins_second (open_record body) (open_records bodies) bytes begins) rest)

-- records before others
open_records_append : (bodies others : List (List ℕ)) → open_records (bodies ++ others) ≡ open_records bodies ++ open_records others
open_records_append [] others = refl
open_records_append (body ∷ bodies) others =
    ap (λ records. open_record body ++ records) (open_records_append bodies others)
    ∙ sym (append_assoc (open_record body) (open_records bodies) (open_records others))

-- where the longer of two lists goes on, its next record stands
pub next_is : (header : List ℕ) (bodies longer : List (List ℕ)) (bytes : List ℕ) (is : IsLonger bodies longer) →
    BeginsWith (counting header longer) bytes → BeginsWith (open_record is.next) (drop (length (counting header bodies)) bytes)
unfolding counting
next_is header bodies longer bytes is begins =
    let records : open_records longer ≡ open_records bodies ++ (open_record is.next ++ open_records is.more) =
    ap (λ bodies. open_records bodies) is.split ∙ open_records_append bodies (is.next ∷ is.more) in
    let whole : counting header longer ≡ counting header bodies ++ (open_record is.next ++ open_records is.more) =
    ap (λ records. opening header ++ records) records
    ∙ sym (append_assoc (opening header) (open_records bodies) (open_record is.next ++ open_records is.more)) in
    begins_first (open_record is.next) (open_records is.more) (drop (length (counting header bodies)) bytes)
    (begins_second (counting header bodies) (open_record is.next ++ open_records is.more) bytes
    (subst (λ front. BeginsWith front bytes) whole begins))

-- it is short
pub next_short : (bodies longer : List (List ℕ)) (is : IsLonger bodies longer) → All IsShort longer → IsShort is.next
next_short bodies longer is short =
    let at : get_or longer (length bodies) [] ≡ is.next =
    ap (λ longer. get_or longer (length bodies) []) is.split ∙ get_or_at bodies is.next is.more [] (length bodies) refl in
    subst (λ bytes. IsShort bytes) at
    (short (length bodies) [] (omega (arith, ap length is.split, length-append bodies (is.next ∷ is.more))))

-- and it is accepted after the others
pub next_accepted : (accepts : Accepts) (header : List ℕ) (bodies longer : List (List ℕ)) (is : IsLonger bodies longer) →
    AreAccepted accepts (header ∷ longer) → IsTrue (accepts (header ∷ bodies) is.next)
next_accepted accepts header bodies longer is accepted =
    accepted (header ∷ bodies) is.more is.next (ap (λ longer. header ∷ longer) is.split)

-- what counts of a journal is its signature, its header, and the records
pub counting_begins : (header : List ℕ) (bodies : List (List ℕ)) (bytes : List ℕ) → BeginsWith (counting header bodies) bytes →
    BeginsWith signature bytes × BeginsWith (counted header) (drop 9 bytes) × BeginsWith (open_records bodies) (drop (length (opening header)) bytes)
unfolding counting opening signature
counting_begins header bodies bytes begins =
    let opens : BeginsWith (signature ++ counted header) bytes = begins_first (opening header) (open_records bodies) bytes begins in (
      begins_first signature (counted header) bytes opens,
      begins_second signature (counted header) bytes opens,
      begins_second (opening header) (open_records bodies) bytes begins,
    )
