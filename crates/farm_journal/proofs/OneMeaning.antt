-- Bytes are a journal of one list, or damaged at one place, and not both.
use Rattle.std.proofs.Common.{◌≡◌, ◌⊎◌, ⊎_elim, ℕ, List, [], ◌∷◌, length, drop, refl, sym, ap, ◌∙◌, subst, arith, length-drop}
use Rattle.std.specs.Bool.{IsFalse, IsTrue}
use Rattle.std.specs.List.{All}
use Rattle.farm_journal.specs.Layout.{IsClosed, IsJournalOf, IsShort, counted, counting, open_records, opening, signature}
use Rattle.farm_journal.specs.Laws.{OneDamage, OneMeaning, WholeIsNotRefused}
use Rattle.farm_journal.specs.Recovery.{Accepts, AreAccepted, IsDamagedAfter, IsDamagedAt, IsHeaderDamaged, IsNotJournal, IsRecordDamaged}
use Rattle.farm_journal.specs.Windows.{BeginsWith}
use Rattle.farm_journal.proofs.Comparing.{IsLonger, closed_not_next, compare, counted_same, counting_begins, damaged_not_next, next_accepted, next_is, next_short, whole_of}
use Rattle.farm_journal.proofs.Fronts.{begins_size}
use Rattle.farm_journal.proofs.JournalBytes.{length-counted}

-- two journals that the same bytes begin with have one header, and one list of bodies or one that goes on
compared : (header other : List ℕ) (bodies others : List (List ℕ)) (bytes : List ℕ) → IsShort header → IsShort other →
    All IsShort bodies → All IsShort others → BeginsWith (counting header bodies) bytes → BeginsWith (counting other others) bytes →
    (header ≡ other) × ((bodies ≡ others) ⊎ (IsLonger bodies others ⊎ IsLonger others bodies))
compared header other bodies others bytes short_header short_other short shorts begins begin =
    let first = counting_begins header bodies bytes begins in
    let second = counting_begins other others bytes begin in
    let same : header ≡ other = counted_same header other (drop 9 bytes) short_header short_other first.1 second.1 in (
      same,
      compare bodies others (drop (length (opening header)) bytes) short shorts first.2
          (subst (λ header. BeginsWith (open_records others) (drop (length (opening header)) bytes)) (sym same) second.2),
    )

-- where the one list is closed, the other one doesn't go on
not_longer : (header other : List ℕ) (bodies others : List (List ℕ)) (bytes : List ℕ) → header ≡ other → IsLonger bodies others →
    IsClosed (drop (length (counting header bodies)) bytes) → BeginsWith (counting other others) bytes → ⊥
not_longer header other bodies others bytes same is closed begins =
    closed_not_next is.next (drop (length (counting header bodies)) bytes)
    (next_is header bodies others bytes is (subst (λ header. BeginsWith (counting header others) bytes) (sym same) begins)) closed

-- nor where it is damaged, if the other one is accepted
not_damaged : (accepts : Accepts) (header other : List ℕ) (bodies others : List (List ℕ)) (bytes : List ℕ) → header ≡ other →
    IsLonger bodies others → IsRecordDamaged accepts (header ∷ bodies) (drop (length (counting header bodies)) bytes) →
    All IsShort others → AreAccepted accepts (other ∷ others) → BeginsWith (counting other others) bytes → ⊥
not_damaged accepts header other bodies others bytes same is damaged short accepted begins =
    damaged_not_next accepts (header ∷ bodies) is.next (drop (length (counting header bodies)) bytes) (next_short bodies others is short)
    (next_accepted accepts header bodies others is (subst (λ header. AreAccepted accepts (header ∷ others)) (sym same) accepted))
    (next_is header bodies others bytes is (subst (λ header. BeginsWith (counting header others) bytes) (sym same) begins)) damaged

-- bytes are a journal of one header and one list of bodies at most
pub one_meaning : OneMeaning
one_meaning header other bodies others bytes is other_is =
    let both = compared header other bodies others bytes is.short_header other_is.short_header is.short_bodies other_is.short_bodies
    is.begins other_is.begins in (
      both.0,
      ⊎_elim (λ same. same) (λ longer. absurd (⊎_elim
          (λ goes_on. not_longer header other bodies others bytes both.0 goes_on is.closed other_is.begins)
          (λ goes_on. not_longer other header others bodies bytes (sym both.0) goes_on other_is.closed is.begins) longer)) both.1,
    )

-- what begins with a journal isn't no journal
begins_as_journal : (header : List ℕ) (bodies : List (List ℕ)) (bytes : List ℕ) → BeginsWith (counting header bodies) bytes → IsNotJournal bytes → ⊥
unfolding signature
begins_as_journal header bodies bytes begins not =
    let first = counting_begins header bodies bytes begins in
    let size = begins_size (counted header) (drop 9 bytes) first.1 in
    ⊎_elim (λ short. omega (arith, size, length-counted header, length-drop 9 bytes)) (λ other. other first.0) not

-- a header that is accepted isn't damaged
header_not_damaged : (accepts : Accepts) (header : List ℕ) (bodies : List (List ℕ)) (bytes : List ℕ) → IsShort header →
    AreAccepted accepts (header ∷ bodies) → BeginsWith (counting header bodies) bytes → IsHeaderDamaged accepts bytes → ⊥
header_not_damaged accepts header bodies bytes short accepted begins damaged =
    let whole = whole_of header (drop 9 bytes) short (counting_begins header bodies bytes begins).1 in
    let is : IsTrue (accepts [] header) = accepted [] bodies header refl in
    ⊎_elim (λ cut. cut whole.0)
    (λ refused. let both : IsFalse (accepts [] header) = ap (λ header. accepts [] header) (sym whole.1) ∙ refused.1 in cc) damaged.damaged

-- a gate isn't both closed and damaged
not_closed_and_damaged : (accepts : Accepts) (taken : List (List ℕ)) (left : List ℕ) → IsClosed left → IsRecordDamaged accepts taken left → ⊥
not_closed_and_damaged accepts taken [] closed damaged = closed
not_closed_and_damaged accepts taken (gate ∷ rest) closed damaged = closed damaged.0

-- a journal that is recovered isn't damaged after a header
not_damaged_after : (accepts : Accepts) (header other : List ℕ) (bodies others : List (List ℕ)) (bytes : List ℕ) → IsJournalOf header bodies bytes →
    AreAccepted accepts (header ∷ bodies) → IsDamagedAfter accepts other others bytes → ⊥
not_damaged_after accepts header other bodies others bytes is accepted damaged =
    let both = compared header other bodies others bytes is.short_header damaged.short_header is.short_bodies damaged.short_bodies
    is.begins damaged.begins in
    ⊎_elim
    (λ same.
    let closed : IsClosed (drop (length (counting other others)) bytes) =
    subst (λ header. IsClosed (drop (length (counting header others)) bytes)) both.0
    (subst (λ bodies. IsClosed (drop (length (counting header bodies)) bytes)) same is.closed) in
    not_closed_and_damaged accepts (other ∷ others) (drop (length (counting other others)) bytes) closed damaged.damaged)
    (λ longer. ⊎_elim (λ goes_on. not_longer header other bodies others bytes both.0 goes_on is.closed damaged.begins)
    (λ goes_on. not_damaged accepts other header others bodies bytes (sym both.0) goes_on damaged.damaged is.short_bodies accepted is.begins) longer)
    both.1

-- a journal whose bodies are accepted is damaged at no place
whole_not_damaged : (accepts : Accepts) (header : List ℕ) (bodies other : List (List ℕ)) (bytes : List ℕ) (place : ℕ) →
    IsJournalOf header bodies bytes → AreAccepted accepts (header ∷ bodies) → IsDamagedAt accepts other bytes place → ⊥
whole_not_damaged accepts header bodies [] bytes place is accepted damaged =
    header_not_damaged accepts header bodies bytes is.short_header accepted is.begins damaged.1
whole_not_damaged accepts header bodies (other ∷ others) bytes place is accepted damaged =
    not_damaged_after accepts header other bodies others bytes is accepted damaged.1

-- bytes that are a journal of what one taker accepts aren't damaged for it, and aren't no journal
pub whole_is_not_refused : WholeIsNotRefused
whole_is_not_refused accepts [] other bytes place is refused = is
whole_is_not_refused accepts (header ∷ bodies) other bytes place is refused =
    ⊎_elim (begins_as_journal header bodies bytes is.0.begins) (whole_not_damaged accepts header bodies other bytes place is.0 is.1) refused

-- bytes that are damaged after a header are damaged at one place
damaged_once : (accepts : Accepts) (header other : List ℕ) (bodies others : List (List ℕ)) (bytes : List ℕ) →
    IsDamagedAfter accepts header bodies bytes → IsDamagedAfter accepts other others bytes → length bodies ≡ length others
damaged_once accepts header other bodies others bytes is other_is =
    let both = compared header other bodies others bytes is.short_header other_is.short_header is.short_bodies other_is.short_bodies
    is.begins other_is.begins in
    ⊎_elim (λ same. ap length same) (λ longer. absurd (⊎_elim
    (λ goes_on. not_damaged accepts header other bodies others bytes both.0 goes_on is.damaged other_is.short_bodies other_is.accepted other_is.begins)
    (λ goes_on. not_damaged accepts other header others bodies bytes (sym both.0) goes_on other_is.damaged is.short_bodies is.accepted is.begins)
    longer)) both.1

-- bytes are damaged at one place at most
pub one_damage : OneDamage
one_damage accepts [] [] bytes place other_place is other_is = is.0 ∙ sym other_is.0
one_damage accepts [] (other ∷ others) bytes place other_place is other_is =
    absurd (header_not_damaged accepts other others bytes other_is.1.short_header other_is.1.accepted other_is.1.begins is.1)
one_damage accepts (header ∷ bodies) [] bytes place other_place is other_is =
    absurd (header_not_damaged accepts header bodies bytes is.1.short_header is.1.accepted is.1.begins other_is.1)
one_damage accepts (header ∷ bodies) (other ∷ others) bytes place other_place is other_is =
    omega (arith, is.0, other_is.0, damaged_once accepts header other bodies others bytes is.1 other_is.1)
