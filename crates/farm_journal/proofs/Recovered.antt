-- A journal that was recovered, on its disk.
use Rattle.std.proofs.Common.{◌≡◌, ℕ, suc, ◌+◌, ◌≤◌, List, [], ◌∷◌, length, drop, Option, Some, None, refl, sym, ◌∙◌, subst, arith}
use Rattle.std.specs.List.{All}
use Rattle.std.proofs.lemmas.List.Elements.{All-nil}
use Rattle.farm_base.specs.Known.{WhereKnown}
use Rattle.farm_disk.specs.Images.{Range, State, at_rest, present}
use Rattle.farm_journal.specs.Layout.{IsClosed, IsJournalOf, IsShort, counting}
use Rattle.farm_journal.specs.Progress.{HasTakenAll, IsAllSynced}
use Rattle.farm_journal.specs.Recovery.{Accepts, IsRecovered}
use Rattle.farm_journal.specs.Standing.{IsAtRest, IsWithinOffsets, JournalState, StandsOf}
use Rattle.farm_journal.specs.Windows.{BeginsWith}
use Rattle.farm_journal.proofs.Records.{counting_within}

-- bytes that begin with what counts of these, and have a closed gate after it, are a journal of them
journal_of : (header : List ℕ) (bodies : List (List ℕ)) (offset : ℕ) (seen : List ℕ) → offset ≡ length (counting header bodies) →
    All IsShort (header ∷ bodies) → BeginsWith (counting header bodies) seen → IsClosed (drop offset seen) → IsJournalOf header bodies seen
journal_of header bodies offset seen reached short begins closed = record {
  begins = begins;
  closed = subst (λ offset. IsClosed (drop offset seen)) reached closed;
  short_header = short 0 [] (omega arith);
  short_bodies = λ k d within. short (suc k) d (omega arith);
}

-- where the states are known, it is recovered
pub recovered_where : (accepts : Accepts) (taken : List (List ℕ)) (known : Option (List State)) (offset count : ℕ) →
    HasTakenAll accepts taken known offset count → WhereKnown known (λ states. IsRecovered accepts taken (present states).seen)
recovered_where accepts [] known offset count has = absurd (has.has_taken.some refl)
recovered_where accepts (header ∷ bodies) None offset count has = tt
recovered_where accepts (header ∷ bodies) (Some states) offset count has = (
  journal_of header bodies offset (present states).seen has.has_taken.reached has.has_taken.short has.has_taken.begins has.closed,
  has.has_taken.accepted,
)

-- a disk on which all is synced, and whose reads give a journal, keeps it
at_rest_of : (header : List ℕ) (bodies : List (List ℕ)) (state : State) → state ≡ at_rest state.seen → IsJournalOf header bodies state.seen →
    IsAtRest header bodies state
at_rest_of header bodies state synced is =
    subst (λ state. IsAtRest header bodies state) (sym synced) (record {
      base = is;
      seen = is;
      ranges = All-nil (λ (range : Range). length (counting header bodies) + 1 ≤ range.at);
    })

-- so where the states are known, after all of a journal was taken from a disk on which all is synced
kept_where : (accepts : Accepts) (header : List ℕ) (bodies : List (List ℕ)) (known : Option (List State)) (offset count : ℕ) →
    HasTakenAll accepts (header ∷ bodies) known offset count → IsAllSynced known →
    WhereKnown known (λ states. IsAtRest header bodies (present states))
kept_where accepts header bodies None offset count has synced = tt
kept_where accepts header bodies (Some states) offset count has synced =
    at_rest_of header bodies (present states) synced
    (journal_of header bodies offset (present states).seen has.has_taken.reached has.has_taken.short has.has_taken.begins has.closed)

-- so an open journal stands on its disk
pub stands_of : {D : Type 0} (trace : D → Option (List State)) (accepts : Accepts) (taken : List (List ℕ)) (journal : JournalState D) (disk : D) (offset count : ℕ) →
    journal.disk ≡ disk → journal.gate ≡ offset → journal.count ≡ count → journal.next_gate ≡ None →
    HasTakenAll accepts taken (trace disk) offset count → IsAllSynced (trace disk) → StandsOf trace taken journal
stands_of trace accepts [] journal disk offset count same gate number next has synced = absurd (has.has_taken.some refl)
stands_of trace accepts (header ∷ bodies) journal disk offset count same gate number next has synced = record {
  gate = gate ∙ has.has_taken.reached;
  count = number ∙ omega (arith, has.counted);
  next_gate = next;
  kept = subst (λ disk. WhereKnown (trace disk) (λ states. IsAtRest header bodies (present states))) (sym same)
      (kept_where accepts header bodies (trace disk) offset count has synced);
}

-- its gate is within reach
pub within_offsets : (accepts : Accepts) (taken : List (List ℕ)) (known : Option (List State)) (gate offset count : ℕ) → gate ≡ offset →
    HasTakenAll accepts taken known offset count → IsWithinOffsets gate count None
within_offsets accepts taken known gate offset count same has = record {
  counted = has.within;
  reached = omega (arith, counting_within taken has.has_taken.short, has.has_taken.reached, has.counted);
  next_counted = tt;
  next_reached = tt;
}
