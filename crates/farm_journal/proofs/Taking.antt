-- What a taker has taken, one record more.
use Rattle.std.proofs.Common.{◌≡◌, ◌≢◌, ◌⊎◌, inl, inr, ⊎_elim, ℕ, ◌+◌, ◌-◌, Bool, true, false, List, [], ◌∷◌, ◌++◌, length, take, drop, Option, Some, None, refl, sym, ap, ◌∙◌, subst, arith, length-append}
use Rattle.std.specs.Prelude.{Ok}
use Rattle.std.specs.Bool.{Decides, IsTrue}
use Rattle.std.specs.Str.{bytes_eq}
use Rattle.std.proofs.lemmas.Slice.Eq.{bytes_eq-Decides}
use Rattle.std.proofs.lemmas.List.Elements.{All-nil, All-push}
use Rattle.farm_base.specs.Known.{Stays, WhereKnown}
use Rattle.farm_disk.specs.Images.{State, present}
use Rattle.farm_journal.specs.declared.taker.Taken.{Taken}
use Rattle.farm_journal.specs.declared.taker.Taken.TheVariants.{Go, Bad, NoMemory as Lacking}
use Rattle.farm_journal.specs.Layout.{IsShort, signature}
use Rattle.farm_journal.specs.Progress.{HasTaken, IsAnswer, IsGate, counting_of}
use Rattle.farm_journal.specs.Recovery.{Accepts, IsJudged, IsNotJournal, TakesNext}
use Rattle.farm_journal.specs.Windows.{BeginsWith, IsCounted, Shows, WhereLeft, WindowState}
use Rattle.farm_journal.proofs.Fronts.{begins_then}
use Rattle.farm_journal.proofs.Known.{known_still}
use Rattle.farm_journal.proofs.Records.{accepted_push, counted_size, header_read, header_size, push_some, record_read, record_size}

-- what was taken still is where nothing changed
pub taken_still : (accepts : Accepts) (taken : List (List ℕ)) (old new : Option (List State)) (offset : ℕ) → Stays old new →
    HasTaken accepts taken old offset → HasTaken accepts taken new offset
taken_still accepts taken old new offset stays has = record {
  some = has.some;
  reached = has.reached;
  short = has.short;
  accepted = has.accepted;
  begins = known_still old new (λ states. BeginsWith (counting_of taken) (present states).seen) stays has.begins;
}

-- a gate that is open, and a record after it, that are ahead in a window one after another
record_where : (taken : List (List ℕ)) (known : Option (List State)) (offset size : ℕ) (gate ahead : List ℕ) → taken ≢ [] →
    offset ≡ length (counting_of taken) → BeginsWith (1 ∷ []) gate → IsCounted size ahead →
    WhereKnown known (λ states. BeginsWith (counting_of taken) (present states).seen) → WhereLeft known offset (BeginsWith gate) →
    WhereLeft known (offset + 1) (BeginsWith ahead) →
    WhereKnown known (λ states. BeginsWith (counting_of (taken ++ take size (drop 4 ahead) ∷ [])) (present states).seen)
record_where taken None offset size gate ahead some reached is_open is begins shows_gate shows = tt
record_where taken (Some states) offset size gate ahead some reached is_open is begins shows_gate shows =
    record_read taken offset size ahead (present states).seen some reached begins
    (begins_then (1 ∷ []) gate (drop offset (present states).seen) is_open shows_gate) is shows

-- the taker has taken one body more
pub taken_more : (accepts : Accepts) (taken now : List (List ℕ)) (known : Option (List State)) (offset size : ℕ) (gate ahead : List ℕ) →
    HasTaken accepts taken known offset → BeginsWith (1 ∷ []) gate → IsCounted size ahead →
    WhereLeft known offset (BeginsWith gate) → WhereLeft known (offset + 1) (BeginsWith ahead) →
    IsTrue (accepts taken (take size (drop 4 ahead))) → now ≡ taken ++ take size (drop 4 ahead) ∷ [] →
    HasTaken accepts now known (offset + 1 + (4 + size))
taken_more accepts taken now known offset size gate ahead has is_open is shows_gate shows accepted same =
    let body = take size (drop 4 ahead) in
    subst (λ now. HasTaken accepts now known (offset + 1 + (4 + size))) (sym same) (record {
      some = push_some taken body;
      reached = record_size taken offset size ahead has.some has.reached is;
      short = All-push IsShort taken body has.short (omega (arith, is.within, counted_size size ahead is));
      accepted = accepted_push accepts taken body has.accepted accepted;
      begins = record_where taken known offset size gate ahead has.some has.reached is_open is has.begins shows_gate shows;
    })

-- what a test decides holds or doesn't
holds_or_not : {P : Type 0} (test : Bool) → Decides test P → P ⊎ (P → ⊥)
holds_or_not true decides = inl (decides.0 refl)
holds_or_not false decides = inr (λ holds. let never : false ≡ true = decides.1 holds in cc)

-- what isn't no journal begins with the signature
is_signature : (seen : List ℕ) → (IsNotJournal seen → ⊥) → BeginsWith signature seen
unfolding signature
is_signature seen is_journal =
    ⊎_elim (λ same. same) (λ other. absurd (is_journal (inr other)))
    (holds_or_not (bytes_eq (take 9 seen) signature) (bytes_eq-Decides (take 9 seen) signature))

-- an empty list has no element
none_split : (front back : List (List ℕ)) (bytes : List ℕ) → [] ≡ front ++ bytes ∷ back → ⊥
none_split front back bytes split = omega (arith, ap length split, length-append front (bytes ∷ back))

-- where the states are known, reads give the header that was taken
header_where : (known : Option (List State)) (size : ℕ) (ahead : List ℕ) → IsCounted size ahead →
    WhereKnown known (λ states. IsNotJournal (present states).seen → ⊥) → WhereLeft known 9 (BeginsWith ahead) →
    WhereKnown known (λ states. BeginsWith (counting_of (take size (drop 4 ahead) ∷ [])) (present states).seen)
header_where None size ahead is is_journal shows = tt
header_where (Some states) size ahead is is_journal shows =
    header_read size ahead (present states).seen (is_signature (present states).seen is_journal) is shows

-- the taker has taken the header
pub taken_header : (accepts : Accepts) (now : List (List ℕ)) (known : Option (List State)) (size : ℕ) (ahead : List ℕ) →
    IsCounted size ahead → WhereKnown known (λ states. IsNotJournal (present states).seen → ⊥) → WhereLeft known 9 (BeginsWith ahead) →
    IsTrue (accepts [] (take size (drop 4 ahead))) → now ≡ [] ++ take size (drop 4 ahead) ∷ [] →
    HasTaken accepts now known (9 + (4 + size))
taken_header accepts now known size ahead is is_journal shows accepted same =
    let header = take size (drop 4 ahead) in
    subst (λ now. HasTaken accepts now known (9 + (4 + size))) (sym same) (record {
      some = push_some [] header;
      reached = header_size size ahead is;
      short = All-push IsShort [] header (All-nil IsShort) (omega (arith, is.within, counted_size size ahead is));
      accepted = accepted_push accepts [] header (λ front back bytes split. absurd (none_split front back bytes split)) accepted;
      begins = header_where known size ahead is is_journal shows;
    })

-- a record whose gate is open and ahead in a window, and then the rest of it
pub record IsAhead (known : Option (List State)) (offset size : ℕ) (gate ahead : List ℕ) : Type 0 where
  pub is_open : BeginsWith (1 ∷ []) gate
  pub gate_shows : WhereLeft known offset (BeginsWith gate)
  pub counted : IsCounted size ahead
  pub shows : WhereLeft known (offset + 1) (BeginsWith ahead)

-- the gate and the record after it, as a window showed them one after another
pub ahead_of : {D : Type 0} (trace : D → Option (List State)) (first passed second : WindowState D) (offset size : ℕ) (there : Bool) →
    Shows trace first → first.offset ≡ offset → there ≡ true → IsGate (trace first.disk) offset first.ahead there →
    passed.disk ≡ first.disk → passed.offset ≡ first.offset + 1 → Stays (trace passed.disk) (trace second.disk) →
    second.offset ≡ passed.offset → Shows trace second → IsCounted size second.ahead →
    IsAhead (trace second.disk) offset size first.ahead second.ahead
ahead_of trace first passed second offset size there first_shows at is_there gate same after stays rests second_shows is =
    let known = trace second.disk in
    let then : Stays (trace first.disk) known = subst (λ disk. Stays (trace disk) known) same stays in
    let next : second.offset ≡ offset + 1 = rests ∙ after ∙ ap (λ offset. offset + 1) at in
    record {
      is_open = subst (λ there. IsGate (trace first.disk) offset first.ahead there) is_there gate;
      gate_shows = known_still (trace first.disk) known _ then
          (subst (λ offset. WhereLeft (trace first.disk) offset (BeginsWith first.ahead)) at first_shows);
      counted = is;
      shows = subst (λ offset. WhereLeft known offset (BeginsWith second.ahead)) next second_shows;
    }

-- the taker has said Go
pub went_on : {T : Type 0} (accepts : Accepts) (taken now : List (List ℕ)) (known : Option (List State)) (offset place size : ℕ) (gate ahead : List ℕ)
    (answer : Taken) (value : T) → HasTaken accepts taken known offset → IsAhead known offset size gate ahead →
    IsJudged (accepts taken (take size (drop 4 ahead))) answer → TakesNext taken now (take size (drop 4 ahead)) answer →
    IsAnswer {T = T} answer place (Ok value) →
    (answer ≡ Go) × HasTaken accepts now known (offset + 1 + (4 + size)) × (length now ≡ length taken + 1)
went_on accepts taken now known offset place size gate ahead Go value has is judged takes answered = (
  refl,
  taken_more accepts taken now known offset size gate ahead has is.is_open is.counted is.gate_shows is.shows judged takes,
  omega (arith, ap length takes, length-append taken (take size (drop 4 ahead) ∷ [])),
)
went_on accepts taken now known offset place size gate ahead Bad value has is judged takes answered = cc
went_on accepts taken now known offset place size gate ahead Lacking value has is judged takes answered = cc

-- the bytes that a taker is given are those that are counted ahead
pub given_is : (size : ℕ) (given ahead : List ℕ) → given ≡ ahead → take (4 + size - 4) (drop 4 given) ≡ take size (drop 4 ahead)
given_is size given ahead same =
    let count : 4 + size - 4 ≡ size = omega arith in
    ap (λ count. take count (drop 4 given)) count ∙ ap (λ given. take size (drop 4 given)) same
