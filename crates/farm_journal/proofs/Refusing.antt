-- Why a recovery is refused.
use Rattle.std.proofs.Common.{◌≡◌, ◌≢◌, inl, inr, ℕ, suc, ◌+◌, List, [], ◌∷◌, length, take, drop, Option, Some, None, refl, sym, ap, ◌∙◌, subst, arith}
use Rattle.std.specs.Prelude.{Result, Ok, Err, IfErr, OnOk}
use Rattle.std.specs.Bool.{IsFalse}
use Rattle.std.specs.List.{All}
use Rattle.std.proofs.lemmas.List.{drop-drop}
use Rattle.farm_base.specs.Known.{WhereKnown}
use Rattle.farm_disk.specs.Images.{State, present}
use Rattle.farm_journal.specs.declared.faults.RecoverFault.{RecoverFault}
use Rattle.farm_journal.specs.declared.faults.RecoverFault.TheVariants.{NotJournal, Damaged, DiskFault, NoMemory}
use Rattle.farm_journal.specs.declared.taker.Taken.{Taken}
use Rattle.farm_journal.specs.declared.taker.Taken.TheVariants.{Go, Bad, NoMemory as Lacking}
use Rattle.farm_journal.specs.Layout.{IsShort}
use Rattle.farm_journal.specs.Progress.{HasTaken, IsAnswer, IsDamageOr, IsRefusedWith, counting_of}
use Rattle.farm_journal.specs.Recovery.{Accepts, AreAccepted, IsDamagedAt, IsJudged, IsNotJournal, IsRecordDamaged, IsWhole, TakesNext}
use Rattle.farm_journal.specs.Windows.{BeginsWith, IsCounted, WhereLeft}
use Rattle.farm_journal.proofs.Fronts.{begins_then, begins_with_1}
use Rattle.farm_journal.proofs.Records.{whole_left}
use Rattle.farm_journal.proofs.Taking.{IsAhead, taken_header}

-- past the gate that is open the others are left
open_left : (offset : ℕ) (gate seen : List ℕ) → BeginsWith (1 ∷ []) gate → BeginsWith gate (drop offset seen) →
    drop offset seen ≡ 1 ∷ drop (offset + 1) seen
open_left offset gate seen is_open shows =
    begins_with_1 (drop offset seen) (begins_then (1 ∷ []) gate (drop offset seen) is_open shows)
    ∙ ap (λ rest. 1 ∷ rest) (drop-drop 1 offset seen)

-- the journal is damaged at a place, if what is expected after what was taken is
damaged_at : (accepts : Accepts) (taken : List (List ℕ)) (offset place at : ℕ) (seen : List ℕ) → taken ≢ [] →
    offset ≡ length (counting_of taken) → All IsShort taken → AreAccepted accepts taken → BeginsWith (counting_of taken) seen →
    length taken ≡ place → at ≡ place → IsRecordDamaged accepts taken (drop offset seen) → IsDamagedAt accepts taken seen at
damaged_at accepts [] offset place at seen some reached short accepted begins count is damaged = absurd (some refl)
damaged_at accepts (header ∷ bodies) offset place at seen some reached short accepted begins count is damaged = (
  omega arith,
  record {
    begins = begins;
    short_header = short 0 [] (omega arith);
    short_bodies = λ k d within. short (suc k) d (omega arith);
    accepted = accepted;
    damaged = subst (λ offset. IsRecordDamaged accepts (header ∷ bodies) (drop offset seen)) reached damaged;
  },
)

-- there is no gate
pub refused_no_gate : (accepts : Accepts) (taken : List (List ℕ)) (known : Option (List State)) (offset place : ℕ) (fault : RecoverFault) →
    HasTaken accepts taken known offset → length taken ≡ place → IsDamageOr known offset place (λ left. left ≡ []) fault →
    IsRefusedWith accepts taken known fault
refused_no_gate accepts taken known offset place NotJournal has count is = absurd is
refused_no_gate accepts taken None offset place (Damaged at) has count is = tt
refused_no_gate accepts taken (Some states) offset place (Damaged at) has count is =
    damaged_at accepts taken offset place at (present states).seen has.some has.reached has.short has.accepted has.begins count is.0
    (subst (λ left. IsRecordDamaged accepts taken left) (sym is.1) tt)
refused_no_gate accepts taken None offset place DiskFault has count is = tt
refused_no_gate accepts taken (Some states) offset place DiskFault has count is = tt
refused_no_gate accepts taken None offset place NoMemory has count is = tt
refused_no_gate accepts taken (Some states) offset place NoMemory has count is = tt

-- the gate is open, and no record is counted after it
pub refused_cut : (accepts : Accepts) (taken : List (List ℕ)) (known : Option (List State)) (offset place : ℕ) (gate : List ℕ) (fault : RecoverFault) →
    HasTaken accepts taken known offset → length taken ≡ place → BeginsWith (1 ∷ []) gate → WhereLeft known offset (BeginsWith gate) →
    IsDamageOr known (offset + 1) place (λ left. IsWhole left → ⊥) fault → IsRefusedWith accepts taken known fault
refused_cut accepts taken known offset place gate NotJournal has count is_open shows is = absurd is
refused_cut accepts taken None offset place gate (Damaged at) has count is_open shows is = tt
refused_cut accepts taken (Some states) offset place gate (Damaged at) has count is_open shows is =
    damaged_at accepts taken offset place at (present states).seen has.some has.reached has.short has.accepted has.begins count is.0
    (subst (λ left. IsRecordDamaged accepts taken left) (sym (open_left offset gate (present states).seen is_open shows)) (refl, inl is.1))
refused_cut accepts taken None offset place gate DiskFault has count is_open shows is = tt
refused_cut accepts taken (Some states) offset place gate DiskFault has count is_open shows is = tt
refused_cut accepts taken None offset place gate NoMemory has count is_open shows is = tt
refused_cut accepts taken (Some states) offset place gate NoMemory has count is_open shows is = tt

-- the taker refuses a body
pub refused_body : (accepts : Accepts) (taken now : List (List ℕ)) (known : Option (List State)) (offset place size : ℕ) (gate ahead : List ℕ) →
    HasTaken accepts taken known offset → length taken ≡ place → BeginsWith (1 ∷ []) gate → WhereLeft known offset (BeginsWith gate) →
    IsCounted size ahead → WhereLeft known (offset + 1) (BeginsWith ahead) → IsFalse (accepts taken (take size (drop 4 ahead))) → now ≡ taken →
    IsRefusedWith accepts now known (Damaged place)
refused_body accepts taken now None offset place size gate ahead has count is_open shows_gate is shows refused same = tt
refused_body accepts taken now (Some states) offset place size gate ahead has count is_open shows_gate is shows refused same =
    let seen = (present states).seen in
    let whole = whole_left size ahead (drop (offset + 1) seen) is shows in
    subst (λ taken. IsDamagedAt accepts taken seen place) (sym same)
    (damaged_at accepts taken offset place place seen has.some has.reached has.short has.accepted has.begins count refl
    (subst (λ left. IsRecordDamaged accepts taken left) (sym (open_left offset gate seen is_open shows_gate))
    (refl, inr (whole.0, ap (λ body. accepts taken body) whole.1 ∙ refused))))

-- the header is cut short
pub refused_no_header : (accepts : Accepts) (known : Option (List State)) (taken : List (List ℕ)) (fault : RecoverFault) → taken ≡ [] →
    WhereKnown known (λ states. IsNotJournal (present states).seen → ⊥) →
    IsDamageOr known 9 0 (λ left. IsWhole left → ⊥) fault → IsRefusedWith accepts taken known fault
refused_no_header accepts known taken NotJournal fresh is_journal is = absurd is
refused_no_header accepts None taken (Damaged at) fresh is_journal is = tt
refused_no_header accepts (Some states) taken (Damaged at) fresh is_journal is =
    subst (λ taken. IsDamagedAt accepts taken (present states).seen at) (sym fresh)
    (is.0, record { is_journal = is_journal; damaged = inl is.1 })
refused_no_header accepts None taken DiskFault fresh is_journal is = tt
refused_no_header accepts (Some states) taken DiskFault fresh is_journal is = tt
refused_no_header accepts None taken NoMemory fresh is_journal is = tt
refused_no_header accepts (Some states) taken NoMemory fresh is_journal is = tt

-- the taker refuses the header
pub refused_header : (accepts : Accepts) (now : List (List ℕ)) (known : Option (List State)) (size : ℕ) (ahead : List ℕ) →
    WhereKnown known (λ states. IsNotJournal (present states).seen → ⊥) → IsCounted size ahead → WhereLeft known 9 (BeginsWith ahead) →
    IsFalse (accepts [] (take size (drop 4 ahead))) → now ≡ [] → IsRefusedWith accepts now known (Damaged 0)
refused_header accepts now None size ahead is_journal is shows refused same = tt
refused_header accepts now (Some states) size ahead is_journal is shows refused same =
    let seen = (present states).seen in
    let whole = whole_left size ahead (drop 9 seen) is shows in
    subst (λ taken. IsDamagedAt accepts taken seen 0) (sym same)
    (refl, record { is_journal = is_journal; damaged = inr (whole.0, ap (λ header. accepts [] header) whole.1 ∙ refused) })

-- a lack of memory says nothing of the bytes
refused_lacking : (accepts : Accepts) (taken : List (List ℕ)) (known : Option (List State)) → IsRefusedWith accepts taken known NoMemory
refused_lacking accepts taken None = tt
refused_lacking accepts taken (Some states) = tt

-- the taker hasn't said Go of a body
pub gave_up : (accepts : Accepts) (taken now : List (List ℕ)) (known : Option (List State)) (offset place size : ℕ) (gate ahead : List ℕ)
    (answer : Taken) (fault : RecoverFault) → HasTaken accepts taken known offset → length taken ≡ place →
    IsAhead known offset size gate ahead → IsJudged (accepts taken (take size (drop 4 ahead))) answer →
    TakesNext taken now (take size (drop 4 ahead)) answer → IsAnswer {T = Unit {0}} answer place (Err fault) →
    IsRefusedWith accepts now known fault
gave_up accepts taken now known offset place size gate ahead Go fault has count is judged takes answered = cc
gave_up accepts taken now known offset place size gate ahead Bad fault has count is judged takes answered =
    let bad : Damaged place ≡ fault = cc in
    subst (λ fault. IsRefusedWith accepts now known fault) bad
    (refused_body accepts taken now known offset place size gate ahead has count is.is_open is.gate_shows is.counted is.shows judged takes)
gave_up accepts taken now known offset place size gate ahead Lacking fault has count is judged takes answered =
    let lacking : NoMemory ≡ fault = cc in
    subst (λ fault. IsRefusedWith accepts now known fault) lacking (refused_lacking accepts now known)

-- what the taker's answer to a header makes of the recovery
pub header_answered : {T : Type 0} (accepts : Accepts) (now : List (List ℕ)) (known : Option (List State)) (size : ℕ) (ahead : List ℕ)
    (answer : Taken) (result : Result T RecoverFault) → WhereKnown known (λ states. IsNotJournal (present states).seen → ⊥) →
    IsCounted size ahead → WhereLeft known 9 (BeginsWith ahead) → IsJudged (accepts [] (take size (drop 4 ahead))) answer →
    TakesNext [] now (take size (drop 4 ahead)) answer → IsAnswer answer 0 result →
    OnOk result (HasTaken accepts now known (9 + (4 + size))) × IfErr result (IsRefusedWith accepts now known)
header_answered accepts now known size ahead Go (Ok value) is_journal is shows judged takes answered =
    (taken_header accepts now known size ahead is is_journal shows judged takes, tt)
header_answered accepts now known size ahead Go (Err fault) is_journal is shows judged takes answered = cc
header_answered accepts now known size ahead Bad (Ok value) is_journal is shows judged takes answered = cc
header_answered accepts now known size ahead Bad (Err fault) is_journal is shows judged takes answered =
    let bad : Damaged 0 ≡ fault = cc in
    (tt, subst (λ fault. IsRefusedWith accepts now known fault) bad (refused_header accepts now known size ahead is_journal is shows judged takes))
header_answered accepts now known size ahead Lacking (Ok value) is_journal is shows judged takes answered = cc
header_answered accepts now known size ahead Lacking (Err fault) is_journal is shows judged takes answered =
    let lacking : NoMemory ≡ fault = cc in
    (tt, subst (λ fault. IsRefusedWith accepts now known fault) lacking (refused_lacking accepts now known))
