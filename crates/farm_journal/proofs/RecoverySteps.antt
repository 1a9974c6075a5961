-- How far the recovery of a journal has come, and why it is refused.
use Rattle.std.proofs.Common.{◌≡◌, inr, ⊎_elim, ℕ, ◌≤◌, Bool, true, false, nat_eq, List, length, take, drop, Option, Some, None, sym, ◌∙◌, subst, arith}
use Rattle.std.specs.List.{starts_with}
use Rattle.std.proofs.lemmas.Slice.Eq.{bytes_eq-Decides}
use Rattle.farm_base.specs.Known.{WhereKnown}
use Rattle.farm_disk.specs.Images.{State, present}
use Rattle.farm_journal.specs.Layout.{signature}
use Rattle.farm_journal.specs.Recovery.{IsNotJournal}
use Rattle.farm_journal.specs.Windows.{BeginsWith, Looks, WhereLeft}
use Rattle.farm_journal.proofs.Fronts.{begins_front, begins_size}

-- as many bytes are ahead as were needed
pub looked_true : (known : Option (List State)) (offset need : ℕ) (ahead : List ℕ) (there : Bool) → there ≡ true →
    Looks known offset need ahead there → need ≤ length ahead
looked_true known offset need ahead there is looks = subst (λ there. Looks known offset need ahead there) is looks

-- 13 bytes or more that don't begin as a journal
no_signature : (ahead seen : List ℕ) → 13 ≤ length ahead → BeginsWith ahead seen → false ≡ starts_with nat_eq ahead signature →
    IsNotJournal seen
unfolding signature
no_signature ahead seen within begins other =
    inr (λ is.
    let front : signature ≡ take 9 ahead = sym (sym (begins_front 9 ahead seen (omega arith) begins) ∙ is) in
    let same : starts_with nat_eq ahead signature ≡ true = (bytes_eq-Decides signature (take 9 ahead)).1 front in
    cc)

-- 13 bytes or more that do
has_signature : (ahead seen : List ℕ) → 13 ≤ length ahead → BeginsWith ahead seen → true ≡ starts_with nat_eq ahead signature →
    (IsNotJournal seen → ⊥)
unfolding signature
has_signature ahead seen within begins same not =
    let front : signature ≡ take 9 ahead = (bytes_eq-Decides signature (take 9 ahead)).0 (sym same) in
    ⊎_elim (λ short. absurd (omega (arith, begins_size ahead seen begins)))
    (λ other. other (begins_front 9 ahead seen (omega arith) begins ∙ sym front)) not

-- where the states are known
pub no_signature_seen : (known : Option (List State)) (offset : ℕ) (ahead : List ℕ) → offset ≡ 0 → 13 ≤ length ahead →
    WhereLeft known offset (BeginsWith ahead) → false ≡ starts_with nat_eq ahead signature →
    WhereKnown known (λ states. IsNotJournal (present states).seen)
no_signature_seen None offset ahead start within shows other = tt
no_signature_seen (Some states) offset ahead start within shows other =
    no_signature ahead (present states).seen within
    (subst (λ offset. BeginsWith ahead (drop offset (present states).seen)) start shows) other

-- where the bytes ahead begin with the signature, the disk has a journal
pub has_signature_seen : (known : Option (List State)) (offset : ℕ) (ahead : List ℕ) → offset ≡ 0 → 13 ≤ length ahead →
    WhereLeft known offset (BeginsWith ahead) → true ≡ starts_with nat_eq ahead signature →
    WhereKnown known (λ states. IsNotJournal (present states).seen → ⊥)
has_signature_seen None offset ahead start within shows same = tt
has_signature_seen (Some states) offset ahead start within shows same =
    has_signature ahead (present states).seen within
    (subst (λ offset. BeginsWith ahead (drop offset (present states).seen)) start shows) same
