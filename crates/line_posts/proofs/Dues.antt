-- Readings that are due, by the test of a poller.
use Rattle.std.proofs.Common.{◌≡◌, ◌∙◌, ◌↔◌, ℕ, Bool, true, false, None, Some, refl, sym, subst}
use Rattle.modbus_poll.specs.Deadbands.{IsDue}
use Rattle.modbus_poll.specs.Polls.{IsGaugeAt, PollerState, index_of, last_of}
use Rattle.gauge_maps.specs.declared.map.GaugeMap.{GaugeMap}
use Rattle.modbus_poll.specs.declared.polled.Polled.{Polled}
use Rattle.modbus_poll.specs.declared.polled.Polled.TheVariants.{Value, NotValid, Exception, Wrong, LinkFault}
use Rattle.modbus_poll.specs.declared.raw.Raw.{Raw}
use Rattle.line_posts.specs.Polls.{Submits}
use Rattle.line_posts.specs.Steps.{HasDueReading, IsDueAt, IsNotDueAt}

-- the test says whether a reading of the gauge at an index is due
abbrev Tells : PollerState → ℕ → Raw → Bool → Type 0
Tells polled index raw test = (gauge : GaugeMap) → IsGaugeAt polled.line index gauge → (test ≡ true) ↔ IsDue gauge (last_of polled index) raw

-- a reading that passes the test is due
pub is_due_by : (polled : PollerState) (answer : Polled) (index : ℕ) (raw : Raw) (test : Bool) → answer ≡ Value index raw → Tells polled index raw test → test ≡ true →
    HasDueReading polled answer (Some (index, raw))
unfolding HasDueReading
is_due_by polled answer index raw test is tells passed = (is, λ gauge its. (tells gauge its).0 passed)

-- one that doesn't isn't due
not_due_at : (polled : PollerState) (index : ℕ) (raw : Raw) (test : Bool) → Tells polled index raw test → test ≡ false → IsNotDueAt polled index raw
not_due_at polled index raw test tells failed = λ gauge its due. let passed = (tells gauge its).1 due in absurd cc

-- and an answer with it has none that is
pub not_due_by : (polled : PollerState) (answer : Polled) (index : ℕ) (raw : Raw) (test : Bool) → answer ≡ Value index raw → Tells polled index raw test → test ≡ false →
    HasDueReading polled answer None
unfolding HasDueReading
not_due_by polled answer index raw test is tells failed = λ other reading shown gauge its due.
    let same : Value other reading ≡ Value index raw = sym shown ∙ is in
    let same_index : other ≡ index = cc in
    let same_reading : reading ≡ raw = cc in
    let here : IsNotDueAt polled other reading =
    subst (λ (place : ℕ). IsNotDueAt polled place reading) (sym same_index)
    (subst (λ (read : Raw). IsNotDueAt polled index read) (sym same_reading) (not_due_at polled index raw test tells failed)) in
    here gauge its due

-- an answer without a reading has none that is due
pub no_reading : (polled : PollerState) (answer : Polled) → ((index : ℕ) (raw : Raw) → answer ≡ Value index raw → ⊥) → HasDueReading polled answer None
unfolding HasDueReading
no_reading polled answer none = λ index raw shown gauge its due. none index raw shown

-- of an answer that has none nothing is submitted
pub submits_nothing : (polled : PollerState) (answer : Polled) (gauge : GaugeMap) → IsGaugeAt polled.line (index_of answer) gauge →
    HasDueReading polled answer None → Submits polled polled answer None
unfolding HasDueReading
submits_nothing polled (Value index raw) gauge its none =
    record { gauge = gauge; its = its; not_due = none index raw refl gauge its; same = refl }
submits_nothing polled (NotValid index) gauge its none = (refl, refl)
submits_nothing polled (Exception index code) gauge its none = (refl, refl)
submits_nothing polled (Wrong index field) gauge its none = (refl, refl)
submits_nothing polled (LinkFault index) gauge its none = (refl, refl)

-- an answer has the reading that it is said to have
pub reading_is : (polled : PollerState) (answer : Polled) (index : ℕ) (raw : Raw) → HasDueReading polled answer (Some (index, raw)) → answer ≡ Value index raw
unfolding HasDueReading
reading_is polled answer index raw has = has.0

-- and it is due
pub reading_due : (polled : PollerState) (answer : Polled) (index : ℕ) (raw : Raw) → HasDueReading polled answer (Some (index, raw)) → IsDueAt polled index raw
unfolding HasDueReading
reading_due polled answer index raw has = has.1
