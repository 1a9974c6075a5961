-- What a poller remembers as submitted, and which readings are due by that.
use Rattle.std.proofs.Common.{◌≡◌, ◌∙◌, ◌↔◌, ℕ, ◌<◌, ◌==◌, Bool, true, false, if◌then◌else◌, List, [], ◌∷◌, ◌++◌, length, get_or, set, Option, None, Some, refl, sym, ap, subst, arith}
use Rattle.std.proofs.lemmas.Bool.{eqb-false, eqb-true}
use Rattle.std.proofs.lemmas.List.{get_or-replicate, get_or-set_other, get_or-set_same, length-replicate, length-set}
use Rattle.std.proofs.lemmas.List.Elements.{All-cons, All-nil}
use Rattle.std.specs.List.{All, cons_option, filter_map, last_or}
use Rattle.std.specs.Prelude.{IfSome, IsSome, option_map}
use Rattle.modbus_poll.specs.Deadbands.{IsDue}
use Rattle.modbus_poll.specs.Polls.{IsGaugeAt, PollerState, fresh, index_of, last_of}
use Rattle.gauge_maps.specs.declared.map.GaugeMap.{GaugeMap}
use Rattle.gauge_maps.specs.declared.map.LineMap.{LineMap}
use Rattle.modbus_poll.specs.declared.polled.Polled.{Polled}
use Rattle.modbus_poll.specs.declared.polled.Polled.TheVariants.{Value, NotValid, Exception, Wrong, LinkFault}
use Rattle.modbus_poll.specs.declared.raw.Raw.{Raw}
use Rattle.line_posts.specs.Polls.{AreLinePolls, IsLinePoll, Poll, Submits, SubmitsDue, last_submitted, submitted_of}
use Rattle.line_posts.specs.Submissions.{Submission}

-- From a poller to a later one its line and the number of readings that it remembers are the same, and of the gauge at an index it remembers
-- the last of these readings, or what it did.
pub record Remembers (old new : PollerState) (index : ℕ) (readings : List Raw) : Type 0 where
  pub line : new.line ≡ old.line
  pub many : length new.last ≡ length old.last
  pub last : last_of new index ≡ last_or (last_of old index) readings

-- a poller that stays as it was remembers what it did
stays : (old new : PollerState) (index : ℕ) → new ≡ old → Remembers old new index []
stays old new index same = record {
  line = ap (λ (state : PollerState). state.line) same;
  many = ap (λ (state : PollerState). length state.last) same;
  last = ap (λ (state : PollerState). last_of state index) same;
}

-- a reading that is remembered of this gauge, or of another one
remembered_at : (last : List (Option Raw)) (index other : ℕ) (raw reading : Raw) (test : Bool) → reading ≡ raw → (other == index) ≡ test → other < length last →
    get_or (set last other (Some raw)) index None ≡ last_or (get_or last index None) (cons_option (if test then Some reading else None) [])
remembered_at last index other raw reading true same is inside =
    let here : other ≡ index = eqb-true other index is in
    ap (λ (place : ℕ). get_or (set last place (Some raw)) index None) here
    ∙ get_or-set_same last index (Some raw) None (subst (λ (place : ℕ). place < length last) here inside) ∙ ap Some (sym same)
remembered_at last index other raw reading false same is inside =
    get_or-set_other last other index (Some raw) None (λ here. eqb-false other index is (sym here))

-- nothing that was submitted is no reading of any gauge
no_reading : (test : Bool) (submitted : Option Submission) → submitted ≡ None →
    (if test then option_map (λ (submission : Submission). submission.raw) submitted else None) ≡ None
no_reading true submitted none = ap (option_map (λ (submission : Submission). submission.raw)) none
no_reading false submitted none = refl

-- of nothing that was submitted a poller remembers nothing
passes : (old new : PollerState) (index : ℕ) (test : Bool) (submitted : Option Submission) → submitted ≡ None → new ≡ old →
    Remembers old new index (cons_option (if test then option_map (λ (submission : Submission). submission.raw) submitted else None) [])
passes old new index test submitted none same =
    subst (λ (reading : Option Raw). Remembers old new index (cons_option reading [])) (sym (no_reading test submitted none)) (stays old new index same)

-- after a poll a poller remembers what the poll submitted
remembers_one : (polled new : PollerState) (index : ℕ) (answer : Polled) (submitted : Option Submission) → length polled.last ≡ length polled.line.gauges →
    Submits polled new answer submitted →
    Remembers polled new index (cons_option (if index_of answer == index then option_map (λ (submission : Submission). submission.raw) submitted else None) [])
remembers_one polled new index (Value other raw) None as_many submits = passes polled new index (other == index) None refl submits.same
remembers_one polled new index (Value other raw) (Some submission) as_many submits = record {
  line = ap (λ (state : PollerState). state.line) submits.remembered;
  many = ap (λ (state : PollerState). length state.last) submits.remembered ∙ length-set polled.last other (Some raw);
  last = ap (λ (state : PollerState). last_of state index) submits.remembered
      ∙ remembered_at polled.last index other raw submission.raw (other == index) submits.reading refl (omega (arith, submits.its.inside, as_many));
}
remembers_one polled new index (NotValid other) submitted as_many submits = passes polled new index (other == index) submitted submits.0 submits.1
remembers_one polled new index (Exception other code) submitted as_many submits = passes polled new index (other == index) submitted submits.0 submits.1
remembers_one polled new index (Wrong other field) submitted as_many submits = passes polled new index (other == index) submitted submits.0 submits.1
remembers_one polled new index (LinkFault other) submitted as_many submits = passes polled new index (other == index) submitted submits.0 submits.1

-- the poll itself leaves what is remembered
after_poll : (old new : PollerState) (poll : Poll) (index : ℕ) → length old.last ≡ length old.line.gauges → IsLinePoll old new poll →
    Remembers old new index (cons_option (submitted_of index poll) [])
after_poll old new poll index as_many is =
    let state = is.asked.state in
    let line : is.polled.line ≡ old.line = ap (λ (polled : PollerState). polled.line) state in
    let last : is.polled.last ≡ old.last = ap (λ (polled : PollerState). polled.last) state in
    let many : length is.polled.last ≡ length is.polled.line.gauges =
    ap length last ∙ as_many ∙ ap (λ (map : LineMap). length map.gauges) (sym line) in
    let one = remembers_one is.polled new index poll.answer poll.submitted many is.submits in
    record {
      line = one.line ∙ line;
      many = one.many ∙ ap length last;
      last = one.last ∙ ap (λ (kept : List (Option Raw)). last_or (get_or kept index None) (cons_option (submitted_of index poll) [])) last;
    }

-- the last of a reading, if there is one, and of others
last_of_both : (first : Option Raw) (reading : Option Raw) (readings : List Raw) →
    last_or (last_or first (cons_option reading [])) readings ≡ last_or first (cons_option reading readings)
last_of_both first None readings = refl
last_of_both first (Some reading) readings = refl

-- after polls a poller remembers the last that they submitted
pub remembers : (old new : PollerState) (polls : List Poll) (index : ℕ) → length old.last ≡ length old.line.gauges → AreLinePolls old new polls →
    Remembers old new index (filter_map (submitted_of index) polls)
unfolding AreLinePolls
remembers old new [] index as_many are = stays old new index are
remembers old new (poll ∷ polls) index as_many are =
    let one = after_poll old are.0 poll index as_many are.1 in
    let many : length are.0.last ≡ length are.0.line.gauges = one.many ∙ as_many ∙ ap (λ (map : LineMap). length map.gauges) (sym one.line) in
    let rest = remembers are.0 new polls index many are.2 in
    record {
      line = rest.line ∙ one.line;
      many = rest.many ∙ one.many;
      last = rest.last ∙ ap (λ (last : Option Raw). last_or last (filter_map (submitted_of index) polls)) one.last
          ∙ last_of_both (last_of old index) (submitted_of index poll) (filter_map (submitted_of index) polls);
    }

-- two gauges at one index of a line are the same
same_gauge : (line : LineMap) (index : ℕ) (first second : GaugeMap) → IsGaugeAt line index first → IsGaugeAt line index second → first ≡ second
same_gauge line index first second one other = sym (one.here first) ∙ other.here first

-- a reading is submitted if and only if it is due by what the poller remembers
due_of : (polled new : PollerState) (index : ℕ) (raw : Raw) (submitted : Option Submission) (gauge : GaugeMap) → IsGaugeAt polled.line index gauge →
    Submits polled new (Value index raw) submitted → IsSome submitted ↔ IsDue gauge (last_of polled index) raw
due_of polled new index raw None gauge its submits = (
  λ is. absurd cc,
  λ due. absurd (submits.not_due (subst (λ (map : GaugeMap). IsDue map (last_of polled index) raw)
      (same_gauge polled.line index gauge submits.gauge its submits.its) due)),
)
due_of polled new index raw (Some submission) gauge its submits = (
  λ is. subst (λ (map : GaugeMap). IsDue map (last_of polled index) raw) (same_gauge polled.line index submits.gauge gauge submits.its its) submits.due,
  λ due. refl,
)

-- nothing but a poll's reading is submitted
reading_of : (polled new : PollerState) (answer : Polled) (submitted : Option Submission) → Submits polled new answer submitted →
    IfSome submitted (λ submission. answer ≡ Value (index_of answer) submission.raw)
reading_of polled new (Value index raw) None submits = tt
reading_of polled new (Value index raw) (Some submission) submits = ap (Value index) (sym submits.reading)
reading_of polled new (NotValid index) None submits = tt
reading_of polled new (NotValid index) (Some submission) submits = absurd cc
reading_of polled new (Exception index code) None submits = tt
reading_of polled new (Exception index code) (Some submission) submits = absurd cc
reading_of polled new (Wrong index field) None submits = tt
reading_of polled new (Wrong index field) (Some submission) submits = absurd cc
reading_of polled new (LinkFault index) None submits = tt
reading_of polled new (LinkFault index) (Some submission) submits = absurd cc

-- polls and then others
pub record AreBoth (old new : PollerState) (polls others : List Poll) : Type 0 where
  pub middle : PollerState
  pub first : AreLinePolls old middle polls
  pub later : AreLinePolls middle new others

-- polls of a list are those of its two parts
pub split_polls : (old new : PollerState) (polls others : List Poll) → AreLinePolls old new (polls ++ others) → AreBoth old new polls others
unfolding AreLinePolls
split_polls old new [] others are = record { middle = old; first = refl; later = are }
split_polls old new (poll ∷ polls) others are =
    let rest = split_polls are.0 new polls others are.2 in
    record { middle = rest.middle; first = (are.0, are.1, rest.first); later = rest.later }

-- and back
pub join_polls : (old middle new : PollerState) (polls others : List Poll) → AreLinePolls old middle polls → AreLinePolls middle new others →
    AreLinePolls old new (polls ++ others)
unfolding AreLinePolls
join_polls old middle new [] others first later = subst (λ (state : PollerState). AreLinePolls state new others) first later
join_polls old middle new (poll ∷ polls) others first later = (first.0, first.1, join_polls first.0 middle new polls others first.2 later)

-- the first of polls is one
first_poll : (old new : PollerState) (poll : Poll) (polls : List Poll) → AreLinePolls old new (poll ∷ polls) → (next : PollerState) × IsLinePoll old next poll
unfolding AreLinePolls
first_poll old new poll polls are = (are.0, are.1)

-- each reading is one of its poll's
readings_of : (old new : PollerState) (polls : List Poll) → AreLinePolls old new polls →
    All (λ (poll : Poll). IfSome poll.submitted (λ submission. poll.answer ≡ Value (index_of poll.answer) submission.raw)) polls
unfolding AreLinePolls
readings_of old new [] are = All-nil (λ (poll : Poll). IfSome poll.submitted (λ submission. poll.answer ≡ Value (index_of poll.answer) submission.raw))
readings_of old new (poll ∷ polls) are =
    All-cons (λ (poll : Poll). IfSome poll.submitted (λ submission. poll.answer ≡ Value (index_of poll.answer) submission.raw)) poll polls
    (reading_of are.1.polled are.0 poll.answer poll.submitted are.1.submits) (readings_of are.0 new polls are.2)

-- a fresh poller remembers nothing
fresh_last : (map : LineMap) (index : ℕ) → index < length map.gauges → last_of (fresh map) index ≡ None
fresh_last map index inside = get_or-replicate (length map.gauges) index None None inside

-- of a poller that was fresh, the readings that are due are those by the last that was submitted
due_at : (map : LineMap) (middle new : PollerState) (before : List Poll) (poll : Poll) → AreLinePolls (fresh map) middle before → IsLinePoll middle new poll →
    (index : ℕ) (raw : Raw) → poll.answer ≡ Value index raw → (gauge : GaugeMap) → IsGaugeAt map index gauge →
    IsSome poll.submitted ↔ IsDue gauge (last_submitted index before) raw
due_at map middle new before poll are is index raw answer_is gauge its =
    let known = remembers (fresh map) middle before index (length-replicate (length map.gauges) None) are in
    let state = is.asked.state in
    let line : is.polled.line ≡ map = ap (λ (polled : PollerState). polled.line) state ∙ known.line in
    let last : last_of is.polled index ≡ last_submitted index before =
    ap (λ (polled : PollerState). last_of polled index) state ∙ known.last
    ∙ ap (λ (first : Option Raw). last_or first (filter_map (submitted_of index) before)) (fresh_last map index its.inside) in
    subst (λ (submitted : Option Raw). IsSome poll.submitted ↔ IsDue gauge submitted raw) last
    (due_of is.polled new index raw poll.submitted gauge (subst (λ (here : LineMap). IsGaugeAt here index gauge) (sym line) its)
    (subst (λ (answer : Polled). Submits is.polled new answer poll.submitted) answer_is is.submits))

-- what a line submits is what is due
pub submits_due : (map : LineMap) (new : PollerState) (polls : List Poll) → AreLinePolls (fresh map) new polls → SubmitsDue map polls
submits_due map new polls are = record {
  due = λ before poll after split index raw answer_is gauge its.
      let both = split_polls (fresh map) new before (poll ∷ after) (subst (AreLinePolls (fresh map) new) split are) in
      let one = first_poll both.middle new poll after both.later in
      due_at map both.middle one.0 before poll both.first one.1 index raw answer_is gauge its;
  readings = readings_of (fresh map) new polls are;
}
