-- In the words of the rule there is one verdict at most.
use Rattle.std.proofs.Common.{◌≡◌, inl, inr, ℕ, Bool, refl, ap, sym, ◌∙◌, subst, arith}
use Rattle.std.proofs.lemmas.Bool.{cases_order}
use Rattle.std.proofs.lemmas.List.Folds.{list_any_none}
use Rattle.farm_ticket.specs.Tickets.{Ticket}
use Rattle.farm_history.specs.declared.command.Command.{Command}
use Rattle.farm_history.specs.declared.entry.Entry.{Entry}
use Rattle.farm_history.specs.declared.rule.Rule.{Rule}
use Rattle.farm_history.specs.declared.rule.Rule.TheVariants.{KeyReused, OutOfRange, Tape, TankBusy, StaleReading, AlreadyReversed, Settled}
use Rattle.farm_history.specs.declared.verdict.Verdict.{Verdict}
use Rattle.farm_history.specs.declared.verdict.Verdict.TheVariants.{Repeat, Refused, Accept}
use Rattle.farm_history.specs.Breaking.{Breaks, HasFaultyTapes, IsSettled, IsSettledAfter, IsStale, ReversesSuch}
use Rattle.farm_history.specs.Commands.{reverses, tanks_needed}
use Rattle.farm_history.specs.Fields.{fields_of, is_out_of_range}
use Rattle.farm_history.specs.Figures.{named_by}
use Rattle.farm_history.specs.Gauging.{Gauging}
use Rattle.farm_history.specs.Given.{IsFirstSuch}
use Rattle.farm_history.specs.History.{History}
use Rattle.farm_history.specs.MovementRules.{settled_later, stale_for}
use Rattle.farm_history.specs.Movements.{IsHeldBy, holding_movement, last_settlement}
use Rattle.farm_history.specs.Places.{IsFirstPlace}
use Rattle.farm_history.specs.RuleTable.{rule_number, rule_value}
use Rattle.farm_history.specs.Rules.{is_repeat, has_same_key}
use Rattle.farm_history.specs.Tickets.{tanks_of_ticket}
use Rattle.farm_history.specs.Verdicts.{IsFirstBroken, IsVerdict}
use Rattle.farm_history.proofs.Given.{one_such}
use Rattle.farm_history.proofs.Holdings.{holdings_mean}
use Rattle.farm_history.proofs.OneRule.{numbered_so}
use Rattle.farm_history.proofs.Places.{no_place, one_place}
use Rattle.farm_history.proofs.StaleReadings.{stale_means}
use Rattle.farm_history.proofs.TicketRules.{settled_means}

-- tapes have one fault
one_fault : (history : History) (entry : Entry) (fault other : ℕ) →
    HasFaultyTapes history entry fault → HasFaultyTapes history entry other → fault ≡ other
one_fault history entry fault other first second =
    let here = first.of_command in
    let there = second.of_command in
    let same : first.gauging ≡ second.gauging = cc in
    let moved = ap (λ (g : Gauging). g.reading) same in
    let faulty = first.faulty in
    let again = second.faulty in
    cc

-- a command is the first Reverse of a ticket at a place
abbrev IsReversedAt : History → Command → ℕ → Type 0
IsReversedAt history command place = ReversesSuch command (λ ticket. IsFirstPlace (λ other. reverses ticket other.cmd) history.entries place)

-- a ticket is reversed at one place first
one_reversal : (history : History) (command : Command) (place other : ℕ) →
    IsReversedAt history command place → IsReversedAt history command other → place ≡ other
one_reversal history command place other first second =
    let here = first.given in
    let there = second.given in
    let same : second.ticket ≡ first.ticket = cc in
    one_place (λ entry. reverses first.ticket entry.cmd) history.entries place other first.there
    (subst (λ (ticket : ℕ). IsFirstPlace (λ entry. reverses ticket entry.cmd) history.entries other) same second.there)

-- a command reverses a ticket that no Reverse names, and of its tanks that were settled after it the first was settled at a place last
abbrev IsSettledAt : History → Command → ℕ → Type 0
IsSettledAt history command place = ReversesSuch command (IsSettled history place)

-- of the tanks of a ticket that were settled after it the first was settled at one place last
one_settlement : (history : History) (command : Command) (place other : ℕ) →
    IsSettledAt history command place → IsSettledAt history command other → place ≡ other
one_settlement history command place other first second =
    let here = first.given in
    let there = second.given in
    let same : second.ticket ≡ first.ticket = cc in
    let known = first.there in
    let again = subst (λ (ticket : ℕ). IsSettled history other ticket) same second.there in
    let closed = known.there in
    let closed_again = again.there in
    let one : again.closed ≡ known.closed = cc in
    one_such (λ tank. settled_later first.ticket (last_settlement history tank)) (IsSettledAfter history first.ticket)
    (settled_means history first.ticket) (tanks_of_ticket known.closed) place other known.settled
    (subst (λ (ticket : Ticket). IsFirstSuch (IsSettledAfter history first.ticket) (tanks_of_ticket ticket) other) one again.settled)

-- a ticket that a Reverse names isn't one that no Reverse names
one_of_both : (history : History) (command : Command) (place other : ℕ) → IsReversedAt history command place →
    ¬ (IsSettledAt history command other)
one_of_both history command place other reversed settled =
    let here = reversed.given in
    let there = settled.given in
    let same : settled.ticket ≡ reversed.ticket = cc in
    let none = (subst (λ (ticket : ℕ). IsSettled history other ticket) same settled.there).not_reversed in
    let reverses_it : Entry → Bool = λ entry. reverses reversed.ticket entry.cmd in
    no_place reverses_it history.entries place (list_any_none reverses_it history.entries none) reversed.there

-- a ticket that was reversed breaks no other rule of number 21
one_reversed : (limit : ℕ) (history : History) (entry : Entry) (place : ℕ) (rule : Rule) → IsReversedAt history entry.cmd place →
    Breaks limit history entry rule → rule_number rule ≡ 21 → AlreadyReversed place ≡ rule
one_reversed limit history entry place (AlreadyReversed other) here there same =
    ap {B = Rule} AlreadyReversed (one_reversal history entry.cmd place other here there)
one_reversed limit history entry place (Settled other) here there same = absurd (one_of_both history entry.cmd place other here there)
one_reversed limit history entry place rule here there same = absurd (omega arith)

-- a ticket of which a tank was settled after it breaks no other rule of number 21
one_settled : (limit : ℕ) (history : History) (entry : Entry) (place : ℕ) (rule : Rule) → IsSettledAt history entry.cmd place →
    Breaks limit history entry rule → rule_number rule ≡ 21 → Settled place ≡ rule
one_settled limit history entry place (AlreadyReversed other) here there same = absurd (one_of_both history entry.cmd other place there here)
one_settled limit history entry place (Settled other) here there same =
    ap {B = Rule} Settled (one_settlement history entry.cmd place other here there)
one_settled limit history entry place rule here there same = absurd (omega arith)

-- of one number at most one rule is broken
one_rule : (limit : ℕ) (history : History) (entry : Entry) (first second : Rule) →
    Breaks limit history entry first → Breaks limit history entry second → rule_number first ≡ rule_number second → first ≡ second
one_rule limit history entry (KeyReused place) second here there same =
    let is : KeyReused (rule_value second) ≡ second = numbered_so 1 second (sym same) (omega arith) in
    let again = subst (Breaks limit history entry) (sym is) there in
    ap {B = Rule} KeyReused (one_place (has_same_key entry) history.entries place (rule_value second) here again) ∙ is
one_rule limit history entry (OutOfRange field) second here there same =
    let is : OutOfRange (rule_value second) ≡ second = numbered_so 5 second (sym same) (omega arith) in
    let again = subst (Breaks limit history entry) (sym is) there in
    ap {B = Rule} OutOfRange (one_place is_out_of_range (fields_of entry.cmd) field (rule_value second) here again) ∙ is
one_rule limit history entry (Tape fault) second here there same =
    let is : Tape (rule_value second) ≡ second = numbered_so 6 second (sym same) (omega arith) in
    let again = subst (Breaks limit history entry) (sym is) there in
    ap {B = Rule} Tape (one_fault history entry fault (rule_value second) here again) ∙ is
one_rule limit history entry (TankBusy place) second here there same =
    let is : TankBusy (rule_value second) ≡ second = numbered_so 11 second (sym same) (omega arith) in
    let again = subst (Breaks limit history entry) (sym is) there in
    ap {B = Rule} TankBusy
    (one_such (holding_movement history) (IsHeldBy history) (holdings_mean history) (tanks_needed entry.cmd) place (rule_value second) here again)
    ∙ is
one_rule limit history entry (StaleReading place) second here there same =
    let is : StaleReading (rule_value second) ≡ second = numbered_so 15 second (sym same) (omega arith) in
    let again = subst (Breaks limit history entry) (sym is) there in
    ap {B = Rule} StaleReading
    (one_such (stale_for history entry.cmd) (IsStale history entry.cmd) (stale_means history entry.cmd) (named_by history entry.cmd) place (rule_value second)
    here again)
    ∙ is
one_rule limit history entry (AlreadyReversed place) second here there same = one_reversed limit history entry place second here there (sym same)
one_rule limit history entry (Settled place) second here there same = one_settled limit history entry place second here there (sym same)
one_rule limit history entry first second here there same = numbered_so (rule_number first) second (sym same) (omega arith)

-- the first broken rule is one
one_first : (limit : ℕ) (history : History) (entry : Entry) (first second : Rule) →
    IsFirstBroken limit history entry first → IsFirstBroken limit history entry second → first ≡ second
one_first limit history entry first second here there = elim (cases_order (rule_number first) (rule_number second)) [
  | inl same ↦ one_rule limit history entry first second here.broken there.broken same
  | inr other ↦ elim other [
    | inl l ↦ absurd (there.before first l here.broken)
    | inr l ↦ absurd (here.before second l there.broken)
  ]
]

-- in the words of the rule there is one verdict at most
pub verdicts_are_one : (limit : ℕ) (history : History) (entry : Entry) (first second : Verdict) →
    IsVerdict limit history entry first → IsVerdict limit history entry second → first ≡ second
verdicts_are_one limit history entry (Repeat place) (Repeat other) here there =
    ap {B = Verdict} Repeat (one_place (is_repeat entry) history.entries place other here there)
verdicts_are_one limit history entry (Repeat place) (Refused rule) here there = absurd (no_place (is_repeat entry) history.entries place there.0 here)
verdicts_are_one limit history entry (Repeat place) Accept here there = absurd (no_place (is_repeat entry) history.entries place there.0 here)
verdicts_are_one limit history entry (Refused rule) (Repeat place) here there = absurd (no_place (is_repeat entry) history.entries place here.0 there)
verdicts_are_one limit history entry (Refused rule) (Refused other) here there =
    ap {B = Verdict} Refused (one_first limit history entry rule other here.1 there.1)
verdicts_are_one limit history entry (Refused rule) Accept here there = absurd (there.1 rule here.1.broken)
verdicts_are_one limit history entry Accept (Repeat place) here there = absurd (no_place (is_repeat entry) history.entries place here.0 there)
verdicts_are_one limit history entry Accept (Refused rule) here there = absurd (here.1 rule there.1.broken)
verdicts_are_one limit history entry Accept Accept here there = refl
