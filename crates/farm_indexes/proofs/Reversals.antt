-- Where a ticket is reversed, as entries come.
use Rattle.std.proofs.Common.{◌≡◌, ℕ, ◌+◌, ◌<◌, Bool, true, false, if◌then◌else◌, length, Option, Some, None, not, refl, ap, sym, ◌∙◌, subst, arith}
use Rattle.std.proofs.lemmas.Bool.{eqb-true, not-false}
use Rattle.farm_base.specs.Steps.{or_else}
use Rattle.farm_history.specs.declared.command.Command.{Command}
use Rattle.farm_history.specs.declared.command.Command.TheVariants.{Reverse}
use Rattle.farm_history.specs.declared.entry.Entry.{Entry}
use Rattle.farm_history.specs.declared.rule.Rule.TheVariants.{AlreadyReversed, UnknownTicket}
use Rattle.farm_history.specs.declared.verdict.Verdict.{Verdict}
use Rattle.farm_history.specs.declared.verdict.Verdict.TheVariants.{Accept}
use Rattle.farm_history.specs.Commands.{issues_ticket, reverses}
use Rattle.farm_history.specs.History.{History, entry_at, last_place, with_entry}
use Rattle.farm_history.specs.MovementRules.{is_closing, is_there, unknown_ticket}
use Rattle.farm_history.specs.Movements.{reversal_of}
use Rattle.farm_indexes.proofs.FirstPlaces.{first_from_more}
use Rattle.farm_history.specs.Places.{first_from}
use Rattle.farm_history.specs.Verdicts.{IsVerdict, verdict}
use Rattle.farm_history.proofs.Accepted.{kept, test_fails}
use Rattle.farm_history.proofs.FiguresStand.{there_of, within_of}
use Rattle.farm_history.proofs.Places.{found_place}
use Rattle.farm_history.proofs.Verdicts.{verdicts_mean}
use Rattle.farm_indexes.specs.Following.{MayFollow}

-- after one entry more a ticket is reversed at the same place, or else at that of the entry if it reverses the ticket
pub reversal_grows : (history : History) (entry : Entry) (ticket : ℕ) →
    reversal_of (with_entry history entry) ticket ≡
    or_else (reversal_of history ticket) (if reverses ticket entry.cmd then Some (last_place history + 1) else None)
unfolding reversal_of
reversal_grows history entry ticket =
    let holds : Entry → Bool = λ other. reverses ticket other.cmd in
    let counted : 1 + length history.entries ≡ last_place history + 1 = omega arith in
    first_from_more 1 holds history.entries entry
    ∙ ap (λ n. or_else (first_from 1 holds history.entries) (if holds entry then Some n else None)) counted

-- a command that reverses a ticket is a Reverse of it
pub reverse_is : (ticket : ℕ) (command : Command) → reverses ticket command ≡ true → command ≡ Reverse ticket
reverse_is ticket (Reverse named) test = ap {B = Command} Reverse (eqb-true named ticket test)
reverse_is ticket command test = cc

-- a command that tests as a Closing issues a ticket
closing_issues : (command : Command) → is_closing command ≡ true → issues_ticket command ≡ true
closing_issues command test = grind arith

-- an entry stands at the place of a ticket and issues it, and no entry reverses it
pub record IsReversible (history : History) (ticket : ℕ) : Type 0 where
  pub entry : Entry
  pub there : entry_at history ticket ≡ Some entry
  pub issues : issues_ticket entry.cmd ≡ true
  pub unreversed : reversal_of history ticket ≡ None

-- the ticket that an accepted Reverse names isn't reversed before it
unreversed : (limit : ℕ) (history : History) (entry : Entry) (ticket : ℕ) → verdict limit history entry ≡ Accept →
    entry.cmd ≡ Reverse ticket → reversal_of history ticket ≡ None
unfolding reversal_of
unreversed limit history entry ticket accepted given = by (reversal_of history ticket) refl
  where
    means : IsVerdict limit history entry Accept
    means = subst (λ (verdict : Verdict). IsVerdict limit history entry verdict) accepted (verdicts_mean limit history entry)

    by : (found : Option ℕ) → reversal_of history ticket ≡ found → reversal_of history ticket ≡ None
    by None is = is
    by (Some place) is = absurd (means.1 (AlreadyReversed place) (record {
      ticket = ticket;
      given = given;
      there = found_place (λ other. reverses ticket other.cmd) history.entries place is;
    }))

-- a ticket is so if an entry reverses it that may come next
pub reversible : (history : History) (entry : Entry) (ticket : ℕ) → MayFollow history entry → reverses ticket entry.cmd ≡ true →
    IsReversible history ticket
unfolding unknown_ticket
reversible history entry ticket follows test =
    let given = reverse_is ticket entry.cmd test in
    let accepted = follows.next.accepted in
    let known = (kept follows.limit history entry accepted).ticket in
    let here : unknown_ticket history (Reverse ticket) ≡ None = sym (ap (unknown_ticket history) given) ∙ known in
    let fails = test_fails (not (is_there is_closing (entry_at history ticket))) UnknownTicket here in
    let stands = there_of is_closing (entry_at history ticket) (not-false (is_there is_closing (entry_at history ticket)) fails) in
    record {
      entry = stands.entry;
      there = stands.there;
      issues = closing_issues stands.entry.cmd stands.passes;
      unreversed = unreversed follows.limit history entry ticket accepted given;
    }

-- an entry that may come next reverses no ticket beyond the history
pub reverses_earlier : (history : History) (entry : Entry) (ticket : ℕ) → MayFollow history entry → last_place history < ticket →
    reverses ticket entry.cmd ≡ false
reverses_earlier history entry ticket follows beyond = by (reverses ticket entry.cmd) refl
  where
    by : (b : Bool) → reverses ticket entry.cmd ≡ b → reverses ticket entry.cmd ≡ false
    by false is = is
    by true is =
        let known = reversible history entry ticket follows is in
        let within = within_of history ticket known.entry known.there in
        absurd (omega (arith, within, beyond))
