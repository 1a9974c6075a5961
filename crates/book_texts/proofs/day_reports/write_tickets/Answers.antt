-- Answers to the open goals of `write_tickets`.
use Rattle.std.proofs.Common.{◌≡◌, ◌+◌, ap, get_or, if◌then◌else◌, ◌∙◌, rules, subst, arith}
use Rattle.farm_history.specs.Commands.{issues_ticket}
use Rattle.farm_history.specs.History.{History}
use Rattle.farm_history.specs.Tickets.{next_number}
use Rattle.text_pieces.proofs.Lengths.{begins_before}
use Rattle.day_balances.proofs.Points.{blank}
use Rattle.book_texts.proofs.Reports.{next_few, next_more, none_yet, tickets_more}
use Rattle.book_texts.proofs.day_reports.write_tickets.Goals as goal

pub loop-index-init : goal.loop-index-init
loop-index-init c =
    let history = c.args.past.now in
    record {
      from = omega arith;
      lines = none_yet history c.args.before c.args.out.now.items;
      number = c.next_number-number.ensures.number ∙ ap next_number c.first.ensures.first;
    }

pub returns-in_err-write_ticket : goal.returns-in_err-write_ticket
returns-in_err-write_ticket c =
    let before = begins_before c.args.out.now.items _ c.loop-index.out.items c.write_ticket.new.out.items c.loop-index.invariant.lines c.in_err-write_ticket.ensures.line.err in
    record { lines = record { ok = search rules; err = search (rules, before) } }

pub number_after-number-requires : goal.number_after-number-requires
number_after-number-requires c =
    let history = c.args.past.now in
    let few = next_few history c.loop-index.index (omega (arith, c.loop-index-test.true, c.requires.within)) in
    record { few = omega (arith, few, c.loop-index.invariant.number, c.loop-index-test.true, c.requires.within, c.requires.readable.few) }

pub loop-index-preserved : goal.loop-index-preserved
loop-index-preserved c =
    let history = c.args.past.now in
    let number = c.loop-index.number in
    let counted = subst (λ (history : History). c.number_after-number.result ≡ (if issues_ticket (get_or history.entries c.loop-index.index blank).cmd then number + 1 else number)) c.past.view_is c.number_after-number.ensures.next in
    record {
      from = omega (arith, c.loop-index.invariant.from);
      lines =
          tickets_more history c.args.before c.loop-index.index c.args.out.now.items c.loop-index.out.items c.write_ticket.new.out.items
          c.loop-index.invariant.from c.loop-index.invariant.lines c.in_ok-write_ticket.ensures.line.ok;
      number =
          next_more history c.loop-index.index number c.number_after-number.result blank (omega (arith, c.loop-index-test.true, c.requires.within))
          c.loop-index.invariant.number counted;
    }
