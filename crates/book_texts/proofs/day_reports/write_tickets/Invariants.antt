-- The invariants of the loops of `write_tickets`.
use Rattle.std.proofs.Common.{◌≡◌, ◌+◌, ◌-◌, ◌≤◌, ◌++◌}
use Rattle.farm_history.specs.History.{before}
use Rattle.farm_history.specs.Tickets.{next_number}
use Rattle.book_texts.specs.DayReports.{ticket_lines}
use Rattle.book_texts.proofs.day_reports.write_tickets.Given as goal

-- the lines of the tickets so far follow what the buffer held, and the next ticket has the number that was counted
abbrev pub invariant-loop-index : goal.invariant-loop-index
invariant-loop-index l = record {
  from : l.before ≤ l.index;
  lines : l.out.items ≡ l.fn.out.items ++ ticket_lines l.past l.before (l.index - l.before);
  number : l.number ≡ next_number (before l.past (l.index + 1));
}
