-- Answers to the open goals of `enter`.
use Rattle.std.proofs.Common.{rules, ◌∙◌, ap}
use Rattle.farm_history.specs.History.{History, with_entry}
use Rattle.farm_history.specs.Verdicts.{IsNext}
use Rattle.farm_book.proofs.book.Book.enter.Goals as goal

pub returns-in_ok-reserve-in-Ok-judged-clause-entered : goal.returns-in_ok-reserve-in-Ok-judged-clause-entered
returns-in_ok-reserve-in-Ok-judged-clause-entered g c =
    let next : IsNext g.row.LIMIT c.args.self.now.history c.in-Ok.entry = search rules in
    record {
      is_next = record { entry = c.in-Ok.entry; typed = c.in-Ok.ensures.typed; encoded = c.in-Ok.ensures.found.1; next = next };
      grown = c.take_in.ensures.entered ∙ ap (λ (history : History). with_entry history c.in-Ok.entry) c.reserve.ensures.history;
    }
