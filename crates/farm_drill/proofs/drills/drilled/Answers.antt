-- The recovered history is the one of the drill.
use Rattle.std.proofs.Common.{◌≡◌, ◌∙◌, IfOk, ap, subst}
use Rattle.book_texts.specs.Summaries.{IsSummary, summary_text}
use Rattle.farm_drill.specs.Commands.{drill_commands}
use Rattle.farm_drill.specs.Drills.{after_commands, drill_history}
use Rattle.farm_drill.proofs.Endings.{on_any}
use Rattle.farm_drill.proofs.drills.drilled.Goals as goal

pub returns-clause-summary : goal.returns-clause-summary
unfolding drill_history
returns-clause-summary g c =
    let same : c.book.result.now.history ≡ drill_history g.row.LIMIT c.args.seed c.args.count =
    c.book.ensures.history ∙ c.in_ok-desk-2.ensures.history ∙ c.in_default.ensures.history
    ∙ ap (λ history. after_commands g.row.LIMIT history 1 (drill_commands c.args.seed c.args.count)) c.in_ok-desk.ensures.history in
    subst (λ history. IfOk c.summary_of-text.result (λ text. text.items ≡ summary_text history)) same c.summary_of-text.ensures.text

pub returns-clause-looked_up : goal.returns-clause-looked_up
unfolding drill_history
returns-clause-looked_up g c =
    let same : c.book.result.now.history ≡ drill_history g.row.LIMIT c.args.seed c.args.count =
    c.book.ensures.history ∙ c.in_ok-desk-2.ensures.history ∙ c.in_default.ensures.history
    ∙ ap (λ history. after_commands g.row.LIMIT history 1 (drill_commands c.args.seed c.args.count)) c.in_ok-desk.ensures.history in
    on_any c.summary_of-text.result (subst (λ history. IsSummary history (summary_text history)) same c.summary_of-text.ensures.summary)
