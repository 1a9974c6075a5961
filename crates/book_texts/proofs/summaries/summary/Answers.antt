-- Answers to the open goals of `summary`.
use Rattle.book_texts.proofs.SummaryLaws.{summary_answered}
use Rattle.book_texts.proofs.summaries.summary.Goals as goal

pub returns-then-is_err-clause-looked_up : goal.returns-then-is_err-clause-looked_up
returns-then-is_err-clause-looked_up g c = summary_answered c.args.book.now.history c.tanks_of-tanks.ensures.rising

pub returns-else-is_err-clause-looked_up : goal.returns-else-is_err-clause-looked_up
returns-else-is_err-clause-looked_up g c = summary_answered c.args.book.now.history c.tanks_of-tanks.ensures.rising
