-- Answers to the open goals of `print_usage`.
use Rattle.farm_run.specs.Texts.{usage_line}
use Rattle.run_reports.proofs.Printing.{says_last}
use Rattle.farm_run.proofs.alone.print_usage.Goals as goal

pub returns-clause-usage_run : goal.returns-clause-usage_run
returns-clause-usage_run g c = record { statuses = c.say.ensures.status; usage = says_last _ _ _ usage_line c.say.ensures.puts }
