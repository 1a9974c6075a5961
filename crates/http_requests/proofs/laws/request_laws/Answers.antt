-- Answers to the open goals of `request_laws`.
use Rattle.http_requests.proofs.Answering.{asked_is_first}
use Rattle.http_requests.proofs.Naming.{paths_name}
use Rattle.http_requests.proofs.laws.request_laws.Goals as goal

pub returns-clause-paths : goal.returns-clause-paths
returns-clause-paths c = paths_name

pub returns-clause-first : goal.returns-clause-first
returns-clause-first c = asked_is_first
