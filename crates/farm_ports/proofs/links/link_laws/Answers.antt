-- Answers to the open goals of `link_laws`.
use Rattle.farm_ports.proofs.LinkCalls.{calls_add_up, no_call_adds_none}
use Rattle.farm_ports.proofs.links.link_laws.Goals as goal

pub returns-clause-calls_add_up : goal.returns-clause-calls_add_up
returns-clause-calls_add_up c = calls_add_up

pub returns-clause-no_call : goal.returns-clause-no_call
returns-clause-no_call c = no_call_adds_none
