-- Answers to the open goals of `listener_laws`.
use Rattle.farm_listeners.proofs.Events.{events_add_up, no_call_adds_none}
use Rattle.farm_listeners.proofs.listeners.listener_laws.Goals as goal

pub returns-clause-events_add_up : goal.returns-clause-events_add_up
returns-clause-events_add_up c = events_add_up

pub returns-clause-no_call : goal.returns-clause-no_call
returns-clause-no_call c = no_call_adds_none
