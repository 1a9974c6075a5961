-- Answers to the open goals of `recovery_laws`.
use Rattle.farm_recovery.proofs.NotRefused.{recovered_is_not_refused}
use Rattle.farm_recovery.proofs.OneHistory.{one_history}
use Rattle.farm_recovery.proofs.laws.recovery_laws.Goals as goal

pub returns-clause-one_history : goal.returns-clause-one_history
returns-clause-one_history c =
    let all = c.decoding_laws.ensures in
    one_history (record { heads = all.heads; products = all.products; parties = all.parties; tanks = all.tanks; lines = all.lines })

pub returns-clause-recovered_is_not_refused : goal.returns-clause-recovered_is_not_refused
returns-clause-recovered_is_not_refused c =
    let all = c.decoding_laws.ensures in
    recovered_is_not_refused (record { heads = all.heads; products = all.products; parties = all.parties; tanks = all.tanks; lines = all.lines })
