-- Answers to the open goals of `issued`.
use Rattle.std.proofs.Common.{rules, ◌≡◌, ◌+◌}
use Rattle.farm_history.specs.History.{last_place}
use Rattle.farm_history.specs.Tickets.{issued_by}
use Rattle.farm_indexes.proofs.Issued.{ticket_there}
use Rattle.farm_indexes.proofs.indexes.Indexes.issued.Goals as goal

pub returns-clause-entered : goal.returns-clause-entered
returns-clause-entered c =
    let history = c.args.past.now in
    let issued : c.issued_on.result ≡ issued_by history (last_place history + 1) c.args.entry.now.cmd = search rules in
    ticket_there history c.args.entry.now c.issued_on.result issued
