-- Answers to the open goals of `close_turn`.
use Rattle.std.proofs.Common.{◌^◌, ◌<◌, rules}
use Rattle.desk_turns.proofs.Accounts.{accounts}
use Rattle.desk_turns.proofs.closing.close_turn.Goals as goal

pub returns-clause-accounts : goal.returns-clause-accounts
returns-clause-accounts g c =
    let fits : c.in-Ok.desk.failed < 2 ^ 64 = search rules in
    accounts c.args.turn c.args.passes.items c.in-Ok.desk c.in-Ok.ensures.closed c.requires.unused fits
