-- Answers to the open goals of `put_settle`.
use Rattle.farm_history.specs.Encoding.{command_bytes}
use Rattle.farm_history.proofs.Joined.{two_joined}
use Rattle.farm_history.proofs.encoding.put_settle.Goals as goal

pub returns-clause-settle : goal.returns-clause-settle
unfolding command_bytes
returns-clause-settle c = two_joined c.args.out.now _ _ _ _ c.put_tank.ensures.tank c.put_gauged.ensures.gauged
