-- Answers to the open goals of `put_closing`.
use Rattle.farm_history.specs.Encoding.{command_bytes}
use Rattle.farm_history.proofs.Joined.{three_joined}
use Rattle.farm_history.proofs.encoding.put_closing.Goals as goal

pub returns-clause-closing : goal.returns-clause-closing
unfolding command_bytes
returns-clause-closing c = three_joined c.args.out.now _ _ _ _ _ _ c.put_place.ensures.place c.put_gauged.ensures.gauged c.put_second.ensures.second
