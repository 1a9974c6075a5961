-- Answers to the open goals of `transfer_of`.
use Rattle.std.proofs.Common.{refl}
use Rattle.farm_http.specs.Requests.{transfer_of}
use Rattle.farm_http.proofs.commands.transfer_of.Goals as goal

pub returns-clause-value : goal.returns-clause-value
unfolding transfer_of
returns-clause-value c =
    rw (
      ← c.in_ok-from.ensures.value,
      ← c.in_ok-to.ensures.value,
      ← c.in_ok-from_gauged.ensures.value,
      ← c.in_ok-to_gauged.ensures.value,
    )
    refl
