-- Answers to the open goals of `dip_of`.
use Rattle.std.proofs.Common.{refl, rules, w64}
use Rattle.std.proofs.lemmas.Int.{to_z-of_z}
use Rattle.farm_http.specs.Requests.{dip_of}
use Rattle.farm_http.proofs.commands.dip_of.Goals as goal

pub returns-clause-value : goal.returns-clause-value
unfolding dip_of
returns-clause-value c =
    let ambient = to_z-of_z w64 c.in_ok-whole_at.field-0 (search rules) in
    rw (
      ambient,
      ← c.in_ok-tank_at.ensures.value,
      ← c.in_ok-text_at.ensures.value,
      ← c.in_ok-is_outage.ensures.value,
      ← c.in_ok-few_at.ensures.value,
      ← c.in_ok-few_at-2.ensures.value,
      ← c.in_ok-few_at-3.ensures.value,
      ← c.in_ok-whole_at.ensures.value,
    )
    refl
