-- Answers to the open goals of `gauge_of`.
use Rattle.std.proofs.Common.{refl, rules, w64}
use Rattle.std.proofs.lemmas.Int.{to_z-of_z}
use Rattle.farm_http.specs.Requests.{gauge_of}
use Rattle.farm_http.proofs.commands.gauge_of.Goals as goal

pub returns-clause-value : goal.returns-clause-value
unfolding gauge_of
returns-clause-value c =
    let level = to_z-of_z w64 c.in_ok-whole_at.field-0 (search rules) in
    let water = to_z-of_z w64 c.in_ok-whole_at-2.field-0 (search rules) in
    let temperature = to_z-of_z w64 c.in_ok-whole_at-3.field-0 (search rules) in
    let ambient = to_z-of_z w64 c.in_ok-whole_at-4.field-0 (search rules) in
    rw (
      level,
      water,
      temperature,
      ambient,
      ← c.in_ok-tank_at.ensures.value,
      ← c.in_ok-whole_at.ensures.value,
      ← c.in_ok-whole_at-2.ensures.value,
      ← c.in_ok-whole_at-3.ensures.value,
      ← c.in_ok-whole_at-4.ensures.value,
    )
    refl
