-- What opening_at says at its end, which has too many steps for the search.
use Rattle.std.proofs.Common.{refl, rules, w64}
use Rattle.std.proofs.lemmas.Int.{to_z-of_z}
use Rattle.site_toml.specs.Tanks.{opening_at}
use Rattle.site_toml.proofs.tanks.opening_at.Goals as goal

pub returns-clause-opening : goal.returns-clause-opening
unfolding opening_at
returns-clause-opening c =
    rw (
      to_z-of_z w64 c.in_ok-litres.litres (search rules),
      to_z-of_z w64 c.in_ok-kg.kg (search rules),
      ← c.in_ok-litres.ensures.stock,
      ← c.in_ok-kg.ensures.stock,
    ) refl
