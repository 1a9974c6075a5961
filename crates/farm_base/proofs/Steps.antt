-- The first of two faults.
use Rattle.std.proofs.Common.{◌≡◌, Option, Some, None, refl}
use Rattle.farm_base.specs.Steps.{or_else}

-- nothing is the first of two where neither is there
pub or_else-none : {A : Type 0} (first second : Option A) → or_else first second ≡ None → (first ≡ None) × (second ≡ None)
or_else-none None second none = (refl, none)
or_else-none (Some found) second none = cc
