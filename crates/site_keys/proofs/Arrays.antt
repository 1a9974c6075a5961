-- The values of an array.
use Rattle.std.proofs.Common.{◌≡◌, List, [], ◌∷◌, refl, ap}
use Rattle.toml.specs.Data.{Data}
use Rattle.toml.specs.View.{items_of}
use Rattle.site_keys.specs.Keys.{values_of}

-- are those that it was made of
pub values_of-items_of : (values : List Data) → values_of (items_of values) ≡ values
values_of-items_of [] = refl
values_of-items_of (value ∷ values) = ap (λ others. value ∷ others) (values_of-items_of values)
