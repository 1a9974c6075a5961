-- What is known of a folder, from one call to the next.
use Rattle.std.proofs.Common.{◌≡◌, Option, Some, None, ◌∙◌}
use Rattle.farm_base.specs.Known.{Stays}

-- what is known after a call was known before it
pub known_before : {A : Type 0} (old new : Option A) (files : A) → Stays old new → new ≡ Some files → old ≡ Some files
known_before old None files stays known = cc
known_before old (Some new) files stays known = stays ∙ known
