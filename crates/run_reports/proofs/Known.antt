-- What holds of what is known.
use Rattle.std.proofs.Common.{Option, Some, None}
use Rattle.farm_base.specs.Known.{WhereKnown}

-- what holds of any input holds of one that is known
pub where_known : {I : Type 0} (input : Option I) (P : I → Type 0) → ((known : I) → P known) → WhereKnown input P
where_known None P holds = tt
where_known (Some known) P holds = holds known

-- what is known has what follows from it
pub known_map : {I : Type 0} (input : Option I) (P Q : I → Type 0) → ((known : I) → P known → Q known) → WhereKnown input P → WhereKnown input Q
known_map None P Q follows holds = tt
known_map (Some known) P Q follows holds = follows known holds
