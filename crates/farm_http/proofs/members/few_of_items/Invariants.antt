-- The invariants of the loops of `few_of_items`.
use Rattle.std.proofs.Common.{map}
use Rattle.serde_json.specs.View.{view}
use Rattle.farm_http.proofs.ShortLists.{IsFilled}
use Rattle.farm_http.proofs.members.few_of_items.Given as goal

-- the numbers of the items so far stand in front of zeros
abbrev pub invariant-loop-index : goal.invariant-loop-index
invariant-loop-index l = IsFilled (map view l.items) l.index l.values
