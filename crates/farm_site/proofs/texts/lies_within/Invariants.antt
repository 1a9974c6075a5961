-- The invariants of the loops of `lies_within`.
use Rattle.std.proofs.Common.{◌≡◌, drop}
use Rattle.std.specs.List.{list_all}
use Rattle.farm_fixed.specs.Range.{is_between}
use Rattle.farm_site.proofs.texts.lies_within.Given as goal

abbrev pub invariant-loop-byte : goal.invariant-loop-byte
invariant-loop-byte l = list_all (is_between l.least l.most) (drop l.byte-index l.text) ≡ list_all (is_between l.least l.most) l.text
