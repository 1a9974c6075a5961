-- The invariants of the loops of `rounds_to_even`.
use Rattle.std.proofs.Common.{◌≡◌, drop}
use Rattle.std.specs.List.{list_any}
use Rattle.farm_site.specs.Formats.{rounds_to_even}
use Rattle.farm_site.proofs.formats.rounds_to_even.Given as goal

-- the rows that are left decide
abbrev pub invariant-loop-index : goal.invariant-loop-index
invariant-loop-index l = list_any rounds_to_even (drop l.index l.rounding) ≡ list_any rounds_to_even l.rounding
