-- The invariants of the loops of `is_out_of_range`.
use Rattle.std.proofs.Common.{◌≡◌, drop}
use Rattle.std.specs.List.{list_all}
use Rattle.farm_fixed.specs.Range.{is_within}
use Rattle.farm_book.proofs.field_rule.is_out_of_range.Given as goal

abbrev pub invariant-loop-number : goal.invariant-loop-number
invariant-loop-number g l =
    list_all (λ number. is_within g.U.Unit.LEAST g.U.Unit.MOST number) (drop l.number-index l.numbers)
    ≡ list_all (λ number. is_within g.U.Unit.LEAST g.U.Unit.MOST number) l.numbers
