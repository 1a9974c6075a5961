-- The invariants of the loops of `digit_run`.
use Rattle.std.proofs.Common.{◌≡◌, ◌^◌, ◌≤◌, min, take}
use Rattle.std.specs.Char.{IsAsciiDigit}
use Rattle.std.specs.List.{AllByRecursion}
use Rattle.std.specs.Str.Parse.{digits_value_after}
use Rattle.farm_fixed.proofs.parsing.digit_run.Given as goal

-- the bytes so far are digits, and the value is that of them
abbrev pub invariant-loop-count : goal.invariant-loop-count
invariant-loop-count l = record {
  small : l.value ≤ 10 ^ 18;
  digits : AllByRecursion IsAsciiDigit (take l.count l.text);
  same : l.value ≡ min (digits_value_after 10 l.before (take l.count l.text)) (10 ^ 18);
}
