-- The invariants of the loops of `have_values`.
use Rattle.std.proofs.Common.{◌≡◌, map, drop}
use Rattle.std.specs.Prelude.{string_bytes}
use Rattle.command_line.specs.Tests.{have_values}
use Rattle.command_line.proofs.command_names.have_values.Given as goal

abbrev pub invariant-loop-option : goal.invariant-loop-option
invariant-loop-option l = have_values (drop l.option-index l.options) (map string_bytes l.words) ≡ have_values l.options (map string_bytes l.words)
