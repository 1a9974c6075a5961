-- The invariants of the loops of `command_for`.
use Rattle.std.proofs.Common.{◌≡◌, drop}
use Rattle.clap.specs.Words.{app_of}
use Rattle.command_line.specs.Reading.{app_for, with_rules}
use Rattle.command_line.proofs.reading.command_for.Given as goal

abbrev pub invariant-loop-option : goal.invariant-loop-option
invariant-loop-option l = with_rules (app_of l.command) (drop l.option-index l.option-items) ≡ app_for l.fn.name
