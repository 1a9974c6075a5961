-- The invariants of the loops of `option_in`.
use Rattle.std.proofs.Common.{◌≡◌, map, drop}
use Rattle.std.specs.Prelude.{string_bytes}
use Rattle.command_line.specs.Options.{option_in}
use Rattle.command_line.proofs.options.option_in.Given as goal

abbrev pub invariant-loop-index : goal.invariant-loop-index
invariant-loop-index l = option_in l.name (map string_bytes (drop l.index l.words)) ≡ option_in l.name (map string_bytes l.words)
