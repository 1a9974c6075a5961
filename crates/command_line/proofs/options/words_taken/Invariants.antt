-- The invariants of the loops of `words_taken`.
use Rattle.std.proofs.Common.{◌≡◌, ◌*◌, ◌≤◌, map, drop}
use Rattle.std.specs.Prelude.{string_bytes}
use Rattle.command_line.specs.Names.{option_text}
use Rattle.command_line.specs.Options.{words_taken}
use Rattle.command_line.proofs.options.words_taken.Given as goal

abbrev pub invariant-loop-option : goal.invariant-loop-option
invariant-loop-option l = record {
  taken : words_taken l.taken (map option_text (drop l.option-index l.options)) (map string_bytes l.words) ≡ words_taken 0 (map option_text l.options) (map string_bytes l.words);
  few : l.taken ≤ 2 * l.option-index;
}
