-- The invariants of the loops of `words_for`.
use Rattle.std.proofs.Common.{◌≡◌, ◌++◌, drop, map}
use Rattle.std.specs.Prelude.{string_bytes}
use Rattle.command_line.specs.Commands.{value_of}
use Rattle.command_line.specs.Reading.{option_words, words_for}
use Rattle.command_line.proofs.reading.words_for.Given as goal

abbrev pub invariant-loop-option : goal.invariant-loop-option
invariant-loop-option l =
    map (λ word. word.now) l.spelled.items ++ option_words (drop l.option-index l.option-items) (λ option. value_of option (map string_bytes l.words))
    ≡ words_for l.fn.name (λ option. value_of option (map string_bytes l.words))
