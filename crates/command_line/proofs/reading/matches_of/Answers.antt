-- Answers to the open goals of `matches_of`.
use Rattle.std.proofs.Common.{map}
use Rattle.clap.specs.Simple.{argument_words}
use Rattle.clap.specs.Takes.{built_takes}
use Rattle.clap.specs.Walk.{nothing_held}
use Rattle.clap.specs.Words.{app_of, built, is_simple}
use Rattle.farm_base.proofs.BoolTests.{and_parts}
use Rattle.command_line.proofs.reading.matches_of.Goals as goal

pub returns-in-Ok : goal.returns-in-Ok
returns-in-Ok c =
    let app = app_of c.args.command.now in
    let words = map (λ word. word.now) c.args.words.now in
    let simple = and_parts (is_simple app) (built_takes (built app) nothing_held (argument_words app words)) c.requires.taken in
    record { rows = (c.in-Ok.ensures.ok.2 simple.0).0 }
