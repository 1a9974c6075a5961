-- Answers to the open goals of `with_values`.
use Rattle.std.proofs.Common.{ap, map, string_bytes, sym, ◌∙◌}
use Rattle.std.proofs.lemmas.Result.{IfOk-weaker}
use Rattle.clap.specs.Words.{app_of}
use Rattle.command_line.proofs.ReadValues.{read_by_name}
use Rattle.command_line.proofs.commands.Subcommand.with_values.Goals as goal

pub parsed-read-requires-clause-taken : goal.parsed-read-requires-clause-taken
parsed-read-requires-clause-taken c = (read_by_name c.args.name (map string_bytes c.args.words.now) (app_of c.in_ok-command.command) (map (λ word. word.now) c.as_slice.result.now)
    c.requires.name c.in_ok-command.ensures.app (ap (map (λ word. word.now)) c.as_slice.ensures.value ∙ c.in_ok-spelled.ensures.words)).taken

pub parsed-read-requires-clause-values : goal.parsed-read-requires-clause-values
parsed-read-requires-clause-values c = (read_by_name c.args.name (map string_bytes c.args.words.now) (app_of c.in_ok-command.command) (map (λ word. word.now) c.as_slice.result.now)
    c.requires.name c.in_ok-command.ensures.app (ap (map (λ word. word.now)) c.as_slice.ensures.value ∙ c.in_ok-spelled.ensures.words)).some

pub returns : goal.returns
returns c = record {
  command = IfOk-weaker c.parsed-read.result _ _ (λ command is. sym (read_by_name c.args.name (map string_bytes c.args.words.now) (app_of c.in_ok-command.command) (map (λ word. word.now) c.as_slice.result.now)
      c.requires.name c.in_ok-command.ensures.app (ap (map (λ word. word.now)) c.as_slice.ensures.value ∙ c.in_ok-spelled.ensures.words)).command ∙ is) c.parsed-read.ensures.command;
}
