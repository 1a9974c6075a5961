-- Answers to the open goals of `places_of`.
use Rattle.std.proofs.Common.{ap, map, string_bytes, ◌∙◌}
use Rattle.std.proofs.lemmas.Result.{IfOk-weaker}
use Rattle.clap.specs.Words.{app_of}
use Rattle.command_line.proofs.ReadValues.{read_by_name}
use Rattle.command_line.proofs.named.places_of.Goals as goal

pub parsed_places-places-requires : goal.parsed_places-places-requires
parsed_places-places-requires c = record {
  taken = (read_by_name c.args.name (map string_bytes c.args.words.now) (app_of c.in_ok-command.command) (map (λ word. word.now) c.as_slice.result.now)
      c.requires.name c.in_ok-command.ensures.app (ap (map (λ word. word.now)) c.as_slice.ensures.value ∙ c.in_ok-spelled.ensures.words)).taken;
}

pub returns-clause-site : goal.returns-clause-site
returns-clause-site c = IfOk-weaker c.parsed_places-places.result _ _ (λ places is. is ∙ (read_by_name c.args.name (map string_bytes c.args.words.now) (app_of c.in_ok-command.command) (map (λ word. word.now) c.as_slice.result.now)
    c.requires.name c.in_ok-command.ensures.app (ap (map (λ word. word.now)) c.as_slice.ensures.value ∙ c.in_ok-spelled.ensures.words)).folder) c.parsed_places-places.ensures.site

pub returns-clause-journal : goal.returns-clause-journal
returns-clause-journal c = IfOk-weaker c.parsed_places-places.result _ _ (λ places is. is ∙ (read_by_name c.args.name (map string_bytes c.args.words.now) (app_of c.in_ok-command.command) (map (λ word. word.now) c.as_slice.result.now)
    c.requires.name c.in_ok-command.ensures.app (ap (map (λ word. word.now)) c.as_slice.ensures.value ∙ c.in_ok-spelled.ensures.words)).file) c.parsed_places-places.ensures.journal
