-- Answers to the open goals of `places`.
use Rattle.std.proofs.Common.{Option, Some, None, ap, map, string_bytes, ◌∙◌}
use Rattle.std.specs.Prelude.{IfSome}
use Rattle.std.proofs.lemmas.Option.{IfSome_then}
use Rattle.command_line.specs.Commands.{file_of, folder_of}
use Rattle.command_line.proofs.Arguments.{journal_from_form, no_command, site_from_form}
use Rattle.command_line.proofs.named.places.Goals as goal

-- what follows from two things that hold of a value
both : {X : Type 0} (o : Option X) {P Q R : X → Type 0} → IfSome o P → IfSome o Q → ((x : X) → P x → Q x → R x) → IfSome o R
both None p q then = tt
both (Some x) p q then = then x p q

pub returns-clause-site_written : goal.returns-clause-site_written
returns-clause-site_written c =
    let words = map string_bytes c.args.words.now in
    IfSome_then c.read_places.result c.read_places.ensures.site (λ places is command options form. is ∙ site_from_form command options words form)

pub returns-clause-journal_written : goal.returns-clause-journal_written
returns-clause-journal_written c =
    let words = map string_bytes c.args.words.now in
    IfSome_then c.read_places.result c.read_places.ensures.journal (λ places is command options form. is ∙ journal_from_form command options words form)

pub returns-clause-no_form : goal.returns-clause-no_form
returns-clause-no_form c =
    let words = map string_bytes c.args.words.now in
    both c.read_places.result c.read_places.ensures.site c.read_places.ensures.journal (λ places site journal none.
    let is = no_command words none in
    (site ∙ ap (λ o. folder_of o words) is, journal ∙ ap (λ o. file_of o words) is))
