-- Answers to the open goals of `of_words`.
use Rattle.std.proofs.Common.{map, sym, string_bytes, ◌∙◌}
use Rattle.command_line.proofs.ReadValues.{alone_of_name}
use Rattle.command_line.proofs.Testing.{form_of_name, name_is, name_of_form, none_of_name, serve_of_name}
use Rattle.command_line.proofs.command_names.CommandName.of_words.Goals as goal

pub returns-clause-name : goal.returns-clause-name
returns-clause-name c = c.among.ensures.name ∙ name_is (map string_bytes c.args.words.now)

pub returns-clause-form : goal.returns-clause-form
returns-clause-form c =
    let words = map string_bytes c.args.words.now in
    form_of_name words c.among.result (c.among.ensures.name ∙ name_is words)

pub returns-clause-every_form : goal.returns-clause-every_form
returns-clause-every_form c command options form =
    let words = map string_bytes c.args.words.now in
    c.among.ensures.name ∙ name_is words ∙ name_of_form words command options form

pub returns-clause-serve : goal.returns-clause-serve
returns-clause-serve c =
    let words = map string_bytes c.args.words.now in
    serve_of_name words c.among.result (c.among.ensures.name ∙ name_is words)

pub returns-clause-none : goal.returns-clause-none
returns-clause-none c none =
    let words = map string_bytes c.args.words.now in
    none_of_name words (sym none ∙ c.among.ensures.name ∙ name_is words)

pub returns-clause-alone : goal.returns-clause-alone
returns-clause-alone c command without named =
    let words = map string_bytes c.args.words.now in
    alone_of_name words command without (sym (c.among.ensures.name ∙ name_is words) ∙ named)
