-- Answers to the open goals of `answer`.
use Rattle.std.proofs.Common.{◌≡◌, List, ℕ, ℤ, None, Some, Bor, refl, sym, ap, subst, ◌∙◌, option_map, rules}
use Rattle.std.specs.Int.{w64}
use Rattle.std.proofs.lemmas.Int.{to_z-of_z}
use Rattle.batch_lines.specs.Reader.{kept}
use Rattle.farm_batch.specs.LineAnswers.{MeetsLine, answer_to}
use Rattle.farm_batch.proofs.Meant.{answered_as, answered_too_long, asks_something, meets, meets_same}
use Rattle.farm_batch.proofs.answers.answer.Goals as goal

pub returns-in_default-clause-meant : goal.returns-in_default-clause-meant
returns-in_default-clause-meant g c = λ bytes kept_is.
    let nothing : kept bytes ≡ None = sym kept_is ∙ ap (option_map (λ (text : Bor (List ℕ)). text.now)) c.in_default.is in
    let said = c.status.ensures in
    meets_same bytes _ _ _ _ _ _ (answered_too_long g.row.LIMIT c.args.desk.now.history c.args.now bytes nothing)
    (meets bytes _ _ _ _ _ (record { page_is = said.page; history_is = refl; stops_is = said.goes_on }))

pub returns-in-Ask-clause-meant : goal.returns-in-Ask-clause-meant
returns-in-Ask-clause-meant g c = λ bytes kept_is.
    let whole : kept bytes ≡ Some c.in-Some.bytes.now = sym kept_is ∙ ap (option_map (λ (text : Bor (List ℕ)). text.now)) c.in-Some.is in
    let asks = asks_something bytes c.in-Some.bytes.now c.in-Ask.ask whole c.in-Ask.ensures.read in
    let meant = subst (λ (now : ℤ). MeetsLine bytes c.args.desk.now.history c.answer_ask.new.desk.history
    (answer_to g.row.LIMIT c.args.desk.now.history now (Some c.in-Ask.ask)) c.answer_ask.result.page c.answer_ask.result.stops)
    (to_z-of_z w64 c.args.now (search rules)) (c.answer_ask.ensures.meant bytes asks) in
    meets_same bytes _ _ _ _ _ _ (answered_as g.row.LIMIT c.args.desk.now.history c.args.now bytes _ _ whole c.in-Ask.ensures.read) meant

pub returns-in-Bad-clause-meant : goal.returns-in-Bad-clause-meant
returns-in-Bad-clause-meant g c = λ bytes kept_is.
    let whole : kept bytes ≡ Some c.in-Some.bytes.now = sym kept_is ∙ ap (option_map (λ (text : Bor (List ℕ)). text.now)) c.in-Some.is in
    let said = c.status-in-Bad.ensures in
    meets_same bytes _ _ _ _ _ _ (answered_as g.row.LIMIT c.args.desk.now.history c.args.now bytes _ _ whole c.in-Bad.ensures.read)
    (meets bytes _ _ _ _ _ (record { page_is = said.page; history_is = refl; stops_is = said.goes_on }))
