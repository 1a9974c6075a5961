-- Answers to the open goals of `page`.
use Rattle.std.proofs.Common.{◌≡◌, ℕ, ◌<◌, ◌^◌, List, ◌++◌, length, ap, subst, ◌∙◌, arith}
use Rattle.farm_base.specs.Appended.{Appends}
use Rattle.farm_base.specs.declared.memory.NoMemory.{NoMemory}
use Rattle.farm_http.specs.PageTexts.{body_text}
use Rattle.http_pages.specs.Pages.{page_text}
use Rattle.http_pages.proofs.Whole.{appended_whole}
use Rattle.http_pages.proofs.writing.page.Goals as goal

pub returns-clause-whole : goal.returns-clause-whole
returns-clause-whole c =
    let page = c.args.answer.now in
    let content = c.deref.ensures.value ∙ c.in_ok-body.ensures.appended.ok ∙ ap (λ (t : List ℕ). t ++ body_text page) c.new-content.ensures.items in
    let size : length c.deref.result.now ≡ length (body_text page) = ap (λ (t : List ℕ). length t) content in
    let small : length (body_text page) < 2 ^ 64 = omega (arith, size, c.deref.ensures.len, c.len.ensures, c.len.type_inv) in
    let appends =
    subst (λ (held : List ℕ). Appends {T = Unit {0}} {E = NoMemory} held c.append_page.new.out.items (page_text page c.args.last) c.append_page.result)
    c.in_ok-reserve.ensures.items c.append_page.ensures.appended in
    appended_whole page c.args.last c.args.out.now.items c.append_page.new.out.items c.append_page.result c.requires.answer small appends
