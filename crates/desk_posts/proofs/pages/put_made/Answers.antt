-- Answers to the open goals of `put_made`.
use Rattle.std.proofs.Common.{◌∙◌, inl, inr, ℕ, List, ◌++◌, refl, ap, subst}
use Rattle.farm_ports.specs.Ports.{PutsAll}
use Rattle.http_pages.specs.Pages.{page_text}
use Rattle.desk_posts.specs.Exchanges.{out_of_memory}
use Rattle.desk_posts.proofs.pages.put_made.Goals as goal

pub returns-in-Ok-clause-shows : goal.returns-in-Ok-clause-shows
returns-in-Ok-clause-shows g c = record {
  page = c.args.answer.now;
  shown = inl refl;
  put = subst (λ (text : List ℕ). PutsAll (g.K.Port.held c.args.sink.now) (g.K.Port.held c.put_all.new.sink) text c.put_all.result)
      (c.deref.ensures.value ∙ c.in-Ok.ensures.appended.ok
      ∙ ap (λ (before : List ℕ). before ++ page_text c.args.answer.now c.args.last) c.clear.ensures.items)
      c.put_all.ensures.bytes;
}

pub returns-in-Err-clause-shows : goal.returns-in-Err-clause-shows
returns-in-Err-clause-shows g c = record {
  page = out_of_memory;
  shown = inr (refl, c.requires.no_fault);
  put = subst (λ (text : List ℕ). PutsAll (g.K.Port.held c.args.sink.now) (g.K.Port.held c.put_all-in-Err.new.sink) text c.put_all-in-Err.result)
      c.out_of_memory_page.ensures.page c.put_all-in-Err.ensures.bytes;
}
