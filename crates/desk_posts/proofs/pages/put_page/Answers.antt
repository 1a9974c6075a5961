-- Answers to the open goals of `put_page`.
use Rattle.std.proofs.Common.{inl, ℕ, List, refl, subst}
use Rattle.farm_ports.specs.Ports.{PutsAll}
use Rattle.desk_posts.proofs.pages.put_page.Goals as goal

pub returns-in-Some-clause-shows : goal.returns-in-Some-clause-shows
returns-in-Some-clause-shows g c = record {
  page = c.args.answer.now;
  shown = inl refl;
  put = subst (λ (text : List ℕ). PutsAll (g.K.Port.held c.args.sink.now) (g.K.Port.held c.put_all.new.sink) text c.put_all.result)
      c.in-Some.ensures.page c.put_all.ensures.bytes;
}
