-- Answers to the open goals of `put`.
use Rattle.std.proofs.Common.{ℕ, List, take, ap, subst, ◌∙◌}
use Rattle.farm_ports.specs.Ports.{PutsAll}
use Rattle.farm_batch.proofs.Prefixes.{puts_all}
use Rattle.farm_batch.proofs.waiting.Waiting.put.Goals as goal

pub returns-clause-puts : goal.returns-clause-puts
returns-clause-puts g c =
    puts_all _ _ _ c.put_all.result
    (subst (λ (text : List ℕ). PutsAll (g.K.Port.held c.args.output.now) (g.K.Port.held c.put_all.new.sink) text c.put_all.result)
    (ap (λ bytes. take c.self.inside.length bytes) c.deref.ensures.value ∙ c.self.view_is) c.put_all.ensures.bytes)
