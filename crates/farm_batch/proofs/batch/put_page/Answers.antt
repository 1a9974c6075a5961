-- Answers to the open goals of `put_page`.
use Rattle.std.proofs.Common.{inl, inr, ℕ, List, ◌++◌, refl, sym, subst}
use Rattle.farm_http.specs.declared.page.Page.{Page}
use Rattle.farm_batch.specs.LineAnswers.{answer_text, disk_fault, out_of_memory}
use Rattle.farm_batch.specs.Puts.{PutsPrefix}
use Rattle.farm_batch.proofs.Puts.{failed_put}
use Rattle.farm_batch.proofs.StatusTexts.{disk_fault_text, out_of_memory_text}
use Rattle.farm_batch.proofs.batch.put_page.Goals as goal

pub returns-in_err-add-clause-puts : goal.returns-in_err-add-clause-puts
returns-in_err-add-clause-puts g c =
    let is = c.is_disk_fault.ensures.fault c.if-is_disk_fault.true in
    let put = c.in_err-add.ensures.puts in
    failed_put _ disk_fault _ _ _ _ _ _ c.from_residual.ensures.0 put.0 (inl (sym is))
    (subst (λ (text : List ℕ). PutsPrefix (g.K.Port.held c.args.output.now) (g.K.Port.held c.add.new.output) (c.args.waiting.now ++ text) put.1)
    (sym disk_fault_text) put.2)

pub returns-then-is_disk_fault-clause-puts : goal.returns-then-is_disk_fault-clause-puts
returns-then-is_disk_fault-clause-puts g c =
    let is = c.is_disk_fault.ensures.fault c.if-is_disk_fault.true in
    let Puts : List ℕ → Type 0 = λ text.
    PutsPrefix (g.K.Port.held c.args.output.now) (g.K.Port.held c.add.new.output) (c.args.waiting.now ++ text) c.add.new.self in
    subst (λ (page : Page). Puts (answer_text page)) (sym is) (subst Puts (sym disk_fault_text) c.in_ok-add.ensures.puts)

pub returns-in_err-add-in-Err-clause-puts : goal.returns-in_err-add-in-Err-clause-puts
returns-in_err-add-in-Err-clause-puts g c =
    let other = c.is_disk_fault.ensures.other c.if-is_disk_fault.false in
    let put = c.in_err-add-in-Err.ensures.puts in
    failed_put _ out_of_memory _ _ _ _ _ _ c.from_residual-in_err-add-in-Err.ensures.0 put.0 (inr (refl, other))
    (subst (λ (text : List ℕ). PutsPrefix (g.K.Port.held c.args.output.now) (g.K.Port.held c.add-in-Err.new.output) (c.args.waiting.now ++ text) put.1)
    (sym out_of_memory_text) put.2)

pub returns-in_ok-add-in-Err-clause-puts : goal.returns-in_ok-add-in-Err-clause-puts
returns-in_ok-add-in-Err-clause-puts g c = (
  c.is_disk_fault.ensures.other c.if-is_disk_fault.false,
  subst (λ (text : List ℕ). PutsPrefix (g.K.Port.held c.args.output.now) (g.K.Port.held c.add-in-Err.new.output) (c.args.waiting.now ++ text) c.add-in-Err.new.self)
      (sym out_of_memory_text) c.in_ok-add-in-Err.ensures.puts,
)
