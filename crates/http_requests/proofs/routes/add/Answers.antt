-- Answers to the open goals of `add`.
use Rattle.std.proofs.Common.{◌≡◌, OnOk, subst, sym}
use Rattle.http_requests.specs.Routes.{with_route}
use Rattle.http_requests.proofs.Adding.{inserted}
use Rattle.http_requests.proofs.routes.add.Goals as goal
use Rattle.http_requests.proofs.routes.add.Goals.{in-Ok, in-Err}

pub returns : goal.returns
unfolding with_route
returns c = elim c.match-insert.branch [
  | in-Ok w ↦
      subst (λ answer. OnOk answer (c.insert.new.self ≡ with_route c.args.text.now c.args.route c.args.router.now)) (sym w.result-is)
      (inserted _ c.args.route c.args.router.now c.insert.new.self w.in-Ok.field-0 w.in-Ok.ensures)
  | in-Err w ↦
      subst (λ answer. OnOk answer (c.insert.new.self ≡ with_route c.args.text.now c.args.route c.args.router.now)) (sym w.result-is) tt
]
