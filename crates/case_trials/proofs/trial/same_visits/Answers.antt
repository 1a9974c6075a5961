-- Answers to the open goals of `same_visits`.
use Rattle.std.proofs.Common.{sym, subst}
use Rattle.std.specs.Prelude.{◌≡◌, map}
use Rattle.std.specs.Bool.{Decides}
use Rattle.case_trials.proofs.Visits.{visits_decide}
use Rattle.case_trials.specs.Visits.{seen}
use Rattle.case_trials.proofs.trial.same_visits.Goals as goal

pub returns : goal.returns
returns c = record { same = subst (λ r. Decides r (map seen c.args.came.now ≡ map seen c.args.wanted.now)) (sym c.eq.ensures) (visits_decide c.args.came.now c.args.wanted.now) }
