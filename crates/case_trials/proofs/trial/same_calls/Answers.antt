-- Answers to the open goals of `same_calls`.
use Rattle.std.proofs.Common.{sym, subst}
use Rattle.std.specs.Prelude.{◌≡◌, map}
use Rattle.std.specs.Bool.{Decides}
use Rattle.case_trials.proofs.Calls.{links_decide}
use Rattle.case_trials.specs.Calls.{taken}
use Rattle.case_trials.proofs.trial.same_calls.Goals as goal

pub returns : goal.returns
returns c = record { same = subst (λ r. Decides r (map taken c.args.came.now ≡ map taken c.args.wanted.now)) (sym c.eq.ensures) (links_decide c.args.came.now c.args.wanted.now) }
