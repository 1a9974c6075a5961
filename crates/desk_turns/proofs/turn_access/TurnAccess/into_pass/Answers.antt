-- Answers to the open goals of `into_pass`.
use Rattle.std.proofs.Common.{ℕ, length, subst}
use Rattle.desk_turns.specs.Turns.{IsTurnAccess, TurnState}
use Rattle.desk_turns.proofs.turn_access.TurnAccess.into_pass.Goals as goal

pub returns-clause-stands : goal.returns-clause-stands
returns-clause-stands g c =
    let inside = c.self.inside in
    let old : TurnState _ = record { turn = inside.turn.now; pass = inside.pass; caller = inside.caller; faulted = inside.faulted; stopped = inside.stopped } in
    subst (λ (access : TurnState _). IsTurnAccess access (length access.pass.known.seen)) c.self.view_is
    (subst (λ (looked : ℕ). IsTurnAccess old looked) c.self.invariant.looked_is c.self.invariant)
