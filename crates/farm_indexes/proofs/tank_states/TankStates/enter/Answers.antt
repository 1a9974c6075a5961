-- Answers to the open goals of `enter`.
use Rattle.std.proofs.Common.{◌≡◌, ◌∙◌, ◌++◌, ap, drop, length, map, set, subst, sym, take}
use Rattle.std.proofs.Math.Seq.{take-append_seam}
use Rattle.farm_history.specs.History.{with_entry}
use Rattle.farm_indexes.specs.TankStates.{AreStatesOf, no_state, state_after}
use Rattle.farm_indexes.proofs.States.{states_more, taken_all, taken_more}
use Rattle.farm_indexes.proofs.StatesStay.{unconcerned_at}
use Rattle.farm_indexes.proofs.tank_states.TankStates.enter.Goals as goal
use Rattle.farm_indexes.proofs.tank_states.TankStates.enter.Goals.{then-concerns, else-concerns}

pub loop-state-preserved : goal.loop-state-preserved
loop-state-preserved c =
    let past = c.args.past.now in
    let entry = c.args.entry.now in
    let states = c.loop-state.state-items in
    let index = c.loop-state.state-index in
    let begun = c.deref_mut-state-items in
    let are = subst (AreStatesOf past) (sym (begun.ensures.value ∙ c.self.view_is)) c.requires.states in
    let more = taken_more past entry begun.result.now states c.if-concerns.state-items index (no_state 0) c.loop-state-test.true
    c.loop-state.auto.state-items c.loop-state.invariant in
    elim c.if-concerns.branch [
      | then-concerns w ↦ more (w.state-items-is ∙ ap (set states index) w.state_after.ensures.state)
      | else-concerns w ↦
          more (w.state-items-is ∙ ap (set states index)
          (sym (unconcerned_at past entry begun.result.now states index (no_state 0) c.requires.follows are c.loop-state-test.true
          c.loop-state.invariant (sym c.concerns.ensures.concerns ∙ w.if-concerns.false))))
    ]

pub returns : goal.returns
returns c =
    let past = c.args.past.now in
    let entry = c.args.entry.now in
    let whole = c.self.inside.states.items in
    let states = c.loop-state.state-items in
    let begun = c.deref_mut-state-items in
    let counted : c.self.inside.states.len ≡ length states = sym begun.ensures.len ∙ sym c.loop-state.auto.state-items in
    let kept = ap (λ n. take n (states ++ drop (length states) whole)) counted ∙ take-append_seam states (drop (length states) whole) in
    let taken = taken_all past entry begun.result.now states c.loop-state.state-index c.loop-state-test.false c.loop-state.invariant in
    let is = kept ∙ taken ∙ ap (map (state_after past entry)) (begun.ensures.value ∙ c.self.view_is) in
    record {
      states = subst (AreStatesOf (with_entry past entry)) (sym is)
          (states_more past entry c.args.self.now c.requires.follows c.requires.states);
    }
