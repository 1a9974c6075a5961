-- The access of a caller that has taken no turn.
use Rattle.std.proofs.Common.{◌≡◌, inl, ◌∙◌, ℕ, ◌≤◌, false, List, length, take, drop, sym, ap, subst, arith}
use Rattle.std.proofs.Math.Seq.{drop-length}
use Rattle.std.proofs.lemmas.List.{length-take}
use Rattle.farm_history.specs.History.{History, last_place}
use Rattle.farm_history.specs.declared.entry.Entry.{Entry}
use Rattle.farm_turn.specs.Views.{PassView, TurnView}
use Rattle.farm_desk.specs.States.{Continues, DeskState, FoundState}
use Rattle.farm_desk.proofs.Continuing.{begins_with}
use Rattle.journaled_book.specs.Histories.{front_of}
use Rattle.desk_access.specs.Access.{has_stop}
use Rattle.desk_turns.specs.Turns.{IsNewPass, IsTurnAccess}

-- it stands as every access does
pub new_stands : {D : Type 0} (turn : TurnView (DeskState D)) (pass : PassView Entry (FoundState D)) (caller opened : ℕ) → IsNewPass turn pass caller →
    opened ≡ last_place turn.opening.history →
    IsTurnAccess (record { turn = turn; pass = pass; caller = caller; faulted = 0; stopped = false }) opened
new_stands turn pass caller opened new is =
    let history : History = turn.opening.history in
    let within : turn.opening.opened.entries ≤ last_place history = omega (arith, new.found) in
    let all : length (take turn.opening.opened.entries history.entries) ≡ length pass.known.seen =
    length-take turn.opening.opened.entries history.entries ∙ omega (arith, within, new.found, ap length new.seen) in
    record {
      of_this_turn = new.of_this_turn;
      enrolled = new.enrolled;
      begins =
          subst (λ (seen : List Entry). Continues (front_of history turn.opening.opened.entries) (record { site = history.site; entries = seen })) (sym new.seen)
          (begins_with history turn.opening.opened.entries within);
      looked_is = is ∙ ap length (sym new.seen);
      stopped_is = sym (ap has_stop (ap (λ (n : ℕ). drop n pass.known.seen) all ∙ drop-length pass.known.seen));
      tallied = inl (omega (arith, new.tally));
    }
