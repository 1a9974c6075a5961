-- A post that ran, by turns of its pass.
use Rattle.std.proofs.Common.{◌≡◌, ◌∙◌, ℕ, false, length, Option, Some, sym, ap, ap₂, subst}
use Rattle.farm_history.specs.declared.entry.Entry.{Entry}
use Rattle.farm_turn.specs.Sharing.{KeepsNumbers}
use Rattle.farm_turn.specs.Views.{PassView, TurnView}
use Rattle.farm_desk.specs.States.{DeskState, FoundState}
use Rattle.desk_access.specs.Access.{CallerState}
use Rattle.desk_posts.specs.declared.posts.PostEnd.{PostEnd}
use Rattle.desk_turns.specs.Turns.{IsTurnAccess, StaysAtTurn, TurnState, turn_caller}
use Rattle.boxed_disk.specs.declared.boxed.BoxedDisk.{BoxedDisk}
use Rattle.shared_posts.specs.Callers.{DeskCaller}
use Rattle.shared_posts.specs.Running.{HasRun, begun}
use Rattle.shared_posts.specs.declared.post.Post.{Post}

-- how a caller stands, by its turn, its pass, its number and its faults
abbrev state_of : {D : Type 0} → TurnView (DeskState (BoxedDisk D)) → PassView Entry (FoundState (BoxedDisk D)) → ℕ → ℕ → CallerState
state_of view pass caller faulted = turn_caller (record { turn = view; pass = pass; caller = caller; faulted = faulted; stopped = false })

-- a new access stands as one that is begun
begins : {D : Type 0} (turn : TurnView (DeskState (BoxedDisk D))) (taken : DeskCaller D) (began : TurnState (BoxedDisk D)) → began.turn ≡ turn → began.pass ≡ taken.pass → began.caller ≡ taken.number → began.faulted ≡ 0 → turn_caller began ≡ turn_caller (begun turn taken)
begins turn taken began turn_is pass_is caller_is none =
    ap (λ view. state_of view began.pass began.caller began.faulted) turn_is
    ∙ ap (λ pass. state_of turn pass began.caller began.faulted) pass_is
    ∙ ap (λ caller. state_of turn taken.pass caller began.faulted) caller_is
    ∙ ap (λ faulted. state_of turn taken.pass taken.number faulted) none

module _ {X W D : Type 0} (does : X → CallerState → X → CallerState → Option PostEnd → Type 0) (turn : TurnView (DeskState (BoxedDisk D)))
    (taken : DeskCaller D) (began ended : TurnState (BoxedDisk D)) where
  -- the post ran
  pub has_run : (old : Post X W (DeskCaller D)) (outside : X) (work : Option W) (end : Option PostEnd) (pass : PassView Entry (FoundState (BoxedDisk D))) →
      old.caller ≡ Some taken → began.turn ≡ turn → began.pass ≡ taken.pass → began.caller ≡ taken.number → began.faulted ≡ 0 →
      ended.caller ≡ began.caller → does old.outside (turn_caller began) outside (turn_caller ended) end → StaysAtTurn began ended → pass ≡ ended.pass →
      IsTurnAccess ended (length ended.pass.known.seen) →
      HasRun does turn old (record { outside = outside; work = work; end = end; caller = Some (record { pass = pass; number = taken.number }) })
  has_run old outside work end pass caller turn_is pass_is caller_is none same_caller did stays pass_back stands =
      let number : ended.caller ≡ taken.number = same_caller ∙ caller_is in
      record {
        before = taken;
        before_is = caller;
        access = ended;
        stands = record { turn_is = stays.turn ∙ turn_is; stands = stands };
        same_caller = number;
        numbers = subst (λ (was : PassView Entry (FoundState (BoxedDisk D))). KeepsNumbers was.known ended.pass.known) pass_is stays.numbers;
        after_is = ap₂ (λ (p : PassView Entry (FoundState (BoxedDisk D))) (n : ℕ). Some (record { pass = p; number = n })) pass_back (sym number);
        ran = subst (λ (state : CallerState). does old.outside state outside (turn_caller ended) end) (begins turn taken began turn_is pass_is caller_is none) did;
      }
