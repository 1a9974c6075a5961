-- What posts did, on the history that is left.
use Rattle.std.proofs.Common.{◌≡◌, ◌∙◌, ℕ, ◌+◌, ◌≤◌, List, [], ◌∷◌, map, Option, Some, None, ℤ, refl, sym, ap, subst, arith}
use Rattle.std.specs.Prelude.{All, IsSome}
use Rattle.std.proofs.lemmas.List.{length-take}
use Rattle.std.proofs.lemmas.List.Elements.{All-head, All-tail}
use Rattle.farm_base.specs.Counts.{count_of}
use Rattle.farm_history.specs.History.{History, last_place}
use Rattle.farm_history.specs.declared.entry.Entry.{Entry}
use Rattle.farm_listeners.specs.Listeners.{Event}
use Rattle.farm_ports.specs.declared.links.LinkCall.{LinkCall}
use Rattle.farm_turn.specs.Views.{TurnView}
use Rattle.farm_desk.specs.States.{Continues, DeskState}
use Rattle.desk_access.specs.Access.{AreFollowers, CallerState}
use Rattle.desk_access.proofs.Fronts.{continues_on, front_whole}
use Rattle.desk_posts.specs.Laws.{StandsOn}
use Rattle.desk_posts.specs.declared.posts.PostEnd.{PostEnd}
use Rattle.desk_posts.proofs.Standing.{conversation_stands}
use Rattle.line_posts.specs.Laws.{line_with_seen}
use Rattle.line_posts.specs.Runs.{IsLineRun}
use Rattle.line_posts.proofs.Continuing.{line_run_on}
use Rattle.modbus_poll.specs.Polls.{PollerState, fresh}
use Rattle.desk_turns.specs.Turns.{IsNewPass, turn_caller}
use Rattle.boxed_disk.specs.declared.boxed.BoxedDisk.{BoxedDisk}
use Rattle.shared_posts.specs.Callers.{AreReady, DeskCaller, IsNewCaller, IsReady, outsides_of, without_callers}
use Rattle.post_turns.specs.Running.{ConversesAs, HasLine, RunsLine, line_of}
use Rattle.shared_posts.specs.Running.{EachHasRun, HasRun, begun}
use Rattle.farm_serve.specs.Sharing.{EachStands, IsFirst, LineStands, PostStands}
use Rattle.shared_posts.specs.declared.post.Post.{Post}
use Rattle.shared_posts.proofs.Giving.{first_or}
use Rattle.shared_posts.proofs.Ran.{accesses_of}

-- all but the first
abbrev others : {X : Type 0} → List X → List X
others [] = []
others (x ∷ xs) = xs

-- the caller, or another one
abbrev caller_or : {D : Type 0} → DeskCaller D → Option (DeskCaller D) → DeskCaller D
caller_or other None = other
caller_or other (Some caller) = caller

-- histories follow by continuing one another
followers : AreFollowers Continues
followers = record { itself = front_whole; on = continues_on; continues = λ seen next continues. continues }

-- the access of a new caller stands as one before its first request
is_first : {D : Type 0} (turn : TurnView (DeskState (BoxedDisk D))) (number : ℕ) (caller : DeskCaller D) → caller.number ≡ number →
    IsNewPass turn caller.pass number → IsFirst turn.opening.history number (turn_caller (begun turn caller))
is_first turn number caller same new =
    let history : History = turn.opening.history in
    let within : turn.opening.opened.entries ≤ last_place history = omega (arith, new.found) in
    record {
      seen = ap (λ (entries : List Entry). record { site = history.site; entries = entries }) new.seen;
      caller = same;
      opened = length-take turn.opening.opened.entries history.entries ∙ omega (arith, within, new.found);
      own = new.own;
      faulted = refl;
    }

-- so does that of a post that ran, since it had a new caller
ran_first : {X W D : Type 0} (does : X → CallerState → X → CallerState → Option PostEnd → Type 0) (turn : TurnView (DeskState (BoxedDisk D))) (number : ℕ)
    (old new : Post X W (DeskCaller D)) → IsNewCaller turn number old.caller → (run : HasRun does turn old new) →
    IsFirst turn.opening.history number (turn_caller (begun turn run.before))
ran_first {X} {W} {D} does turn number old new (caller, is, numbered, fresh) run =
    let before_is : caller ≡ run.before = ap (caller_or caller) (sym is ∙ run.before_is) in
    subst (λ (c : DeskCaller D). IsFirst turn.opening.history number (turn_caller (begun turn c))) before_is (is_first turn number caller numbered fresh)

module _ {X W D : Type 0} (works : ℕ → Option W → Type 0) (does : ℕ → X → CallerState → X → CallerState → Option PostEnd → Type 0)
    (stands : ℕ → Post X W (DeskCaller D) → Post X W (DeskCaller D) → CallerState → Type 0) (turn : TurnView (DeskState (BoxedDisk D))) (history : History)
    (first : ℕ)
    (one : (index : ℕ) (found old new : Post X W (DeskCaller D)) → found.outside ≡ old.outside → IsReady (works index) turn (first + index) old →
    (run : HasRun (does index) turn old new) → Continues (turn_caller run.access).seen history →
    stands index found (record { outside = new.outside; work = new.work; end = new.end; caller = None }) (turn_caller run.access)) where
  -- if what one post did stands on the history, so does what each did
  pub each_stands : (index : ℕ) (found before after : List (Post X W (DeskCaller D))) → outsides_of found ≡ outsides_of before →
      AreReady works turn first index before → (runs : EachHasRun does turn index before after) →
      All (λ caller. Continues caller.seen history) (map turn_caller (accesses_of does turn index before after runs)) →
      EachStands stands index found (without_callers after) (map turn_caller (accesses_of does turn index before after runs))
  unfolding EachHasRun AreReady EachStands accesses_of
  each_stands index [] [] after same ready runs seen = (ap without_callers runs, refl)
  each_stands index [] (old ∷ before) after same ready runs seen = absurd cc
  each_stands index (f ∷ found) [] after same ready runs seen = absurd cc
  each_stands index (f ∷ found) (old ∷ before) [] same ready runs seen = absurd runs
  each_stands index (f ∷ found) (old ∷ before) (new ∷ after) same ready runs seen =
      let state : CallerState = turn_caller runs.0.access in
      let states = map turn_caller (accesses_of does turn (index + 1) before after runs.1) in (
        one index f old new (ap (first_or old.outside) same) ready.0 runs.0 (All-head (λ (caller : CallerState). Continues caller.seen history) state states seen),
        each_stands (index + 1) found before after (ap others same) ready.1 runs.1
            (All-tail (λ (caller : CallerState). Continues caller.seen history) state states seen),
      )

module _ {D L W : Type 0} (events : L → Option (List Event)) (faults : L → ℕ) (may_give : ℤ → Type 0) (limit port : ℕ)
    (turn : TurnView (DeskState (BoxedDisk D))) (history : History) where
  -- a desk post's conversation stands on it
  pub desk_stands : (index : ℕ) (found old new : Post L W (DeskCaller D)) → found.outside ≡ old.outside → IsReady (λ work. IsSome work) turn (0 + index) old →
      (run : HasRun (ConversesAs events faults may_give limit port index) turn old new) → Continues (turn_caller run.access).seen history →
      PostStands events faults may_give limit port turn.opening.history history index found
      (record { outside = new.outside; work = new.work; end = new.end; caller = None }) (turn_caller run.access)
  desk_stands index found old new same ready run continues = record {
    first = turn_caller (begun turn run.before);
    first_is =
        subst (λ (n : ℕ). IsFirst turn.opening.history n (turn_caller (begun turn run.before))) (omega arith)
        (ran_first (ConversesAs events faults may_give limit port index) turn (0 + index) old new ready.1 run);
    end = run.ran.end;
    ended = run.ran.ended;
    stands = subst (λ (listener : L). StandsOn Continues may_give limit (port + index) (events listener) (events new.outside)
        (count_of faults listener new.outside) (turn_caller (begun turn run.before)) (turn_caller run.access) run.ran.end history) (sym same)
        (conversation_stands Continues followers may_give limit (port + index) (events old.outside) (events new.outside) (count_of faults old.outside new.outside)
        (turn_caller (begun turn run.before)) (turn_caller run.access) run.ran.end history continues run.ran.conversation);
  }

module _ {D M : Type 0} (calls : M → Option (List LinkCall)) (faults : M → ℕ) (may_give : ℤ → Type 0) (limit rounds desk_posts : ℕ)
    (turn : TurnView (DeskState (BoxedDisk D))) (history : History) where
  -- a line's run stands on it
  pub line_stands : (index : ℕ) (found old new : Post M PollerState (DeskCaller D)) → found.outside ≡ old.outside →
      IsReady (HasLine turn.opening.history.site.lines index) turn (desk_posts + index) old →
      (run : HasRun (RunsLine calls faults may_give limit rounds turn.opening.history.site.lines index) turn old new) →
      Continues (turn_caller run.access).seen history →
      LineStands calls faults may_give limit rounds desk_posts turn.opening.history history index found
      (record { outside = new.outside; work = new.work; end = new.end; caller = None }) (turn_caller run.access)
  line_stands index found old new same ready run continues = record {
    first = turn_caller (begun turn run.before);
    first_is =
        ran_first (RunsLine calls faults may_give limit rounds turn.opening.history.site.lines index) turn (desk_posts + index) old new ready.1 run;
    map = run.ran.map;
    its = run.ran.its;
    poller = run.ran.poller;
    stands = subst (λ (link : M). IsLineRun Continues may_give limit (index + 1) rounds
        (line_of calls faults link (fresh run.ran.map) (turn_caller (begun turn run.before)))
        (line_with_seen (line_of calls faults new.outside run.ran.poller (turn_caller run.access)) history)) (sym same)
        (line_run_on Continues followers may_give limit (index + 1) rounds
        (line_of calls faults old.outside (fresh run.ran.map) (turn_caller (begun turn run.before)))
        (line_of calls faults new.outside run.ran.poller (turn_caller run.access)) history continues run.ran.run);
  }
