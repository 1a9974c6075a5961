-- Posts that served a desk, once its turn is closed.
use Rattle.std.proofs.Common.{◌≡◌, ◌∙◌, ℕ, List, ◌++◌, length, map, Option, ℤ, sym, ap, ap₂, subst}
use Rattle.std.specs.Prelude.{IsSome}
use Rattle.std.proofs.lemmas.List.{map-append}
use Rattle.std.proofs.lemmas.List.Elements.{All-append}
use Rattle.farm_history.specs.History.{last_place}
use Rattle.farm_history.specs.declared.entry.Entry.{Entry}
use Rattle.farm_listeners.specs.Listeners.{Event}
use Rattle.farm_ports.specs.declared.links.LinkCall.{LinkCall}
use Rattle.farm_turn.specs.Views.{PassView, TurnView}
use Rattle.journaled_book.specs.Histories.{front_of}
use Rattle.farm_desk.specs.States.{Continues, DeskState, FoundState, found_of}
use Rattle.desk_access.specs.Access.{CallerState}
use Rattle.desk_access.proofs.Fronts.{front_whole}
use Rattle.desk_access.proofs.Lists.{all_first, all_last}
use Rattle.desk_posts.specs.declared.posts.PostEnd.{PostEnd}
use Rattle.desk_turns.specs.Closing.{AccountsFor, AreCallers, IsAccessOf, IsUnused}
use Rattle.desk_turns.specs.Turns.{TurnState, turn_caller}
use Rattle.modbus_poll.specs.Polls.{PollerState}
use Rattle.boxed_disk.specs.declared.boxed.BoxedDisk.{BoxedDisk}
use Rattle.shared_posts.specs.Callers.{AreReady, DeskCaller, outsides_of, passes_of, without_callers}
use Rattle.post_turns.specs.Running.{ConversesAs, HasLine, RunsLine}
use Rattle.shared_posts.specs.Running.{EachHasRun}
use Rattle.farm_serve.specs.Sharing.{EachStands, LineStands, PostStands, ServesAll}
use Rattle.shared_posts.specs.declared.post.Post.{Post}
use Rattle.shared_posts.proofs.Ran.{accesses_of, all_stand, passes_are}
use Rattle.farm_serve.proofs.Standing.{desk_stands, each_stands, line_stands}

-- a desk that tells what it was made with, as one that was just made did, has a history that continues that one's
desk_continues : {D : Type 0} (opening left : DeskState D) → IsUnused opening → found_of left ≡ found_of opening → Continues opening.history left.history
desk_continues {D} opening left unused found =
    let as_many : left.opened.entries ≡ last_place opening.history = ap (λ (f : FoundState D). f.opened.entries) found ∙ unused.entries in
    ap (front_of left.history) (sym as_many) ∙ ap (λ (f : FoundState D). f.history) found
    ∙ ap (front_of opening.history) unused.entries ∙ front_whole opening.history

module _ {D L M V : Type 0} (events : L → Option (List Event)) (faults : L → ℕ) (calls : M → Option (List LinkCall)) (link_faults : M → ℕ)
    (may_give : ℤ → Type 0) (limit port rounds : ℕ) (turn : TurnView (DeskState (BoxedDisk D))) (found_desks desks desks' : List (Post L V (DeskCaller D)))
    (found_lines lines lines' : List (Post M PollerState (DeskCaller D))) (left : DeskState (BoxedDisk D))
    (desk_runs : EachHasRun (ConversesAs events faults may_give limit port) turn 0 desks desks')
    (line_runs : EachHasRun (RunsLine calls link_faults may_give limit rounds turn.opening.history.site.lines) turn 0 lines lines') where
  -- what a desk post and a line did
  abbrev converses : ℕ → L → CallerState → L → CallerState → Option PostEnd → Type 0
  converses = ConversesAs events faults may_give limit port

  abbrev polls : ℕ → M → CallerState → M → CallerState → Option PostEnd → Type 0
  polls = RunsLine calls link_faults may_give limit rounds turn.opening.history.site.lines

  -- their accesses
  abbrev desk_accesses : List (TurnState (BoxedDisk D))
  desk_accesses = accesses_of converses turn 0 desks desks' desk_runs

  abbrev line_accesses : List (TurnState (BoxedDisk D))
  line_accesses = accesses_of polls turn 0 lines lines' line_runs

  -- are all callers of the desk
  all_callers : AccountsFor turn (passes_of desks' ++ passes_of lines') left →
      AreCallers turn.opening left (map turn_caller desk_accesses ++ map turn_caller line_accesses)
  all_callers accounts =
      let pass_of_access : TurnState (BoxedDisk D) → PassView Entry (FoundState (BoxedDisk D)) = λ access. access.pass in
      subst (AreCallers turn.opening left) (map-append turn_caller desk_accesses line_accesses)
      (accounts (desk_accesses ++ line_accesses)
      (map-append pass_of_access desk_accesses line_accesses
      ∙ ap₂ (λ (front back : List (PassView Entry (FoundState (BoxedDisk D)))). front ++ back) (passes_are converses turn 0 desks desks' desk_runs)
      (passes_are polls turn 0 lines lines' line_runs))
      (All-append (IsAccessOf turn) desk_accesses line_accesses (all_stand converses turn 0 desks desks' desk_runs)
      (all_stand polls turn 0 lines lines' line_runs)))

  -- so the posts served the desk
  pub serves_all : outsides_of found_desks ≡ outsides_of desks → outsides_of found_lines ≡ outsides_of lines → length found_desks ≡ length desks →
      AreReady (λ index work. IsSome work) turn 0 0 desks → AreReady (HasLine turn.opening.history.site.lines) turn (length desks) 0 lines →
      IsUnused turn.opening → AccountsFor turn (passes_of desks' ++ passes_of lines') left →
      ServesAll events faults calls link_faults may_give limit port rounds turn.opening left found_desks (without_callers desks') found_lines
      (without_callers lines')
  serves_all same_desks same_lines as_many desks_ready lines_ready unused accounts =
      let callers = all_callers accounts in
      let desk_callers = map turn_caller desk_accesses in
      let line_callers = map turn_caller line_accesses in
      record {
        desk_callers = desk_callers;
        line_callers = line_callers;
        continues = desk_continues turn.opening left unused callers.found;
        posts_stand =
            each_stands (λ index work. IsSome work) converses (PostStands events faults may_give limit port turn.opening.history left.history) turn left.history 0
            (desk_stands events faults may_give limit port turn left.history) 0 found_desks desks desks' same_desks desks_ready desk_runs
            (all_first (λ (caller : CallerState). Continues caller.seen left.history) desk_callers line_callers callers.seen);
        lines_stand =
            subst (λ (n : ℕ). EachStands (LineStands calls link_faults may_give limit rounds n turn.opening.history left.history) 0 found_lines
            (without_callers lines') line_callers) (sym as_many)
            (each_stands (HasLine turn.opening.history.site.lines) polls
            (LineStands calls link_faults may_give limit rounds (length desks) turn.opening.history left.history) turn left.history (length desks)
            (line_stands calls link_faults may_give limit rounds (length desks) turn left.history) 0 found_lines lines lines' same_lines lines_ready line_runs
            (all_last (λ (caller : CallerState). Continues caller.seen left.history) desk_callers line_callers callers.seen));
        callers = callers;
      }
