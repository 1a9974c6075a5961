-- Answers to the open goals of `close_posts`.
use Rattle.std.proofs.Common.{◌≡◌, ◌∙◌, false, [], ◌∷◌, ◌++◌, length, map, refl, sym, ap, subst, arith}
use Rattle.std.specs.Prelude.{All, sum_by}
use Rattle.std.proofs.lemmas.List.Elements.{All-cons}
use Rattle.std.proofs.lemmas.List.Sums.{sum_by-append, sum_by-cons}
use Rattle.farm_turn.specs.Views.{PassView, numbers_of}
use Rattle.desk_turns.specs.Closing.{AccountsFor, IsAccessOf}
use Rattle.desk_turns.specs.Turns.{TurnState, turn_caller}
use Rattle.desk_turns.proofs.Opening.{new_stands}
use Rattle.shared_posts.specs.Callers.{passes_of}
use Rattle.shared_posts.proofs.Passes.{numbers_of_passes}
use Rattle.shared_posts.proofs.Giving.{left_is_new}
use Rattle.shared_posts.proofs.Idle.{without_idle}
use Rattle.shared_posts.proofs.closing.close_posts.Goals as goal

pub take_passes-requires-2 : goal.take_passes-requires-2
take_passes-requires-2 g c = (
  omega arith,
  (
    c.requires.ended.second_callers,
    omega (
      arith,
      c.requires.room,
      c.take_passes.ensures.length,
      c.take_passes.ensures.capacity,
      c.push_reserved.ensures.len,
      c.push_reserved.ensures.capacity,
      ap length c.requires.none_taken,
    ),
  ),
)

pub close_turn-requires : goal.close_turn-requires
close_turn-requires g c =
    let left = c.enrol.new.pass in
    let others = passes_of c.args.first.now ++ passes_of c.args.second.now in
    let passes = c.take_passes-2.ensures.taken ∙ ap (λ front. front ++ passes_of c.args.second.now) (c.take_passes.ensures.taken
    ∙ ap (λ front. front ++ passes_of c.args.first.now) (c.push_reserved.ensures.items ∙ ap (λ front. front ++ left ∷ []) c.requires.none_taken)) in
    let sum = ap (sum_by (λ (pass : PassView _ _). numbers_of pass.known)) passes ∙ sum_by-cons (λ (pass : PassView _ _). numbers_of pass.known) left others in (
      omega arith,
      (
        omega arith,
        (
          subst (All (λ (pass : PassView _ _). pass.turn ≡ c.args.turn.turn)) (sym passes)
              (All-cons (λ (pass : PassView _ _). pass.turn ≡ c.args.turn.turn) left others (c.enrol.ensures.same_turn ∙ c.requires.ended.is_left.of_this_turn) c.requires.ended.of_this_turn),
          (
            omega (
              arith,
              sum,
              sum_by-append (λ (pass : PassView _ _). numbers_of pass.known) (passes_of c.args.first.now) (passes_of c.args.second.now),
              numbers_of_passes c.args.first.now,
              numbers_of_passes c.args.second.now,
              c.enrol.ensures.numbers_in_all,
              c.requires.ended.all_numbers,
            ),
            c.requires.ended.unused,
          ),
        ),
      ),
    )

pub returns-clause-accounts : goal.returns-clause-accounts
returns-clause-accounts g c = λ accesses maps all.
    let turn = c.args.turn in
    let left = c.enrol.new.pass in
    let new = left_is_new turn c.args.left left _ c.enrol.result c.requires.ended.is_left c.enrol.ensures.same_turn c.enrol.ensures.known c.enrol.ensures.number in
    let idle : TurnState _ = record { turn = turn; pass = left; caller = c.enrol.result; faulted = 0; stopped = false } in
    let stands : IsAccessOf turn idle = record {
      turn_is = refl;
      stands = new_stands turn left c.enrol.result (length left.known.seen) new (ap length new.seen);
    } in
    let passes = c.take_passes-2.ensures.taken ∙ ap (λ front. front ++ passes_of c.args.second.now) (c.take_passes.ensures.taken
    ∙ ap (λ front. front ++ passes_of c.args.first.now) (c.push_reserved.ensures.items ∙ ap (λ front. front ++ left ∷ []) c.requires.none_taken)) in
    let accounts = subst (λ passes. AccountsFor turn passes c.close_turn.result) passes c.close_turn.ensures.accounts in
    without_idle turn.opening c.close_turn.result (turn_caller idle) (map turn_caller accesses) new.own refl
    (accounts (idle ∷ accesses) (ap (λ others. left ∷ others) maps) (All-cons (IsAccessOf turn) idle accesses stands all))
