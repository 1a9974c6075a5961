-- Answers to the open goals of `serve_turn`.
use Rattle.std.proofs.Common.{◌≡◌, ◌∙◌, ℕ, ◌+◌, length, sym, ap, subst, arith}
use Rattle.std.specs.Prelude.{IsSome}
use Rattle.std.proofs.lemmas.List.{length-map}
use Rattle.std.proofs.lemmas.List.Elements.{All-append}
use Rattle.farm_turn.specs.Views.{PassView, number_count}
use Rattle.shared_posts.specs.Callers.{GetCallers, IsLeft, passes_of, without_callers}
use Rattle.post_turns.specs.Running.{ConversesAs, HasLine, RunsLine}
use Rattle.farm_serve.specs.Sharing.{ServesAll}
use Rattle.farm_serve.proofs.Closed.{serves_all}
use Rattle.shared_posts.proofs.Passes.{passes_of_turn}
use Rattle.shared_posts.proofs.Giving.{get_ready, outsides_stay}
use Rattle.shared_posts.proofs.Ran.{have_callers, numbers_stay}
use Rattle.farm_serve.proofs.serving.serve_turn.Goals as goal

pub run_all-requires-after_bounds : goal.run_all-requires-after_bounds
run_all-requires-after_bounds g c κs within =
    let turn = c.args.turn in
    let desks = c.give_callers.new.posts in
    let first = c.requires.opened_turn.is_left.next_is in
    let next = c.give_callers.ensures.left.next_is ∙ ap (λ (n : ℕ). n + length c.args.desks.now) first in
    let desks_given = subst (λ (n : ℕ). GetCallers turn n c.args.desks.now desks) first c.give_callers.ensures.given in
    let lines_given = subst (λ (n : ℕ). GetCallers turn n c.args.lines.now c.give_callers-2.new.posts) (omega (arith, next, c.give_callers.auto.posts))
    c.give_callers-2.ensures.given in (
      omega arith,
      (
        omega arith,
        (
          get_ready turn (λ index work. IsSome work) 0 0 c.args.desks.now desks c.requires.desks desks_given,
          (
            (
              length desks,
              get_ready turn (HasLine turn.opening.history.site.lines) (length desks) 0 c.args.lines.now c.give_callers-2.new.posts c.requires.lines lines_given,
            ),
            (
              omega (arith, c.requires.ports, c.give_callers.auto.posts),
              (omega (arith, c.requires.few, c.give_callers-2.auto.posts), (c.requires.rounds, c.requires.opened)),
            ),
          ),
        ),
      ),
    )

pub close_posts-requires : goal.close_posts-requires
close_posts-requires g c =
    let turn = c.args.turn in
    let converses = ConversesAs g.L.Listener.events g.L.Listener.faults (g.C.Clock.may_give c.args.clock.now) g.row.LIMIT c.args.port in
    let polls = RunsLine g.M.Link.calls g.M.Link.faults (g.C.Clock.may_give c.args.clock.now) g.row.LIMIT c.args.rounds turn.opening.history.site.lines in
    let desks = c.give_callers.new.posts in
    let lines = c.give_callers-2.new.posts in
    let desk_runs = c.run_all.ensures.desks in
    let line_runs = c.run_all.ensures.lines in
    let left = c.give_callers-2.new.left in
    let is_left = c.give_callers-2.ensures.left in (
      omega arith,
      (
        omega arith,
        (
          record {
            is_left = subst (IsLeft turn left) (sym is_left.next_is) is_left;
            one_left =
                omega (
                  arith,
                  ap number_count c.requires.opened_turn.is_left.unenrolled,
                  c.requires.opened_turn.all_numbers,
                  c.requires.ports,
                  c.requires.few,
                  c.give_callers.ensures.fewer,
                  c.give_callers-2.ensures.fewer,
                );
            first_callers = have_callers converses turn 0 desks c.run_all.new.desks desk_runs;
            second_callers = have_callers polls turn 0 lines c.run_all.new.lines line_runs;
            of_this_turn = All-append (λ (pass : PassView _ _). pass.turn ≡ turn.turn) (passes_of c.run_all.new.desks) (passes_of c.run_all.new.lines)
                (passes_of_turn converses turn desks c.run_all.new.desks desk_runs) (passes_of_turn polls turn lines c.run_all.new.lines line_runs);
            all_numbers =
                omega (
                  arith,
                  numbers_stay converses turn 0 desks c.run_all.new.desks desk_runs,
                  numbers_stay polls turn 0 lines c.run_all.new.lines line_runs,
                  c.give_callers.ensures.numbers_in_all,
                  c.give_callers-2.ensures.numbers_in_all,
                  c.requires.opened_turn.all_numbers,
                );
            unused = c.requires.opened_turn.unused;
          },
          (
            c.requires.none_taken,
            omega (
              arith,
              c.requires.room,
              c.give_callers.auto.posts,
              c.give_callers-2.auto.posts,
              c.run_all.auto.desks,
              c.run_all.auto.lines,
            ),
          ),
        ),
      ),
    )

pub returns-clause-served : goal.returns-clause-served
returns-clause-served g c = λ found_desks found_lines same_desks same_lines.
    let turn = c.args.turn in
    let events = g.L.Listener.events in
    let faults = g.L.Listener.faults in
    let calls = g.M.Link.calls in
    let link_faults = g.M.Link.faults in
    let may_give = g.C.Clock.may_give c.args.clock.now in
    let given_desks = c.args.desks.now in
    let given_lines = c.args.lines.now in
    let desks = c.give_callers.new.posts in
    let lines = c.give_callers-2.new.posts in
    let first = c.requires.opened_turn.is_left.next_is in
    let next = c.give_callers.ensures.left.next_is ∙ ap (λ (n : ℕ). n + length given_desks) first in
    let desks_given = subst (λ (n : ℕ). GetCallers turn n given_desks desks) first c.give_callers.ensures.given in
    let lines_given = subst (λ (n : ℕ). GetCallers turn n given_lines lines) (omega (arith, next, c.give_callers.auto.posts)) c.give_callers-2.ensures.given in
    let as_many : length found_desks ≡ length desks = omega (
      arith,
      ap length same_desks,
      length-map found_desks (λ post. post.outside),
      length-map given_desks (λ post. post.outside),
      c.give_callers.auto.posts,
    ) in
    let all = serves_all events faults calls link_faults may_give g.row.LIMIT c.args.port c.args.rounds turn found_desks desks c.run_all.new.desks
    found_lines lines c.run_all.new.lines c.close_posts.result c.run_all.ensures.desks c.run_all.ensures.lines
    (same_desks ∙ sym (outsides_stay turn 0 given_desks desks desks_given))
    (same_lines ∙ sym (outsides_stay turn (length desks + 0) given_lines lines lines_given))
    as_many (get_ready turn (λ index work. IsSome work) 0 0 given_desks desks c.requires.desks desks_given)
    (get_ready turn (HasLine turn.opening.history.site.lines) (length desks) 0 given_lines lines c.requires.lines lines_given) c.requires.opened_turn.unused
    c.close_posts.ensures.accounts in
    subst (λ left_desks. ServesAll events faults calls link_faults may_give g.row.LIMIT c.args.port c.args.rounds turn.opening c.close_posts.result
    found_desks left_desks found_lines c.close_posts.new.second) (sym c.close_posts.ensures.first_kept)
    (subst (λ left_lines. ServesAll events faults calls link_faults may_give g.row.LIMIT c.args.port c.args.rounds turn.opening c.close_posts.result
    found_desks (without_callers c.run_all.new.desks) found_lines left_lines) (sym c.close_posts.ensures.second_kept) all)
