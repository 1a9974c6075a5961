-- Answers to the open goals of `serve`.
use Rattle.std.proofs.Common.{◌≡◌, ◌∙◌, List, length, sym, ap, subst, arith}
use Rattle.farm_turn.specs.declared.views.Known.{Known}
use Rattle.farm_desk.proofs.Finishing.{at_ok}
use Rattle.farm_desk.specs.States.{DeskState}
use Rattle.farm_history.specs.History.{last_place}
use Rattle.gauge_maps.specs.declared.map.LineMap.{LineMap}
use Rattle.desk_turns.specs.Closing.{IsUnused}
use Rattle.shared_posts.specs.Callers.{HaveWork}
use Rattle.post_turns.specs.Running.{HasLine}
use Rattle.farm_serve.specs.Sharing.{ServesAll}
use Rattle.farm_serve.proofs.serving.serve.Goals as goal

pub serve_turn-requires-after_bounds : goal.serve_turn-requires-after_bounds
serve_turn-requires-after_bounds g c κs within =
    let turn = c.in-Ok-new.opened.0 in
    let left = c.in-Ok-new.opened.1 in
    let opening : turn.opening ≡ c.args.desk = c.in-Ok-new.ensures.opening in
    let known = c.in-Ok-new.ensures.known in
    let rooms = at_ok c.make_rooms.result _ (sym c.is_err.ensures.value ∙ c.if-is_err.false) c.make_rooms.ensures.rooms in
    let maps = at_ok c.make_lines.result _ (sym c.is_err-2.ensures.value ∙ c.if-is_err-2.false) c.make_lines.ensures.lines in
    let lines_are = c.lines_of.ensures.lines ∙ sym (ap (λ (desk : DeskState _). desk.history.site.lines) opening) in (
      omega arith,
      (
        omega arith,
        (
          record {
            is_left = record {
              of_this_turn = c.in-Ok-new.ensures.of_the_turn;
              unenrolled = ap (λ (k : Known _ _). k.number) known;
              seen = ap (λ (k : Known _ _). k.seen) known ∙ sym (ap (λ (desk : DeskState _). desk.history.entries) opening);
              own = ap (λ (k : Known _ _). k.own) known;
              tally = ap (λ (k : Known _ _). k.tally) known;
              next_is = ap (λ (k : Known _ _). k.next) known;
              found = subst (λ (desk : DeskState _). desk.opened.entries ≡ last_place desk.history) (sym opening) c.requires.just_made.entries_is;
            };
            all_numbers = c.in-Ok-new.ensures.numbers_in_all;
            unused = subst IsUnused (sym opening) (record { entries = c.requires.just_made.entries_is; failed = c.requires.just_made.unfailed });
          },
          (
            c.in-Ok.ensures.items,
            (
              omega (arith, c.in-Ok.ensures.len, c.in-Ok.ensures.capacity, c.make_rooms.auto.posts, c.make_lines.auto.posts),
              (
                rooms,
                (
                  subst (λ (lines : List LineMap). HaveWork (HasLine lines) 0 c.make_lines.new.posts) lines_are maps,
                  (
                    omega (arith, c.requires.ports, c.make_rooms.auto.posts),
                    (
                      omega (arith, c.requires.lines, c.lines_of.ensures.few, ap length c.lines_of.ensures.lines, c.make_lines.auto.posts),
                      (
                        c.requires.rounds,
                        ap length c.entries.ensures.entries ∙ ap last_place c.book.ensures.history
                            ∙ sym (ap (λ (desk : DeskState _). last_place desk.history) opening),
                      ),
                    ),
                  ),
                ),
              ),
            ),
          ),
        ),
      ),
    )

pub returns-clause-served : goal.returns-clause-served
returns-clause-served g c =
    subst (λ (desk : DeskState _). ServesAll g.L.Listener.events g.L.Listener.faults g.M.Link.calls g.M.Link.faults (g.C.Clock.may_give c.args.clock.now)
    g.row.LIMIT c.args.port c.args.rounds desk c.serve_turn.result c.args.desks.now c.serve_turn.new.desks c.args.lines.now c.serve_turn.new.lines)
    c.in-Ok-new.ensures.opening
    (c.serve_turn.ensures.served c.args.desks.now c.args.lines.now (sym c.make_rooms.ensures.outsides) (sym c.make_lines.ensures.outsides))
