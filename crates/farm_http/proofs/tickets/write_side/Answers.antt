-- Answers to the open goals of `write_side`.
use Rattle.std.proofs.Common.{List, ℕ, subst}
use Rattle.text_pieces.specs.Pieces.{Lengthens}
use Rattle.farm_http.proofs.TicketTexts.{four_appended, lengthens, side_closed}
use Rattle.farm_http.proofs.tickets.write_side.Goals as goal

pub returns : goal.returns
returns c =
    let side = c.args.side.now in
    let text = side_closed side c.args.end.now c.from.result c.way_word.result.now c.from.ensures c.way_word.ensures.word in
    let end = lengthens c.write_figures-2.new.out.items c.append.new.out.items _ c.append.result c.append.ensures.appended in
    let whole = four_appended c.args.out.now.items c.write_figures.new.out.items c.write_moved.new.out.items c.write_figures-2.new.out.items c.append.new.out.items
    _ _ _ _ c.append.result c.in_ok-write_figures.ensures.figures.ok c.in_ok-write_moved.ensures.moved.ok c.in_ok-write_figures-2.ensures.figures.ok end in
    record { side = subst (λ (t : List ℕ). Lengthens c.args.out.now.items c.append.new.out.items t c.append.result) text whole }
