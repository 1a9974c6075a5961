-- Answers to the open goals of `write_ticket`.
use Rattle.std.proofs.Common.{List, ℕ, subst}
use Rattle.text_pieces.specs.Pieces.{Lengthens}
use Rattle.farm_ticket.specs.Tickets as tickets
use Rattle.farm_http.specs.Bodies.{ticket_text}
use Rattle.farm_http.proofs.TicketTexts.{HasNumbers, appended_after, one_side, two_sides}
use Rattle.farm_http.proofs.tickets.write_ticket.Goals as goal

pub returns-in-None : goal.returns-in-None
returns-in-None c =
    let inside = c.ticket.inside in
    let ticket : tickets.Ticket =
    record { place = inside.place; number = inside.number; movement = inside.movement; reverses = inside.reverses; party = inside.party; first = inside.first; second = inside.second } in
    let numbers : HasNumbers ticket c.from.result c.from-2.result c.from-3.result c.from-4.result c.from-5.result =
    record { movement_is = c.from.ensures; number_is = c.from-2.ensures; party_is = c.from-3.ensures; place_is = c.from-4.ensures; reverses_is = c.from-5.ensures } in
    let text = one_side ticket _ _ _ _ _ numbers c.in-None.is in
    let whole = appended_after c.args.out.now.items c.append.new.out.items c.write_side.new.out.items _ _ c.write_side.result c.in_ok-append.ensures.appended.ok c.write_side.ensures.side in
    let text_is = subst (λ (t : List ℕ). Lengthens c.args.out.now.items c.write_side.new.out.items t c.write_side.result) text whole in
    record { ticket = subst (λ (t : tickets.Ticket). Lengthens c.args.out.now.items c.write_side.new.out.items (ticket_text t) c.write_side.result) c.ticket.view_is text_is }

pub returns-in_ok-write_side-in-Some : goal.returns-in_ok-write_side-in-Some
returns-in_ok-write_side-in-Some c =
    let inside = c.ticket.inside in
    let ticket : tickets.Ticket =
    record { place = inside.place; number = inside.number; movement = inside.movement; reverses = inside.reverses; party = inside.party; first = inside.first; second = inside.second } in
    let numbers : HasNumbers ticket c.from.result c.from-2.result c.from-3.result c.from-4.result c.from-5.result =
    record { movement_is = c.from.ensures; number_is = c.from-2.ensures; party_is = c.from-3.ensures; place_is = c.from-4.ensures; reverses_is = c.from-5.ensures } in
    let text = two_sides ticket c.in-Some.second _ _ _ _ _ numbers c.in-Some.is in
    let sides = appended_after c.append.new.out.items c.write_side-in-Some.new.out.items c.write_side-in-Some-2.new.out.items _ _ c.write_side-in-Some-2.result c.in_ok-write_side-in-Some.ensures.side.ok c.write_side-in-Some-2.ensures.side in
    let whole = appended_after c.args.out.now.items c.append.new.out.items c.write_side-in-Some-2.new.out.items _ _ c.write_side-in-Some-2.result c.in_ok-append.ensures.appended.ok sides in
    let text_is = subst (λ (t : List ℕ). Lengthens c.args.out.now.items c.write_side-in-Some-2.new.out.items t c.write_side-in-Some-2.result) text whole in
    record { ticket = subst (λ (t : tickets.Ticket). Lengthens c.args.out.now.items c.write_side-in-Some-2.new.out.items (ticket_text t) c.write_side-in-Some-2.result) c.ticket.view_is text_is }
