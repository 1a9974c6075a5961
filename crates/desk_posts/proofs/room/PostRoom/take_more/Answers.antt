-- Answers to the open goals of `take_more`.
use Rattle.std.proofs.Common.{◌≡◌, ◌∙◌, ℕ, ◌+◌, ◌<◌, List, take, length, length-take, sym, ap, subst, arith}
use Rattle.std.proofs.lemmas.List.{with_items_is}
use Rattle.farm_ports.specs.Ports.{ReadsOn}
use Rattle.desk_posts.proofs.Rooms.{came_behind}
use Rattle.desk_posts.proofs.room.PostRoom.take_more.Goals as goal

pub returns-clause-taken : goal.returns-clause-taken
returns-clause-taken g c =
    let from = g.S.Port.stream c.args.source.now in
    let to = g.S.Port.stream c.take_behind.new.source in
    let bytes = c.self.inside.bytes.items in
    let held = c.self.inside.held in
    let count = c.in_ok-count.count in
    let size : length c.take_behind.new.bytes ≡ 81920 = omega (arith, ap length c.deref_mut.ensures.value, c.self.invariant.1) in
    let room : held < 81920 = omega (arith, ap length c.self.view_is, length-take held bytes, c.self.invariant.1, c.requires.room) in
    subst (λ (items : List ℕ). ReadsOn from to c.args.self.now (take (held + count) items) 81920 count)
    (sym (with_items_is c.self.inside.bytes c.take_behind.new.bytes (omega arith)))
    (came_behind from to bytes c.take_behind.new.bytes c.args.self.now held count 81920 c.self.view_is
    (c.take_behind.ensures.stays ∙ ap (λ (items : List ℕ). take held items) c.deref_mut.ensures.value) size room c.in_ok-count.ensures.taken)
