-- Answers to the open goals of `pass`.
use Rattle.std.proofs.Common.{◌∙◌, ℕ, ◌-◌, ◌≤◌, List, drop, take, length, length-take, ap, arith}
use Rattle.desk_posts.proofs.Rooms.{moved_to_front}
use Rattle.desk_posts.proofs.room.PostRoom.pass.Goals as goal

pub returns : goal.returns
returns c =
    let bytes = c.self.inside.bytes.items in
    let held = c.self.inside.held in
    let fewer : c.args.count ≤ held = omega (arith, ap length c.self.view_is, length-take held bytes, c.requires.within) in
    record {
      in_hand = ap (λ (items : List ℕ). take (held - c.args.count) items) c.copy_within.ensures.items
          ∙ moved_to_front bytes c.args.count held fewer c.self.invariant.0
          ∙ ap (λ (in_hand : List ℕ). drop c.args.count in_hand) c.self.view_is;
    }
