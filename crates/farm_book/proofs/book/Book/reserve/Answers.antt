-- Answers to the open goals of `reserve`.
use Rattle.std.proofs.Common.{◌≡◌, arith, rules}
use Rattle.history_lookups.specs.Pasts.{history_of}
use Rattle.farm_book.proofs.book.Book.reserve.Goals as goal

pub invariant_of-self-in_err-reserve-2 : goal.invariant_of-self-in_err-reserve-2
invariant_of-self-in_err-reserve-2 g c =
    let history = history_of c.self.inside.site c.self.inside.entries.items in
    let none : c.self.inside.room ≡ 0 = c.if-self-eq0.true in
    record {
      sound = rw c.reserve.ensures.items c.self.invariant.sound;
      indexed = rw c.reserve.ensures.items (c.reserve-then-self-eq0.ensures.indexes history c.self.invariant.indexed);
      room_of_entries = omega (arith, none);
      room_of_indexes = omega (arith, none);
    }

pub invariant_of-self-then-self-eq0 : goal.invariant_of-self-then-self-eq0
invariant_of-self-then-self-eq0 g c =
    let history = history_of c.self.inside.site c.self.inside.entries.items in
    record {
      sound = rw c.reserve.ensures.items c.self.invariant.sound;
      indexed = rw c.reserve.ensures.items (c.reserve-then-self-eq0.ensures.indexes history c.self.invariant.indexed);
      room_of_entries = search rules;
      room_of_indexes = search rules;
    }
