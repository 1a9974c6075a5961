-- Answers to the open goals of `take_in`.
use Rattle.std.proofs.Common.{◌≡◌, ◌∙◌, arith, ap, sym, subst}
use Rattle.farm_history.specs.History.{History, with_entry}
use Rattle.farm_history.specs.Verdicts.{IsNext}
use Rattle.farm_book.specs.Kept.{Kept}
use Rattle.farm_indexes.specs.Indexing.{AreIndexesOf}
use Rattle.history_lookups.specs.Pasts.{IsReadable, history_of}
use Rattle.farm_book.proofs.Entries.{sound_more, sound_readable}
use Rattle.farm_book.proofs.book.Book.take_in.Goals as goal

pub invariant_of-self : goal.invariant_of-self
invariant_of-self g c =
    let site = c.self.inside.site in
    let before : History = history_of site c.self.inside.entries.items in
    let next = subst (λ (kept : Kept). IsNext g.row.LIMIT kept.history c.args.entry) (sym c.self.view_is) c.requires.next in
    let same : with_entry (history_of site c.deref.result.now) c.args.entry ≡ history_of site c.push_reserved.new.self.items =
    ap (λ entries. with_entry (history_of site entries) c.args.entry) c.deref.ensures.value
    ∙ ap (history_of site) (sym c.push_reserved.ensures.items) in
    let room = c.self.invariant.room_of_entries in
    let indexes = c.self.invariant.room_of_indexes in
    record {
      sound = rw c.push_reserved.ensures.items (sound_more g.row.LIMIT before c.args.entry c.self.invariant.sound next);
      indexed = subst (λ (history : History). AreIndexesOf history c.enter.new.self) same c.enter.ensures.indexes;
      room_of_entries = let len = c.push_reserved.ensures.len in let capacity = c.push_reserved.ensures.capacity in omega (arith, room, len, capacity);
      room_of_indexes = let left = c.enter.ensures.room in omega (arith, indexes, left);
    }

pub enter-requires-clause-readable : goal.enter-requires-clause-readable
enter-requires-clause-readable g c =
    let site = c.self.inside.site in
    let readable = sound_readable g.row.LIMIT (history_of site c.self.inside.entries.items) c.self.invariant.sound in
    subst (λ entries. IsReadable (history_of site entries)) (sym c.deref.ensures.value) readable

pub returns-clause-sound : goal.returns-clause-sound
returns-clause-sound g c =
    let before : History = history_of c.self.inside.site c.self.inside.entries.items in
    let next = subst (λ (kept : Kept). IsNext g.row.LIMIT kept.history c.args.entry) (sym c.self.view_is) c.requires.next in
    rw c.push_reserved.ensures.items (sound_more g.row.LIMIT before c.args.entry c.self.invariant.sound next)
