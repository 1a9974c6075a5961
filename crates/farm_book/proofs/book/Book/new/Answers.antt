-- Answers to the open goals of `new`.
use Rattle.std.proofs.Common.{◌≡◌, [], arith}
use Rattle.farm_site.specs.Sites.{described}
use Rattle.farm_book.proofs.Entries.{sound_empty}
use Rattle.farm_book.proofs.book.Book.new.Goals as goal

pub invariant_of-result : goal.invariant_of-result
invariant_of-result g c =
    let none : c.new-2.result.items ≡ [] = c.new-2.ensures.items in
    record {
      sound = rw none (sound_empty g.row.LIMIT (described c.args.site) c.requires.limit c.table_facts.ensures.computable c.table_facts.ensures.rising);
      indexed = rw none c.in_ok-indexes.ensures.indexes;
      room_of_entries = omega arith;
      room_of_indexes = omega arith;
    }
