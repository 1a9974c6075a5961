-- Answers to the open goals of `past`.
use Rattle.std.proofs.Common.{subst}
use Rattle.history_lookups.specs.Pasts.{IsReadable, history_of}
use Rattle.farm_book.specs.Kept.{IsSound, Kept}
use Rattle.farm_book.proofs.Entries.{sound_readable}
use Rattle.farm_book.proofs.book.Book.past.Goals as goal

pub returns-clause-readable : goal.returns-clause-readable
returns-clause-readable g c =
    let readable = sound_readable g.row.LIMIT (history_of c.self.inside.site c.self.inside.entries.items) c.self.invariant.sound in
    subst (λ (kept : Kept). IsReadable kept.history) c.self.view_is readable

pub returns-clause-sound : goal.returns-clause-sound
returns-clause-sound g c = subst (λ (kept : Kept). IsSound g.row.LIMIT kept.history) c.self.view_is c.self.invariant.sound
