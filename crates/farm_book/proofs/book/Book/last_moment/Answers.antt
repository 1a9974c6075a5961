-- Answers to the open goals of `last_moment`.
use Rattle.std.proofs.Common.{rules, ◌≡◌, ◌-◌, ◌∙◌, List, [], length, Some, pos, sym, subst}
use Rattle.std.specs.Prelude.{slice_get}
use Rattle.std.specs.Int.{w64}
use Rattle.std.proofs.lemmas.Int.{to_z-of_z}
use Rattle.farm_history.specs.declared.entry.Entry.{Entry}
use Rattle.farm_history.specs.History.{IsMoment, last_moment}
use Rattle.farm_book.specs.Kept.{Kept}
use Rattle.farm_book.proofs.Entries.{last_ends, last_moment_is}
use Rattle.farm_book.proofs.book.Book.last_moment.Goals as goal

pub returns-in-Some : goal.returns-in-Some
returns-in-Some g c =
    let entry : Entry = c.in-Some.entry.now in
    let entries : List Entry = c.self.inside.entries.items in
    let last : slice_get entries (length entries - 1) ≡ Some entry = cc (c.in-Some.ensures.value, c.deref.ensures.value) in
    let moment = last_moment_is (pos 0) entries entry last in
    let seen = subst (λ (kept : Kept). last_moment kept.history ≡ entry.at) c.self.view_is moment in
    let ends = last_ends entries entry last in
    let is_moment = (c.self.invariant.sound.legal ends.0 [] entry ends.1).well_formed.moment in
    let at = to_z-of_z w64 entry.at (search rules) in
    record { moment = at ∙ sym seen; within = subst IsMoment (sym at) is_moment }
