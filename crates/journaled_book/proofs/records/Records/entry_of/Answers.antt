-- Answers to the open goals of `entry_of`.
use Rattle.std.proofs.Common.{◌∙◌, ap, w64, to_z, of_z, ℤ}
use Rattle.std.proofs.lemmas.Int.{to_z-of_z}
use Rattle.farm_history.specs.declared.entry.Entry.{Entry}
use Rattle.farm_history.specs.Desk.{brought_into_range, later_of, stamped_moment}
use Rattle.farm_history.specs.History.{last_moment}
use Rattle.farm_history.proofs.MomentReader.{moment_fits}
use Rattle.journaled_book.proofs.records.Records.entry_of.Goals as goal

pub returns-clause-entry : goal.returns-clause-entry
unfolding stamped_moment
returns-clause-entry g c =
    let last = to_z-of_z w64 c.last_moment.result (moment_fits c.last_moment.result c.last_moment.ensures.within) ∙ c.last_moment.ensures.moment in
    let clock = to_z-of_z w64 c.args.now c.ranges.now in
    let moment = to_z-of_z w64 c.stamped_moment.result (moment_fits c.stamped_moment.result c.stamped_moment.ensures.within)
    ∙ c.stamped_moment.ensures.moment
    ∙ ap (λ (m : ℤ). later_of m (brought_into_range (to_z w64 (of_z w64 c.args.now)))) last
    ∙ ap (λ (m : ℤ). later_of (last_moment c.args.self.now.book.history) (brought_into_range m)) clock in
    let with_moment : ℤ → Entry = λ m. record { caller = c.args.caller; account = c.args.account; key = c.args.key; at = m; cmd = c.args.cmd } in
    ap with_moment moment
