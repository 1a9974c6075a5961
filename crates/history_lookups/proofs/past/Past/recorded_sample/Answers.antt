-- Answers to the open goals of `recorded_sample`.
use Rattle.std.proofs.Common.{rules, ◌≡◌, IsTrue, None, pos, ℤ, sym, subst}
use Rattle.std.specs.Int.{w64}
use Rattle.std.proofs.lemmas.Int.{to_z-of_z}
use Rattle.farm_fixed.specs.Range.{is_within}
use Rattle.farm_fixed.specs.declared.limits.TheConstants.{LEAST_DENSITY, MOST_DENSITY, MOST_SHARE}
use Rattle.farm_history.specs.declared.command.Command.{Command}
use Rattle.farm_history.specs.Fields.{first_bad_field}
use Rattle.history_lookups.proofs.EntriesAt.{entry_in_range}
use Rattle.history_lookups.proofs.Ranges.{sample_within}
use Rattle.history_lookups.proofs.past.Past.recorded_sample.Goals as goal

-- a number that is the same as one of 64 bits is in range with it
number_same : (least most x y : ℤ) → x ≡ y → IsTrue (is_within least most y) → IsTrue (is_within least most x)
number_same least most x y is within = rw is within

pub sample_fields-requires-clause-density : goal.sample_fields-requires-clause-density
sample_fields-requires-clause-density c =
    let s = c.in-Sample in
    let range = entry_in_range c.args.self.now c.args.place c.in_ok-entry.entry.now c.requires.readable (sym c.in_ok-entry.ensures.entry) in
    let none = subst (λ (command : Command). first_bad_field command ≡ None) s.is range.fields in
    number_same LEAST_DENSITY MOST_DENSITY _ s.density (to_z-of_z w64 s.density (search rules)) (sample_within s.tank s.density s.sw none).density_within

pub sample_fields-requires-clause-sw : goal.sample_fields-requires-clause-sw
sample_fields-requires-clause-sw c =
    let s = c.in-Sample in
    let range = entry_in_range c.args.self.now c.args.place c.in_ok-entry.entry.now c.requires.readable (sym c.in_ok-entry.ensures.entry) in
    let none = subst (λ (command : Command). first_bad_field command ≡ None) s.is range.fields in
    number_same (pos 0) MOST_SHARE _ s.sw (to_z-of_z w64 s.sw (search rules)) (sample_within s.tank s.density s.sw none).sw_within
