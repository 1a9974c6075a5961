use Rattle.std.proofs.Common.{◌≡◌, ℕ, ℤ, pos, ◌%◌, ◌<◌, ◌+ℤ◌, ◌*ℤ◌, ◌≤ℤ◌, unsigned_abs, arith, sym, ◌∙◌, to_z-of_z}
use Rattle.jiff.specs.Words.{epoch_day}
use Rattle.jiff.proofs.Family.{civil_nanos-parts, time_nanos_bound}
use Rattle.jiff_core.proofs.SignedLemmas.{signed_arith, one_part}
use Rattle.calendar_days.proofs.writing.date_of.Goals as goal

-- a whole number of days leaves no time of the day
whole : (days : ℤ) (rest : ℕ) (second : ℤ) → days *ℤ pos 86_400_000_000_000 +ℤ pos rest ≡ second *ℤ pos 1_000_000_000 → rest < 86_400_000_000_000 → pos 0 ≤ℤ second → unsigned_abs second % 86_400 ≡ 0 → days *ℤ pos 86_400 ≡ second
whole days rest second e within from even = omega (arith, signed_arith, one_part second)

pub returns : goal.returns
returns c =
    let instant : c.unwrap-instant.result.nanosecond ≡ c.args.day *ℤ pos 1_000_000_000 = rw (to_z-of_z c.ranges.day) at (rw c.unwrap-instant.ensures at c.from_second.ensures.value) in
    let civil = c.to_datetime.ensures in
    let date = c.date.ensures in
    record { first_second = rw date (whole (epoch_day c.to_datetime.result.date) _ c.args.day (sym (civil_nanos-parts c.to_datetime.result) ∙ civil ∙ omega (arith, signed_arith, instant)) (time_nanos_bound c.to_datetime.result.time) c.requires.first_second.from_1970 c.requires.first_second.of_a_day) }
