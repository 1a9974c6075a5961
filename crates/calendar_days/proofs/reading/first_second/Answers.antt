use Rattle.std.proofs.Common.{◌≡◌, pos, ◌-ℤ◌, arith}
use Rattle.jiff.specs.Words.{civil_nanos}
use Rattle.jiff_core.proofs.SignedLemmas.{signed_arith, one_part}
use Rattle.calendar_days.proofs.JiffCalendar.{midnight-nanos}
use Rattle.calendar_days.proofs.reading.first_second.Goals as goal

pub unwrap-requires : goal.unwrap-requires
unwrap-requires c =
    let nanos = midnight-nanos c.to_datetime-midnight.result c.args.date c.midnight.result c.to_datetime-midnight.ensures.date c.to_datetime-midnight.ensures.time c.midnight.ensures in
    c.to_timestamp.ensures.succeeds.1 (omega (arith, signed_arith, nanos, c.requires.first_second))

pub returns : goal.returns
returns c =
    let nanos = midnight-nanos c.to_datetime-midnight.result c.args.date c.midnight.result c.to_datetime-midnight.ensures.date c.to_datetime-midnight.ensures.time c.midnight.ensures in
    let instant : c.unwrap.result.nanosecond ≡ civil_nanos c.to_datetime-midnight.result -ℤ pos 0 = rw c.unwrap.ensures at c.to_timestamp.ensures.value in
    let second = c.as_second.ensures in
    record { second = omega (arith, signed_arith, one_part c.unwrap.result.nanosecond, instant, nanos, second, c.requires.first_second) }
