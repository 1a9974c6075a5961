use Rattle.std.proofs.Common.{◌≡◌, ℕ, pos, ◌*ℤ◌, ◌≤◌, Bool, true, Some, ap, sym, ◌∙◌, arith, w8, w16, to_z, subst}
use Rattle.std.specs.Int.{IsInRange}
use Rattle.std.proofs.lemmas.Bool.Decides.{nat_tests}
use Rattle.std.proofs.lemmas.Int.{to_z_pos}
use Rattle.jiff.specs.Types.{Date as JiffDate}
use Rattle.jiff.specs.Words.{IsYmd, epoch_day}
use Rattle.jiff_core.proofs.SignedLemmas.{signed_arith}
use Rattle.calendar_days.specs.Calendar.{Date, IsFirstSecond, first_second}
use Rattle.calendar_days.specs.DayTexts.{is_year}
use Rattle.calendar_days.proofs.Days.{IsFirstSecond-first_second, first_second-is}
use Rattle.calendar_days.proofs.JiffCalendar.{IsSameDate, made-date}
use Rattle.calendar_days.proofs.Texts.{second_of-IsDate}
use Rattle.calendar_days.proofs.reading.second_of.Goals as goal

year_in : (year : ℕ) (test : Bool) → test ≡ is_year year → test ≡ true → IsInRange 1970 9986 year
year_in year test is e = grind (arith, nat_tests)

-- the date that jiff made is the date of the three numbers
made : (year month day : ℕ) (date : JiffDate) → IsYmd (to_z w16 year) (to_z w8 month) (to_z w8 day) date → year ≤ 9999 → month ≤ 99 → day ≤ 99 → IsInRange 1970 9986 year → IsSameDate date (record { year = year; month = month; day = day })
made year month day date parts y m d years =
    made-date year month day date (parts.0 ∙ to_z_pos w16 year (omega (arith, y)), parts.1 ∙ to_z_pos w8 month (omega (arith, m)), parts.2 ∙ to_z_pos w8 day (omega (arith, d))) years

-- and begins at the same second
begins : (date : JiffDate) (same : Date) → IsSameDate date same → epoch_day date *ℤ pos 86_400 ≡ first_second same
begins date same is = omega (arith, signed_arith, is.number, first_second-is same)

pub first_second-requires : goal.first_second-requires
first_second-requires c =
    let same = made c.args.year c.args.month c.args.day c.in-Ok.date c.in-Ok.ensures.value c.requires.year c.requires.month c.requires.day (year_in c.args.year _ c.is_year.ensures.year c.if-not-is_year.false) in
    record { first_second = subst IsFirstSecond (sym (begins c.in-Ok.date _ same)) (IsFirstSecond-first_second _ same.is_date) }

pub returns-in-Ok : goal.returns-in-Ok
returns-in-Ok c =
    let same = made c.args.year c.args.month c.args.day c.in-Ok.date c.in-Ok.ensures.value c.requires.year c.requires.month c.requires.day (year_in c.args.year _ c.is_year.ensures.year c.if-not-is_year.false) in
    let begin = begins c.in-Ok.date _ same in
    let within = IsFirstSecond-first_second _ same.is_date in
    record { second = second_of-IsDate _ same.is_date ∙ ap Some (omega (arith, signed_arith, begin, within, c.first_second.ensures)) }
