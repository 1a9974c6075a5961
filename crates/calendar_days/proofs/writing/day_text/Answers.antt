use Rattle.std.proofs.Common.{◌≡◌, ℤ, pos, refl, rules, ◌≤ℤ◌, ◌/◌, ◌≤◌, ◌*ℤ◌, unsigned_abs, arith, ap, ◌∙◌, to_z-of_z, w16, to_z, of_z}
use Rattle.jiff.specs.Types.{Date as JiffDate}
use Rattle.jiff.specs.Words.{epoch_day}
use Rattle.jiff_core.proofs.SignedLemmas.{signed_arith, back_small}
use Rattle.calendar_days.specs.Calendar.{IsFirstSecond, date_of}
use Rattle.calendar_days.specs.DayTexts.{date_text, day_text}
use Rattle.calendar_days.proofs.Days.{date_of-IsDate, jiff_date-is}
use Rattle.calendar_days.proofs.JiffCalendar.{same_date}
use Rattle.calendar_days.proofs.Texts.{IsDayText-day_of, has_text}
use Rattle.calendar_days.proofs.writing.day_text.Goals as goal

-- the year as it is cast
pub record IsYear (year : ℤ) : Type 0 where
  pub back : to_z w16 (of_z w16 year) ≡ year
  pub low : pos 0 ≤ℤ year
  pub high : unsigned_abs year ≤ 9986

year-is : (made plain : JiffDate) (second : ℤ) → IsFirstSecond second → epoch_day made *ℤ pos 86_400 ≡ second → plain ≡ made → IsYear plain.year
year-is made plain second is e same =
    let parts = jiff_date-is made second is e in
    let year : plain.year ≡ pos (date_of (unsigned_abs second / 86_400)).year = ap (λ (date : JiffDate). date.year) same ∙ parts.0 in
    let last = (date_of-IsDate second is).year_in.1 in
    let high : unsigned_abs plain.year ≤ 9986 = rw year last in
    record { back = back_small w16 plain.year (omega (arith, high)); low = rw year (search rules); high = high }

text-is : (made plain : JiffDate) (second : ℤ) → IsFirstSecond second → epoch_day made *ℤ pos 86_400 ≡ second → plain ≡ made → date_text (record { year = unsigned_abs (to_z w16 (of_z w16 plain.year)); month = plain.month; day = plain.day }) ≡ day_text second
unfolding day_text
text-is made plain second is e same =
    let parts = jiff_date-is made second is e in
    let year = ap (λ (date : JiffDate). date.year) same ∙ parts.0 in
    let month = ap (λ (date : JiffDate). pos date.month) same ∙ parts.1 in
    let day = ap (λ (date : JiffDate). pos date.day) same ∙ parts.2 in
    let back = (year-is made plain second is e same).back in
    ap date_text (same_date _ _ (rw (back, year) refl) (omega (arith, signed_arith, month)) (omega (arith, signed_arith, day)))

pub overflow_cast-date : goal.overflow_cast-date
overflow_cast-date c =
    let year = year-is c.date_of.result c.to_plain-date.result c.args.day c.requires.first_second (c.date_of.ensures.first_second ∙ to_z-of_z c.ranges.day) c.to_plain-date.ensures in
    rw year.back (omega (arith, signed_arith, year.low), omega (arith, year.high))

pub returns-clause-text : goal.returns-clause-text
returns-clause-text c =
    c.date_text.ensures.text ∙ text-is c.date_of.result c.to_plain-date.result c.args.day c.requires.first_second (c.date_of.ensures.first_second ∙ to_z-of_z c.ranges.day) c.to_plain-date.ensures

pub returns-clause-written : goal.returns-clause-written
returns-clause-written c =
    let text = c.date_text.ensures.text ∙ text-is c.date_of.result c.to_plain-date.result c.args.day c.requires.first_second (c.date_of.ensures.first_second ∙ to_z-of_z c.ranges.day) c.to_plain-date.ensures in
    rw text (has_text c.args.day c.requires.first_second)

pub returns-clause-back : goal.returns-clause-back
returns-clause-back c =
    let text = c.date_text.ensures.text ∙ text-is c.date_of.result c.to_plain-date.result c.args.day c.requires.first_second (c.date_of.ensures.first_second ∙ to_z-of_z c.ranges.day) c.to_plain-date.ensures in
    rw text (IsDayText-day_of _ _ (has_text c.args.day c.requires.first_second))
