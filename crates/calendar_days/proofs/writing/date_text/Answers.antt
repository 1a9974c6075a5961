use Rattle.std.proofs.Common.{arith}
use Rattle.calendar_days.specs.DayTexts.{date_text}
use Rattle.calendar_days.proofs.Texts.{ten-same}
use Rattle.calendar_days.proofs.writing.date_text.Goals as goal
use Rattle.std.proofs.Common.{refl}

pub returns : goal.returns
unfolding date_text
returns c =
    record {
      text = ten-same _ _ _ _ _ _ _ _ _ _ c.digit.result c.digit-2.result c.digit-3.result c.digit-4.result 45 c.digit-5.result c.digit-6.result 45 c.digit-7.result c.digit-8.result
          (omega (arith, c.digit.ensures.digit)) (omega (arith, c.digit-2.ensures.digit)) (omega (arith, c.digit-3.ensures.digit)) (omega (arith, c.digit-4.ensures.digit)) refl
          (omega (arith, c.digit-5.ensures.digit)) (omega (arith, c.digit-6.ensures.digit)) refl (omega (arith, c.digit-7.ensures.digit)) (omega (arith, c.digit-8.ensures.digit));
    }
