-- Answers to the open goals of `numeral_of`.
use Rattle.std.proofs.Common.{◌≡◌, ◌<◌, ◌∷◌, length, take, arith, refl, ap, ◌∙◌}
use Rattle.std.proofs.lemmas.List.{length-take-le}
use Rattle.farm_fixed.proofs.DigitRuns.{split_of, bad_without_whole, bad_after_whole, bad_after_point, whole_numeral, decimal_numeral}
use Rattle.farm_fixed.proofs.parsing.numeral_of.Goals as goal

pub returns-then-whole-eq0 : goal.returns-then-whole-eq0
returns-then-whole-eq0 c =
    let text = c.args.text.now in
    let unsigned = c.unsigned_text-unsigned.result.now in
    let run = c.digit_run-whole.result in
    let whole = take run.count unsigned in
    let count : length whole ≡ run.count = length-take-le run.count unsigned c.digit_run-whole.ensures.within in
    bad_without_whole text _ whole _ _ (split_of text unsigned _ run _ c.unsigned_text-unsigned.ensures c.digit_run-whole.ensures refl refl) (omega arith)

pub returns-in_default : goal.returns-in_default
returns-in_default c =
    let text = c.args.text.now in
    let unsigned = c.unsigned_text-unsigned.result.now in
    let run = c.digit_run-whole.result in
    let whole = take run.count unsigned in
    let count : length whole ≡ run.count = length-take-le run.count unsigned c.digit_run-whole.ensures.within in
    whole_numeral text _ whole _ _ _ (split_of text unsigned _ run _ c.unsigned_text-unsigned.ensures c.digit_run-whole.ensures refl refl) (omega arith) c.in_default.ensures.cases refl c.digit_run-whole.ensures.value

pub returns-then-next-ne46 : goal.returns-then-next-ne46
returns-then-next-ne46 c =
    let text = c.args.text.now in
    let unsigned = c.unsigned_text-unsigned.result.now in
    let run = c.digit_run-whole.result in
    let whole = take run.count unsigned in
    let count : length whole ≡ run.count = length-take-le run.count unsigned c.digit_run-whole.ensures.within in
    bad_after_whole text _ whole _ _ _ (split_of text unsigned _ run _ c.unsigned_text-unsigned.ensures c.digit_run-whole.ensures c.in-Some.ensures.cases.0 refl) (omega arith) c.if-next-ne46.true

pub returns-then-fraction-eq0 : goal.returns-then-fraction-eq0
returns-then-fraction-eq0 c =
    let text = c.args.text.now in
    let unsigned = c.unsigned_text-unsigned.result.now in
    let run = c.digit_run-whole.result in
    let whole = take run.count unsigned in
    let count : length whole ≡ run.count = length-take-le run.count unsigned c.digit_run-whole.ensures.within in
    let next : c.in-Some.next.now ∷ c.in-Some.decimals.now ≡ 46 ∷ c.in-Some.decimals.now = ap (λ b. b ∷ c.in-Some.decimals.now) c.if-next-ne46.false in
    let more : 0 < c.digit_run-fraction.result.count → c.digit_run-fraction.result.count < length c.in-Some.decimals.now = λ some. omega (arith, c.then-fraction-eq0.either) in
    bad_after_point text _ whole _ _ _ c.digit_run-fraction.result (split_of text unsigned _ run _ c.unsigned_text-unsigned.ensures c.digit_run-whole.ensures (c.in-Some.ensures.cases.0 ∙ next) refl) (omega arith) c.digit_run-fraction.ensures more

pub returns : goal.returns
returns c =
    let text = c.args.text.now in
    let unsigned = c.unsigned_text-unsigned.result.now in
    let run = c.digit_run-whole.result in
    let whole = take run.count unsigned in
    let count : length whole ≡ run.count = length-take-le run.count unsigned c.digit_run-whole.ensures.within in
    let next : c.in-Some.next.now ∷ c.in-Some.decimals.now ≡ 46 ∷ c.in-Some.decimals.now = ap (λ b. b ∷ c.in-Some.decimals.now) c.if-next-ne46.false in
    let fraction = c.digit_run-fraction.ensures in
    let within = fraction.within in
    decimal_numeral text _ whole _ _ _ c.digit_run-fraction.result _ (split_of text unsigned _ run _ c.unsigned_text-unsigned.ensures c.digit_run-whole.ensures (c.in-Some.ensures.cases.0 ∙ next) refl) (omega arith) (omega arith)
    c.digit_run-whole.ensures.value fraction (omega arith) refl refl
