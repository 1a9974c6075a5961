-- Answers to the open goals of `digit_run`.
use Rattle.std.proofs.Common.{◌≡◌, ◌+◌, ◌*◌, ◌^◌, min, ◌∷◌, [], ◌++◌, take, get_or, arith, sym, ◌∙◌}
use Rattle.std.proofs.lemmas.List.{take_more}
use Rattle.std.proofs.lemmas.Str.{digit_value_digit}
use Rattle.std.specs.Char.{IsAsciiDigit, digit_value}
use Rattle.farm_fixed.proofs.TextLaws.{from_test}
use Rattle.farm_fixed.proofs.DigitRuns.{one_more_digit, one_more_value}
use Rattle.farm_fixed.proofs.parsing.digit_run.Goals as goal

pub loop-count-preserved : goal.loop-count-preserved
loop-count-preserved c =
    let text = c.args.text.now in
    let count = c.loop-count.count in
    let d = get_or text count 0 in
    let kept = c.loop-count.invariant in
    let more : take (count + 1) text ≡ take count text ++ d ∷ [] = take_more text count 0 (omega arith) in
    let digit : IsAsciiDigit d = from_test d (sym c.is_ascii_digit.ensures.value ∙ c.if-not-is_ascii_digit.false) in
    let value : digit_value d + 48 ≡ d = digit_value_digit d digit in
    record {
      small = omega arith;
      digits = rw more (one_more_digit (take count text) d kept.digits digit);
      same = rw more (let now : c.min-value.result ≡ min (c.loop-count.value * 10 + digit_value d) (10 ^ 18) = omega arith in now ∙ one_more_value (10 ^ 18) c.args.before c.loop-count.value (take count text) d kept.same);
    }
