-- Answers to the open goals of `length_before_blanks`.
use Rattle.std.proofs.Common.{◌≡◌, ◌<◌, ◌+◌, ◌-◌, length, take, get_or, arith, rules, true, false, refl}
use Rattle.std.proofs.lemmas.List.{length-take, take_all, take_more}
use Rattle.farm_base.specs.Bytes.{is_blank}
use Rattle.farm_csv.specs.Blanks.{length_before_blanks}
use Rattle.farm_csv.proofs.Ends.{end_blank, end_other}
use Rattle.farm_csv.proofs.blanks.length_before_blanks.Goals as goal

pub loop-index-init : goal.loop-index-init
loop-index-init c = rw (take_all (length c.args.text.now - 0) c.args.text.now (omega arith)) refl

pub loop-index-preserved : goal.loop-index-preserved
loop-index-preserved c =
    let f = c.args.text.now in
    let k = c.loop-index.index in
    let lt : (length f - k) - 1 < length f = omega (arith, c.loop-index-test.true) in
    let n : length f - k ≡ ((length f - k) - 1) + 1 = omega (arith, c.loop-index-test.true) in
    let m : length f - (k + 1) ≡ (length f - k) - 1 = omega arith in
    let blank : is_blank (get_or f ((length f - k) - 1) 0) ≡ true = search rules in
    let inv = rw (n, take_more f ((length f - k) - 1) 0 lt, end_blank (take ((length f - k) - 1) f) _ blank) at c.loop-index.invariant in
    rw m inv

pub returns-then-not-is_blank-clause-length : goal.returns-then-not-is_blank-clause-length
returns-then-not-is_blank-clause-length c =
    let f = c.args.text.now in
    let k = c.loop-index.index in
    let lt : (length f - k) - 1 < length f = omega (arith, c.loop-index-test.true) in
    let n : length f - k ≡ ((length f - k) - 1) + 1 = omega (arith, c.loop-index-test.true) in
    let other : is_blank (get_or f ((length f - k) - 1) 0) ≡ false = search rules in
    let len = length-take ((length f - k) - 1) f in
    let inv = rw (n, take_more f ((length f - k) - 1) 0 lt, end_other (take ((length f - k) - 1) f) _ other) at c.loop-index.invariant in
    omega (arith, inv)

pub returns-clause-length : goal.returns-clause-length
unfolding length_before_blanks
returns-clause-length c =
    let z : length c.args.text.now - c.loop-index.index ≡ 0 = omega (arith, c.loop-index-test.false) in
    rw z at c.loop-index.invariant
