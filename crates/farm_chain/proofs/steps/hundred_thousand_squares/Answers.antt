-- Answers to the open goals of `hundred_thousand_squares`.
use Rattle.std.proofs.Common.{ℤ, pos, ◌*◌, ◌≤ℤ◌, subst, sym, arith}
use Rattle.std.proofs.lemmas.Grind.{common_steps}
use Rattle.farm_chain.proofs.Squares.{square_low, square_high}
use Rattle.farm_chain.proofs.steps.hundred_thousand_squares.Goals as goal

pub returns-clause-value : goal.returns-clause-value
returns-clause-value c = grind (arith, common_steps)

pub returns-clause-low : goal.returns-clause-low
returns-clause-low c =
    let P : ℤ → Type 0 = λ x. pos (7520000000 * 7520000000 * 100000) ≤ℤ x in
    subst P (sym (returns-clause-value c)) (square_low 7520000000 100000 c.args.growth c.requires.low)

pub returns-clause-high : goal.returns-clause-high
returns-clause-high c =
    let P : ℤ → Type 0 = λ x. x ≤ℤ pos (8480000000 * 8480000000 * 100000) in
    subst P (sym (returns-clause-value c)) (square_high 7520000000 8480000000 100000 c.args.growth c.requires.low c.requires.high)
