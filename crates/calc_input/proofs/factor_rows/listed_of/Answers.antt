-- Answers to the open goals of `listed_of`.
use Rattle.std.proofs.Common.{◌≡◌, ℕ, ◌<◌, ◌==◌, ◌∷◌, [], List, length, None, refl, sym, arith}
use Rattle.std.proofs.lemmas.List.Splits.{length-slice_split}
use Rattle.farm_base.specs.Bytes.{parts_at}
use Rattle.calc_input.specs.FactorRows.{listed_in, listed_of}
use Rattle.calc_input.proofs.factor_rows.listed_of.Goals as goal

-- four fields or more are no row
too_many : (density temperature factor : List ℕ) (others : List (List ℕ)) → 0 < length others → listed_in (density ∷ temperature ∷ factor ∷ others) ≡ None
too_many density temperature factor [] some = absurd (omega arith)
too_many density temperature factor (other ∷ others) some = refl

pub returns-in-Some : goal.returns-in-Some
unfolding listed_of
returns-in-Some c =
    let rest = c.in-Some.field-0.1.now in
    sym (rw (c.in_ok-density.ensures.parts, c.in_ok-temperature.ensures.parts, c.in-Some.ensures.parts)
    (too_many _ _ _ (parts_at 44 rest) (omega (arith, length-slice_split (λ byte. byte == 44) rest))))
