-- Answers to the open goals of `adjusted_figures`.
use Rattle.std.proofs.Common.{◌≡◌, false, List, ℤ, pos, Ok, rules}
use Rattle.std.specs.Int.RustNames.{int_lt}
use Rattle.farm_fixed.specs.declared.records.Shell.{Shell}
use Rattle.farm_fixed.specs.declared.records.Sample.{Sample}
use Rattle.farm_fixed.specs.declared.records.Quantities.{Quantities}
use Rattle.farm_rounding.specs.Table.{Row}
use Rattle.farm_chain.specs.Steps.{gross_observed, shell_correction}
use Rattle.farm_chain.specs.Volumes.{adjusted_figures, standard_figures}
use Rattle.farm_chain.proofs.volumes.adjusted_figures.Goals as goal

-- what the body computes where nothing is refused
of_accepted : (rounding : List Row) (tov fw : ℤ) (shell : Shell) (liquid ambient fra : ℤ) (sample : Sample) (vcf : ℤ)
    (ctsh gov : ℤ) (figures : Quantities) →
    ctsh ≡ shell_correction rounding shell liquid ambient →
    gov ≡ gross_observed rounding tov fw ctsh fra → int_lt tov fw ≡ false → int_lt gov (pos 0) ≡ false →
    figures ≡ standard_figures rounding tov fw ctsh vcf fra gov sample →
    Ok figures ≡ adjusted_figures rounding tov fw shell liquid ambient fra sample vcf
unfolding adjusted_figures
of_accepted rounding tov fw shell liquid ambient fra sample vcf ctsh gov figures ctsh_is gov_is above some figures_is =
    rw (← ctsh_is, ← gov_is, above, some, ← figures_is)

pub returns-clause-figures : goal.returns-clause-figures
returns-clause-figures c =
    of_accepted c.args.rounding.now c.args.tov c.args.fw c.args.shell.now c.args.liquid c.args.ambient c.args.fra c.args.sample.now c.args.vcf
    c.shell_correction-ctsh.result c.gross_observed-gov.result c.standard_figures.result
    (search rules) (search rules) (search rules) (search rules) (search rules)
