-- Answers to the open goals of `read`.
use Rattle.farm_vcf.proofs.Texts.{answer_of_text}
use Rattle.farm_vcf.proofs.grid.Vcf.read.Goals as goal

pub returns-clause-meaning : goal.returns-clause-meaning
returns-clause-meaning c = answer_of_text c.args.text.now c.vcf_of.result c.vcf_of.ensures
