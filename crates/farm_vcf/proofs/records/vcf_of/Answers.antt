-- Answers to the open goals of `vcf_of`.
use Rattle.farm_vcf.proofs.Fields.{vcf_of_fault, vcf_of_rows}
use Rattle.farm_vcf.proofs.records.vcf_of.Goals as goal

pub returns-in-Ok : goal.returns-in-Ok
returns-in-Ok c =
    rw (vcf_of_rows c.args.text.now c.in-Ok.rows.items c.in-Ok.ensures.rows)
    (rw c.as_slice.ensures.value at c.grid_within_limit.ensures)

pub returns-in-Err : goal.returns-in-Err
returns-in-Err c = rw c.fault_of.ensures (vcf_of_fault c.args.text.now c.in-Err.fault c.in-Err.ensures.rows)
