-- Answers to the open goals of `first_not_below`.
use Rattle.std.proofs.Common.{rules, of_calls}
use Rattle.std.proofs.lemmas.List.Sorted.{IsPartitionPoint-from_clause}
use Rattle.std.specs.Int.RustNames.{int_lt}
use Rattle.farm_vcf.proofs.Searching.{first_from_point, partitioned}
use Rattle.farm_vcf.proofs.closest.first_not_below.Goals as goal

pub returns : goal.returns
returns g c =
    let point = IsPartitionPoint-from_clause (λ other. int_lt other c.args.value) c.args.listed.now c.partition_point.result c.partition_point.ensures.partitioned (partitioned c.args.value c.args.listed.now c.requires.rises) (λ a r q k. search (rules, of_calls)) in
    first_from_point c.args.value c.args.listed.now c.partition_point.result c.partition_point.ensures.bound point
