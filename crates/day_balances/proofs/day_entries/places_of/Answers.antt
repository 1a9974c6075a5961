-- Answers to the open goals of `places_of`.
use Rattle.std.proofs.Common.{rules, of_calls, int_le, int_lt}
use Rattle.std.proofs.lemmas.List.Sorted.{IsPartitionPoint-from_clause}
use Rattle.farm_history.specs.declared.entry.Entry.{Entry}
use Rattle.day_balances.specs.Days.{last_second}
use Rattle.day_balances.proofs.Points.{IsPoint, before_too, count_is, parted_at, points_in_order, through_too}
use Rattle.day_balances.proofs.day_entries.places_of.Goals as goal

pub returns : goal.returns
returns c =
    let entries = c.args.entries.now in
    let day = c.args.day in
    let before = c.partition_point-before.result in
    let through = c.partition_point-through.result in
    let first : IsPoint (λ entry. int_lt entry.at day) entries before =
    IsPartitionPoint-from_clause (λ (entry : Entry). int_lt entry.at day) entries before c.partition_point-before.ensures.partitioned
    (λ i j d order within is. before_too _ _ day (c.requires.in_order i j d order within) is) (λ a r f k. search (rules, of_calls)) in
    let second : IsPoint (λ entry. int_le entry.at (last_second day)) entries through =
    IsPartitionPoint-from_clause (λ (entry : Entry). int_le entry.at (last_second day)) entries through c.partition_point-through.ensures.partitioned
    (λ i j d order within is. through_too _ _ (last_second day) (c.requires.in_order i j d order within) is) (λ a r f k. search (rules, of_calls)) in
    let order = points_in_order day entries before through c.partition_point-before.ensures.bound first second in
    record {
      before = count_is (λ (entry : Entry). int_lt entry.at day) entries before c.partition_point-before.ensures.bound first;
      through = count_is (λ (entry : Entry). int_le entry.at (last_second day)) entries through c.partition_point-through.ensures.bound second;
      order = order;
      within = c.partition_point-through.ensures.bound;
      parted = parted_at day entries before through order c.partition_point-through.ensures.bound first second;
    }
