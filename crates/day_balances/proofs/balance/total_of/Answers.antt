-- Answers to the open goals of `total_of`.
use Rattle.std.proofs.Common.{◌+◌, ◌*◌, get_or, sym, subst, arith}
use Rattle.day_balances.specs.Balances.{IsEachWithin, most_balanced}
use Rattle.day_balances.proofs.Totals.{each_within, each_within_more, none_added, none_within, nothing_left, total_more, zeros}
use Rattle.day_balances.proofs.balance.total_of.Goals as goal

pub loop-balance-init : goal.loop-balance-init
loop-balance-init c = record { total = none_added _; within = none_within 0 }

pub loop-balance-preserved : goal.loop-balance-preserved
loop-balance-preserved c =
    let balances = c.args.balances.now in
    let index = c.loop-balance.balance-index in
    let more = c.loop-balance-test.true in
    let sum = c.plus_each-total.ensures.sum in
    record {
      total = total_more balances index zeros c.loop-balance.total c.plus_each-total.result more sum c.loop-balance.invariant.total;
      within =
          subst (IsEachWithin ((index + 1) * most_balanced)) (sym sum)
          (each_within_more (index * most_balanced + most_balanced) ((index + 1) * most_balanced) _ (omega arith)
          (each_within (index * most_balanced) most_balanced c.loop-balance.total (get_or balances index zeros) c.loop-balance.invariant.within
          (c.requires.bounded index zeros more)));
    }

pub returns : goal.returns
returns c = record { total = nothing_left c.args.balances.now c.loop-balance.balance-index c.loop-balance.total (omega arith) c.loop-balance.invariant.total }
