-- Answers to the open goals of `plus`.
use Rattle.std.proofs.Common.{arith}
use Rattle.std.proofs.lemmas.Int.{ints}
use Rattle.farm_stock.proofs.Amounts.{same_amount}
use Rattle.farm_stock.proofs.book.plus.Goals as goal

pub returns : goal.returns
returns c = record { sum = same_amount _ _ (omega (arith, ints)) (omega (arith, ints)) }
