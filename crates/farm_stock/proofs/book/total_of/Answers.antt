-- Answers to the open goals of `total_of`.
use Rattle.std.proofs.Common.{ap}
use Rattle.farm_stock.proofs.Amounts.{total_more, within_more}
use Rattle.farm_stock.proofs.book.total_of.Goals as goal

pub loop-book-preserved : goal.loop-book-preserved
loop-book-preserved c =
    let sum = c.plus-total.ensures.sum in
    let more = c.loop-book-test.true in
    record {
      total = total_more c.args.books.now c.loop-book.book-index _ c.loop-book.total c.plus-total.result more sum c.loop-book.invariant.total;
      litres = within_more (λ amount. amount.litres) c.args.books.now c.loop-book.book-index _ c.loop-book.total.litres c.plus-total.result.litres more
          (ap (λ amount. amount.litres) sum) c.loop-book.invariant.litres;
      kg = within_more (λ amount. amount.kg) c.args.books.now c.loop-book.book-index _ c.loop-book.total.kg c.plus-total.result.kg more
          (ap (λ amount. amount.kg) sum) c.loop-book.invariant.kg;
    }
