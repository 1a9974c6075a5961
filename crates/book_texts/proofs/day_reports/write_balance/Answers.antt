-- Answers to the open goals of `write_balance`.
use Rattle.std.proofs.Common.{◌++◌, codes}
use Rattle.book_texts.specs.DayReports.{amount_line, balance_lines}
use Rattle.book_texts.proofs.Appending.{last_more, one_more}
use Rattle.book_texts.proofs.day_reports.write_balance.Goals as goal

pub returns : goal.returns
unfolding balance_lines
returns c =
    let old = c.args.out.now.items in
    let balance = c.args.balance.now in
    let opening = amount_line (codes "opening ") balance.opening in
    let receipts = amount_line (codes "receipts ") balance.receipts in
    let deliveries = amount_line (codes "deliveries ") balance.deliveries in
    let transfers = amount_line (codes "transfers ") balance.transfers in
    let gains = amount_line (codes "gains ") balance.gains in
    let closing = amount_line (codes "closing ") balance.closing in
    let two = one_more old c.write_amount.new.out.items c.write_amount-2.new.out.items opening receipts
    c.in_ok-write_amount.ensures.line.ok c.in_ok-write_amount-2.ensures.line.ok in
    let three = one_more old c.write_amount-2.new.out.items c.write_amount-3.new.out.items (opening ++ receipts) deliveries two c.in_ok-write_amount-3.ensures.line.ok in
    let four = one_more old c.write_amount-3.new.out.items c.write_amount-4.new.out.items (opening ++ receipts ++ deliveries) transfers three
    c.in_ok-write_amount-4.ensures.line.ok in
    let five = one_more old c.write_amount-4.new.out.items c.write_amount-5.new.out.items (opening ++ receipts ++ deliveries ++ transfers) gains four
    c.in_ok-write_amount-5.ensures.line.ok in
    record {
      lines =
          last_more old c.write_amount-5.new.out.items c.write_amount-6.new.out.items (opening ++ receipts ++ deliveries ++ transfers ++ gains) closing
          c.write_amount-6.result five c.write_amount-6.ensures.line;
    }
