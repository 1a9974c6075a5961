-- Answers to the open goals of `stock_laws`.
use Rattle.farm_stock.proofs.AddUp.{books_add_up, totals_add_up}
use Rattle.farm_stock.proofs.laws.stock_laws.Goals as goal

pub returns-clause-books_add_up : goal.returns-clause-books_add_up
returns-clause-books_add_up c = books_add_up

pub returns-clause-totals_add_up : goal.returns-clause-totals_add_up
returns-clause-totals_add_up c = totals_add_up
