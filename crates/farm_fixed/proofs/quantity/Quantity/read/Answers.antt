-- Answers to the open goals of `read`.
use Rattle.std.proofs.Common.{sym, ◌∙◌}
use Rattle.farm_fixed.proofs.ParsingLaws.{quantity_of-empty, quantity_of-bad, quantity_of-number, empty_length, some_length, right_answer_for}
use Rattle.farm_fixed.proofs.quantity.Quantity.read.Goals as goal

pub returns-then-is_empty-clause-quantity : goal.returns-then-is_empty-clause-quantity
returns-then-is_empty-clause-quantity g c = sym (quantity_of-empty g.U.Unit.PLACES g.U.Unit.LEAST g.U.Unit.MOST c.args.text.now (empty_length c.args.text.now c.is_empty.result c.is_empty.ensures c.if-is_empty.true))

pub returns-in-Err-clause-quantity : goal.returns-in-Err-clause-quantity
returns-in-Err-clause-quantity g c = sym (quantity_of-bad g.U.Unit.PLACES g.U.Unit.LEAST g.U.Unit.MOST c.args.text.now c.in-Err.offset (some_length c.args.text.now c.is_empty.result c.is_empty.ensures c.if-is_empty.false) c.in-Err.ensures)

pub returns-in-Err-clause-meaning : goal.returns-in-Err-clause-meaning
returns-in-Err-clause-meaning g c = right_answer_for g.U.Unit.PLACES g.U.Unit.LEAST g.U.Unit.MOST c.args.text.now _ (returns-in-Err-clause-quantity g c)

pub returns-in-Ok-clause-quantity : goal.returns-in-Ok-clause-quantity
returns-in-Ok-clause-quantity g c = c.from_numeral.ensures ∙ sym (quantity_of-number g.U.Unit.PLACES g.U.Unit.LEAST g.U.Unit.MOST c.args.text.now (some_length c.args.text.now c.is_empty.result c.is_empty.ensures c.if-is_empty.false) c.in-Ok.ensures.good)

pub returns-in-Ok-clause-meaning : goal.returns-in-Ok-clause-meaning
returns-in-Ok-clause-meaning g c = right_answer_for g.U.Unit.PLACES g.U.Unit.LEAST g.U.Unit.MOST c.args.text.now _ (returns-in-Ok-clause-quantity g c)
