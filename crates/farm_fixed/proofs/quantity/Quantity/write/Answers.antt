-- Answers to the open goals of `write`.
use Rattle.std.proofs.Common.{rules}
use Rattle.farm_fixed.proofs.RoundTrip.{reads_back}
use Rattle.farm_fixed.proofs.quantity.Quantity.write.Goals as goal

pub returns-in_err-extend_from_slice-clause-back : goal.returns-in_err-extend_from_slice-clause-back
returns-in_err-extend_from_slice-clause-back g c = reads_back g.U.Unit.PLACES g.U.Unit.LEAST g.U.Unit.MOST c.args.self g.U.Unit.small (search rules)

pub returns-clause-back : goal.returns-clause-back
returns-clause-back g c = reads_back g.U.Unit.PLACES g.U.Unit.LEAST g.U.Unit.MOST c.args.self g.U.Unit.small (search rules)
