-- Answers to the open goals of `refusals`.
use Rattle.site_decoding.proofs.BytesRead.{PartsAreRead}
use Rattle.journaled_book.specs.Histories.{IsRecordable}
use Rattle.farm_recovery.proofs.Judging.{of_history}
use Rattle.farm_recovery.proofs.Refusing.{refused_as}
use Rattle.farm_recovery.proofs.recovering.Recovering.refusals.Goals as goal

pub returns : goal.returns
returns g c =
    let all = c.decoding_laws.ensures in
    let laws : PartsAreRead = record { heads = all.heads; products = all.products; parties = all.parties; tanks = all.tanks; lines = all.lines } in
    let limit = g.row.LIMIT in
    record {
      refused = λ bytes fault refusal.
          refused_as laws limit c.args.self.now bytes fault (of_history (IsRecordable limit) c.self.inside.book c.args.self.now c.self.view_is c.self.invariant.1) refusal;
    }
