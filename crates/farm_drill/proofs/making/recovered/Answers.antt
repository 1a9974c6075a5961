-- The bytes that are read encode both histories.
use Rattle.std.proofs.Common.{Some, subst}
use Rattle.farm_disk.specs.Memory.{states_of}
use Rattle.farm_disk.specs.Runs.{EachNow}
use Rattle.journaled_book.specs.Histories.{RecoversNow}
use Rattle.farm_drill.proofs.RecoveredBook.{recovered_same}
use Rattle.farm_drill.proofs.making.recovered.Goals as goal

pub returns-in-Ok : goal.returns-in-Ok
returns-in-Ok g c =
    let disk = c.finish-disk.result.0 in
    let left = c.in-Ok.desk.disk in
    let now = subst
    (λ doubt. EachNow (Some (states_of disk.start disk.calls)) (RecoversNow g.row.LIMIT doubt c.args.desk.history))
    ((c.finish-disk.ensures.untouched c.requires.certain).1)
    c.finish-disk.ensures.now in
    record {
      history =
          recovered_same g.row.LIMIT c.args.desk.history c.in-Ok.desk.history disk (states_of left.start left.calls) c.recovery_laws.ensures.one_history now
          c.in-Ok.ensures.wrote_nothing c.in-Ok.ensures.recovered;
    }
