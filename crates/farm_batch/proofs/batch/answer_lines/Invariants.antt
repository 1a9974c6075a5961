-- The invariants of the loops of `answer_lines`.
use Rattle.farm_base.specs.Counts.{count_of}
use Rattle.farm_batch.proofs.SoFar.{SoFar}
use Rattle.farm_batch.specs.Desks.{KeepsDesk}
use Rattle.farm_batch.proofs.batch.answer_lines.Given as goal

abbrev pub invariant-loop-number : goal.invariant-loop-number
invariant-loop-number g l =
    SoFar g.D.Disk.faults (g.C.Clock.may_give l.clock) g.row.LIMIT l.fn.desk l.desk (g.S.Port.stream l.fn.input) (g.S.Port.stream l.input)
    (count_of g.S.Port.faults l.fn.input l.input) (g.K.Port.held l.fn.output) (g.K.Port.held l.output) l.waiting (count_of g.K.Port.faults l.fn.output l.output)
    l.reader l.number
    × KeepsDesk g.D.Disk.trace g.D.Disk.moment g.D.Disk.faults g.row.LIMIT l.fn.desk l.desk
