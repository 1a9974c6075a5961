-- Answers to the open goals of `failed`.
use Rattle.std.proofs.Common.{refl, subst}
use Rattle.farm_desk.specs.States.{IsDurable}
use Rattle.farm_desk.proofs.Durable.{durable}
use Rattle.farm_desk.proofs.desk.Desk.failed.Goals as goal

pub returns-clause-durable : goal.returns-clause-durable
returns-clause-durable g c =
    subst (λ desk. IsDurable g.D.Disk.trace g.D.Disk.moment g.D.Disk.faults g.row.LIMIT desk) c.self.view_is
    (durable g.D.Disk.trace g.D.Disk.moment g.D.Disk.faults g.row.LIMIT _ c.self.inside.records.journal refl c.self.invariant)
