-- A desk on a disk in memory, and what has one, may go to another thread, and may be seen by several.
use denote.RattleType.{RattleType}
use denote.Param.Send.{IsSend, IsSync, sendable, view_send, view_sync}
use denote.Param.SendFields.{declared_send, declared_sync}
use Rattle.std.proofs.Crossing.{crosses}
use Rattle.farm_disk.specs.contracts.mem_disk.MemDisk as MemDisk
use Rattle.farm_disk.specs.contracts.mem_disk.MemDiskDisk.TheImpl.{ghosts}
use Rattle.farm_desk.proofs.Crossing.{desk_send, desk_sync}
use Rattle.desk_access.specs.contracts.sole.SoleAccess as Access
use Rattle.desk_access.specs.contracts.sole.SoleAccess.TheInside.{the_type}

disk_send : IsSend MemDisk.the_row
disk_send = search (sendable, crosses) depth 40

disk_sync : IsSync MemDisk.the_row
disk_sync = search (sendable, crosses) depth 40

-- the access of the only caller of a desk may go to another thread
pub access_send : (LIMIT : RattleType) → IsSend (Access.the_row MemDisk.the_row LIMIT ghosts)
access_send LIMIT =
    view_send _ _ _ _ _ (declared_send (the_type MemDisk.the_row LIMIT ghosts) (desk_send MemDisk.the_row LIMIT ghosts disk_send, (search sendable, (search sendable, tt))))

-- and may be seen by several
pub access_sync : (LIMIT : RattleType) → IsSync (Access.the_row MemDisk.the_row LIMIT ghosts)
access_sync LIMIT =
    view_sync _ _ _ _ _ (declared_sync (the_type MemDisk.the_row LIMIT ghosts) (desk_sync MemDisk.the_row LIMIT ghosts disk_sync, (search sendable, (search sendable, tt))))
