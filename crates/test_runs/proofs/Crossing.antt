-- A desk on a disk in memory may go to another thread, and may be seen by several.
use denote.Param.{number}
use denote.Param.Send.{IsSend, IsSync, sendable}
use Rattle.std.proofs.Crossing.{crosses}
use Rattle.farm_disk.specs.contracts.mem_disk.MemDisk as MemDisk
use Rattle.farm_disk.specs.contracts.mem_disk.MemDiskDisk.TheImpl.{ghosts}
use Rattle.farm_desk.specs.contracts.desk.Desk as Desk
use Rattle.farm_desk.proofs.Crossing.{desk_send, desk_sync}

disk_send : IsSend MemDisk.the_row
disk_send = search (sendable, crosses) depth 40

disk_sync : IsSync MemDisk.the_row
disk_sync = search (sendable, crosses) depth 40

-- it may go to another thread
pub small_desk_send : IsSend (Desk.the_row MemDisk.the_row (number 4) ghosts)
small_desk_send = desk_send MemDisk.the_row (number 4) ghosts disk_send

-- and may be seen by several
pub small_desk_sync : IsSync (Desk.the_row MemDisk.the_row (number 4) ghosts)
small_desk_sync = desk_sync MemDisk.the_row (number 4) ghosts disk_sync
