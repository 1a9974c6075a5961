-- A desk of the tests and its turn may go to another thread, and may be seen by several.
use denote.Param.{number}
use denote.RattleType.{RattleType}
use denote.Ref.{NamedLft}
use denote.Param.Send.{IsSend, IsSync, sendable, view_send}
use denote.Param.SendFields.{declared_send}
use mir.Syntax.{Dict}
use Rattle.std.proofs.Crossing.{crosses}
use Rattle.farm_disk.specs.contracts.mem_disk.MemDisk as MemDisk
use Rattle.farm_disk.specs.contracts.mem_disk.MemDiskDisk.TheImpl as mem_disk
use Rattle.boxed_disk.specs.contracts.boxed.BoxedDisk as BoxedDisk
use Rattle.boxed_disk.specs.contracts.boxed.BoxedDiskDisk.TheImpl as boxed_disk
use Rattle.boxed_disk.proofs.boxed.BoxedDisk.TheSendSync as boxed
use Rattle.desk_turns.specs.contracts.turn_access.TurnAccess as Access
use Rattle.desk_turns.specs.contracts.turn_access.TurnAccess.TheInside.{the_type as access_type}
use Rattle.farm_desk.specs.contracts.desk.Desk as Desk
use Rattle.farm_desk.specs.contracts.found.Found as Found
use Rattle.farm_history.specs.contracts.entry.Entry as Entry
use Rattle.farm_turn.proofs.passes.Pass.TheSendSync as passes
use Rattle.farm_turn.proofs.sharing.Turn.TheSendSync as turns
use Rattle.farm_desk.proofs.Crossing.{desk_send, desk_sync}

disk_send : IsSend MemDisk.the_row
disk_send = search (sendable, crosses) depth 40

disk_sync : IsSync MemDisk.the_row
disk_sync = search (sendable, crosses) depth 40

-- a desk may go to another thread
pub row_desk_send : (dict : Dict) → IsSend (Desk.the_row (BoxedDisk.the_row MemDisk.the_row) (number 20) (boxed_disk.ghosts MemDisk.the_row mem_disk.ghosts dict))
row_desk_send dict =
    desk_send (BoxedDisk.the_row MemDisk.the_row) (number 20) (boxed_disk.ghosts MemDisk.the_row mem_disk.ghosts dict)
    (boxed.the_send MemDisk.the_row disk_send)

-- and may be seen by several
pub row_desk_sync : (dict : Dict) → IsSync (Desk.the_row (BoxedDisk.the_row MemDisk.the_row) (number 20) (boxed_disk.ghosts MemDisk.the_row mem_disk.ghosts dict))
row_desk_sync dict =
    desk_sync (BoxedDisk.the_row MemDisk.the_row) (number 20) (boxed_disk.ghosts MemDisk.the_row mem_disk.ghosts dict)
    (boxed.the_sync MemDisk.the_row disk_sync)

-- what may cross threads beside, as a set for `search`
pub ruleset row_desks = (row_desk_send, row_desk_sync, turns.the_send, turns.the_sync)

-- the access of a caller may go to another thread
pub access_send : (ν : NamedLft) (R : RattleType) → IsSync R → IsSend (Access.the_row ν R MemDisk.the_row (number 20) mem_disk.ghosts)
access_send ν R y =
    view_send _ _ _ _ _ (declared_send (access_type ν R MemDisk.the_row (number 20) mem_disk.ghosts) (
      search (y, sendable) depth 40,
      (
        search (sendable, row_desks) depth 40,
        (
          passes.the_send Entry.the_row
              (Found.the_row (BoxedDisk.the_row MemDisk.the_row) (number 20) (boxed_disk.ghosts MemDisk.the_row mem_disk.ghosts boxed_disk.no_dict)),
          (search sendable, (search sendable, (search sendable, (search sendable, tt)))),
        ),
      ),
    ))
