-- A desk may go to another thread, and may be seen by several, if its disk may. A type with a snapshot beside other fields owes both by hand.
use denote.RattleType.{RattleType}
use denote.Hole.{as_row}
use denote.Param.Send.{IsSend, IsSync, sendable, view_send, view_sync}
use denote.Param.SendFields.{declared_send, declared_sync}
use Rattle.std.specs.contracts.snapshot.Snapshot as Snapshot
use Rattle.std.proofs.Crossing.{crosses}
use Rattle.farm_disk.specs.declared.disk.Disk as Disk
use Rattle.farm_desk.specs.contracts.desk.Desk as Desk
use Rattle.farm_desk.specs.contracts.desk.Desk.TheInside.{the_type}
use Rattle.farm_desk.specs.contracts.opened.Opened as Opened
use Rattle.journaled_book.proofs.records.Records.TheSendSync as records

opened_send : IsSend (as_row Opened.the_field)
opened_send = search (sendable, crosses) depth 40

opened_sync : IsSync (as_row Opened.the_field)
opened_sync = search (sendable, crosses) depth 40

found_send : (D : RattleType) → IsSend (as_row (Snapshot.the_field D))
found_send D = search (sendable, crosses) depth 40

found_sync : (D : RattleType) → IsSync (as_row (Snapshot.the_field D))
found_sync D = search (sendable, crosses) depth 40

-- it may go to another thread
pub desk_send : (D : RattleType) (LIMIT : RattleType) (g : Disk.Ghosts D.Denot) → IsSend D → IsSend (Desk.the_row D LIMIT g)
desk_send D LIMIT g s =
    view_send _ _ _ _ _ (declared_send (the_type D LIMIT g) (records.the_send D LIMIT s, (opened_send, (search sendable, (found_send D, tt)))))

-- and may be seen by several
pub desk_sync : (D : RattleType) (LIMIT : RattleType) (g : Disk.Ghosts D.Denot) → IsSync D → IsSync (Desk.the_row D LIMIT g)
desk_sync D LIMIT g s =
    view_sync _ _ _ _ _ (declared_sync (the_type D LIMIT g) (records.the_sync D LIMIT s, (opened_sync, (search sendable, (found_sync D, tt)))))
