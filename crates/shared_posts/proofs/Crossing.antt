-- The caller of a post may go to another thread, with its pass.
use denote.Param.Send.{IsSend}
use denote.RattleType.{RattleType}
use Rattle.boxed_disk.specs.contracts.boxed.BoxedDisk as BoxedDisk
use Rattle.boxed_disk.specs.contracts.boxed.BoxedDiskDisk.TheImpl as boxed_disk
use Rattle.farm_desk.specs.contracts.found.Found as Found
use Rattle.farm_disk.specs.declared.disk.Disk as Disk
use Rattle.farm_history.specs.contracts.entry.Entry as Entry
use Rattle.farm_turn.proofs.passes.Pass.TheSendSync as passes
use Rattle.farm_turn.specs.contracts.passes.Pass as Pass
use Rattle.shared_posts.proofs.post.Caller.TheSendSync as callers
use Rattle.shared_posts.specs.contracts.post.Caller as Caller

-- the caller of a post, and its pass
pub caller_send : (D LIMIT : RattleType) (g : Disk.Ghosts D.Denot) →
    IsSend (Caller.the_row (Pass.the_row Entry.the_row (Found.the_row (BoxedDisk.the_row D) LIMIT (boxed_disk.ghosts D g boxed_disk.no_dict))))
caller_send D LIMIT g =
    let root = Found.the_row (BoxedDisk.the_row D) LIMIT (boxed_disk.ghosts D g boxed_disk.no_dict) in
    callers.the_send (Pass.the_row Entry.the_row root) (passes.the_send Entry.the_row root)
