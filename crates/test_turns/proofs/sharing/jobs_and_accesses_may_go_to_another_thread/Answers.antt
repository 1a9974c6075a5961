-- Answers to the open goals of `jobs_and_accesses_may_go_to_another_thread`.
use denote.Exit.{no}
use denote.Param.Send.{arg_send, arg_sync, param_send, param_sync, sendable}
use Rattle.test_turns.proofs.Crossing.{row_desk_send, row_desk_sync, row_desks}
use Rattle.test_turns.proofs.sharing.jobs_and_accesses_may_go_to_another_thread.Goals as goal

pub shared-requires-send-T : goal.shared-requires-send-T
shared-requires-send-T g c κs = param_send 0 _ (arg_send _ no _ (row_desk_send g.bound-1-dict))

pub shared-requires-sync-T : goal.shared-requires-sync-T
shared-requires-sync-T g c κs = param_sync 0 _ (arg_sync _ no _ (row_desk_sync g.bound-1-dict))

pub shared-requires-2-send-T : goal.shared-requires-2-send-T
shared-requires-2-send-T g c κs = search (sendable, row_desks) depth 40

pub shared-requires-2-sync-T : goal.shared-requires-2-sync-T
shared-requires-2-sync-T g c κs = search (sendable, row_desks) depth 40
