-- Answers to the open goals of `desks_and_what_they_answer_may_go_to_another_thread`.
use denote.Exit.{no}
use denote.Param.Send.{arg_send, arg_sync, param_send, param_sync}
use Rattle.test_runs.proofs.Crossing.{small_desk_send, small_desk_sync}
use Rattle.test_runs.proofs.sharing.desks_and_what_they_answer_may_go_to_another_thread.Goals as goal

pub shared-requires-send-T : goal.shared-requires-send-T
shared-requires-send-T c κs = param_send 0 _ (arg_send _ no _ small_desk_send)

pub shared-requires-sync-T : goal.shared-requires-sync-T
shared-requires-sync-T c κs = param_sync 0 _ (arg_sync _ no _ small_desk_sync)
