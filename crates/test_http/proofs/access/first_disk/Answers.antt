-- Answers to the open goals of `first_disk`.
use denote.Exit.{no}
use denote.Param.{number}
use denote.Param.Send.{arg_send, arg_sync, param_send, param_sync}
use Rattle.test_http.proofs.Crossing.{access_send, access_sync}
use Rattle.test_http.proofs.access.first_disk.Goals as goal

pub shared-requires-send-T : goal.shared-requires-send-T
shared-requires-send-T g c κs = param_send 0 _ (arg_send _ no _ (access_send (number 20)))

pub shared-requires-sync-T : goal.shared-requires-sync-T
shared-requires-sync-T g c κs = param_sync 0 _ (arg_sync _ no _ (access_sync (number 20)))
