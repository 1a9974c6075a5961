-- Answers to the open goals of `access_sent`.
use denote.Exit.{no}
use denote.Signature.{named_lft}
use denote.Param.Send.{arg_send, param_send}
use Rattle.test_turns.proofs.Crossing.{access_send}
use Rattle.test_turns.proofs.sharing.access_sent.Goals as goal

pub sent-requires-send-T : goal.sent-requires-send-T
sent-requires-send-T g c κs within = param_send 0 _ (arg_send _ no _ (access_send (named_lft 1 0 tt κs) _ c.type_bounds.sync-R))
