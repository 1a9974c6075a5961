-- The invariants of the loops of `registers`.
use Rattle.std.proofs.Common.{◌≡◌, ◌-◌, ◌++◌, replicate}
use Rattle.modbus_frame.specs.Fields.{words_of}
use Rattle.modbus_frame.proofs.response.registers.Given as goal

abbrev pub invariant-loop-i : goal.invariant-loop-i
invariant-loop-i l = l.words ≡ words_of l.i l.bytes ++ replicate (125 - l.i) 0
