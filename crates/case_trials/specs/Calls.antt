-- What links took, as numbers alone.
use Rattle.std.specs.Prelude.{ℕ, List, [], ◌∷◌, map}
use Rattle.std.specs.declared.vec.Vec.{Vec}
use Rattle.std.specs.declared.alloc.Global.{Global}
use Rattle.case_files.specs.declared.call.Call.{Call}

-- a call: the number of its kind, and what it moved, which is the bytes of a send and the number of bytes of a receive
abbrev pub told : Call → ℕ × List ℕ
told Call.Connect = (0, [])
told Call.ConnectFailed = (1, [])
told (Call.Send bytes) = (2, bytes.items)
told Call.SendFailed = (3, [])
told (Call.Receive count) = (4, count ∷ [])
told Call.ReceiveFailed = (5, [])
told Call.Pause = (6, [])

-- the calls of a link, in order
abbrev pub taken : Vec Call Global → List (ℕ × List ℕ)
taken calls = map told calls.items
