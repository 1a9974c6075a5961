-- Bytes that come in pieces, one after another.
use Rattle.std.specs.Prelude.{ℕ, ◌+◌, List, [], ◌∷◌, length, take, drop, min, nat_lt, if◌then◌else◌, Vec}
use Rattle.std.specs.declared.alloc.Global.{Global}
use Rattle.farm_base.specs.Known.{Stream}

-- where each piece ends, if the first begins at this offset
abbrev pub ends_from : ℕ → List (Vec ℕ Global) → List ℕ
ends_from offset [] = []
ends_from offset (piece ∷ pieces) = (offset + length piece.items) ∷ ends_from (offset + length piece.items) pieces

-- where the first piece ends that reaches past an offset, or where all bytes end
abbrev pub end_after : ℕ → ℕ → List ℕ → ℕ
end_after offset all [] = all
end_after offset all (end ∷ ends) = if nat_lt offset end then min all end else end_after offset all ends

-- the stream of these bytes, of which those before an offset were taken
abbrev pub at_offset : ℕ → List ℕ → Stream
at_offset offset bytes = record { taken = take offset bytes; left = drop offset bytes }
