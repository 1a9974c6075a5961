-- The invariants of the loops of `put_rounding`.
use Rattle.std.proofs.Common.{take}
use Rattle.std.specs.List.{flat_map}
use Rattle.site_encoding.specs.Buffers.{IsPut}
use Rattle.site_encoding.specs.Encoding.{row_bytes}
use Rattle.site_encoding.proofs.encoding.heads.put_rounding.Given as goal

-- the rows so far were put
abbrev pub invariant-loop-index : goal.invariant-loop-index
invariant-loop-index l = IsPut l.fn.out l.out (flat_map row_bytes (take l.index l.rounding))
