-- Bytes that are put at the end of a buffer.
use Rattle.std.specs.Prelude.{◌≡◌, ℕ, ◌+◌, ◌≤◌, List, ◌++◌, length, vec_capacity, vec_len, Vec}
use Rattle.std.specs.declared.alloc.Global.{Global}

-- a buffer has room for these bytes after those that it holds
pub record HasRoom (out : Vec ℕ Global) (bytes : List ℕ) : Type 0 where
  pub room : vec_len out + length bytes ≤ vec_capacity out

-- these bytes stand after those that the buffer held, in no less room
pub record IsPut (old new : Vec ℕ Global) (bytes : List ℕ) : Type 0 where
  pub items : new.items ≡ old.items ++ bytes
  pub len : vec_len new ≡ vec_len old + length bytes
  pub capacity : vec_capacity old ≤ vec_capacity new
