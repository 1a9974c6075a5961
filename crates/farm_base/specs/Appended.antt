-- Calls that append to a buffer.
use Rattle.std.specs.Prelude.{◌≡◌, ℕ, List, ◌++◌, Result, OnOk, OnErr}

-- the text was appended, or the call failed and the buffer is as before
pub record Appends {T E : Type 0} (old new text : List ℕ) (result : Result T E) : Type 0 where
  pub ok : OnOk result (new ≡ old ++ text)
  pub err : OnErr result (new ≡ old)
