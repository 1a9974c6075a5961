-- What is left to say once the first fields of a response agree.
use Rattle.std.specs.Prelude.{◌≡◌, ℕ, ◌==◌, ◌≤◌, false, not, List, length, Option}
use Rattle.farm_base.specs.Steps.{or_else}
use Rattle.modbus_frame.specs.declared.expect.Expect.{Expect}
use Rattle.modbus_frame.specs.declared.frame.Frame.{Frame}
use Rattle.modbus_frame.specs.Frames.{length_given}
use Rattle.modbus_frame.specs.Fields.{byte_at, is_wrong_count, is_wrong_function, is_wrong_length, right_frame, wrong_or, wrong_where}

-- bytes give a length, and it is one that a response has
pub record GivesLength (expect : Expect) (bytes : List ℕ) (size : ℕ) : Type 0 where
  pub there : 6 ≤ length bytes
  pub given : size ≡ length_given bytes
  pub due : is_wrong_length expect size ≡ false

-- the byte count disagrees
abbrev pub wrong_at_count : Expect → List ℕ → Option ℕ
wrong_at_count expect bytes = wrong_where 6 9 bytes (is_wrong_count expect (byte_at 7 bytes) (byte_at 8 bytes))

-- the first field from the unit on that disagrees
abbrev pub wrong_from_unit : Expect → List ℕ → Option ℕ
wrong_from_unit expect bytes =
    or_else (wrong_where 4 7 bytes (not (byte_at 6 bytes == expect.unit)))
    (or_else (wrong_where 5 8 bytes (is_wrong_function expect (length_given bytes) (byte_at 7 bytes)))
    (wrong_at_count expect bytes))

-- what bytes are of which the fields up to the length agree
abbrev pub answer_from_unit : Expect → List ℕ → Frame
answer_from_unit expect bytes = wrong_or (wrong_from_unit expect bytes) (right_frame expect bytes)

-- what bytes are of which the fields up to the function agree
abbrev pub answer_at_count : Expect → List ℕ → Frame
answer_at_count expect bytes = wrong_or (wrong_at_count expect bytes) (right_frame expect bytes)
