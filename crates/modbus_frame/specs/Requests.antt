-- Requests for registers. Numbers of two bytes are high byte first.
use Rattle.std.specs.Prelude.{◌≡◌, ◌⊎◌, ℕ, ◌≤◌, List, [], ◌∷◌, ◌++◌}
use Rattle.std.specs.Int.{w16, to_be_bytes}
use Rattle.modbus_frame.specs.declared.expect.Expect.{Expect}
use Rattle.modbus_frame.specs.Limits.{least_quantity, most_quantity, read_holding_registers, read_input_registers}

-- the function reads holding registers or input registers, from 1 to 125 of them
pub record IsExpect (expect : Expect) : Type 0 where
  pub function : (expect.function ≡ read_holding_registers) ⊎ (expect.function ≡ read_input_registers)
  pub least : least_quantity ≤ expect.quantity
  pub most : expect.quantity ≤ most_quantity

-- the header of a frame: the transaction, the protocol 0, the length of what follows, and the unit
abbrev pub header : Expect → ℕ → List ℕ
header expect size = to_be_bytes w16 expect.transaction ++ to_be_bytes w16 0 ++ to_be_bytes w16 size ++ expect.unit ∷ []

-- a request: the header, the function, the first register and how many
unfoldable pub request_frame : Expect → List ℕ
request_frame expect = header expect 6 ++ expect.function ∷ to_be_bytes w16 expect.start ++ to_be_bytes w16 expect.quantity
