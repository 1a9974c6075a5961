-- The examples that the Modbus Application Protocol V1.1b3 prints of its functions 3 and 4: the bytes after the header, of any
-- transaction and unit.
use Rattle.std.specs.Prelude.{◌≡◌, ℕ, [], ◌∷◌, ◌++◌}
use Rattle.modbus_frame.specs.declared.expect.Expect.{Expect}
use Rattle.modbus_frame.specs.Requests.{header, request_frame}
use Rattle.modbus_frame.specs.Responses.{words_response}

-- section 6.3: what is read are the holding registers 108 to 110, of which the first has the address 107
abbrev pub three_holding_registers : ℕ → ℕ → Expect
three_holding_registers transaction unit =
    record { transaction = transaction; unit = unit; function = 3; start = 107; quantity = 3 }

-- section 6.4: what is read is the input register 9, which has the address 8
abbrev pub one_input_register : ℕ → ℕ → Expect
one_input_register transaction unit =
    record { transaction = transaction; unit = unit; function = 4; start = 8; quantity = 1 }

-- the frames of these requests, and of their responses with the registers 555, 0 and 100, and with the register 10
pub record ArePublished : Type 0 where
  pub holding_request : (transaction unit : ℕ) → request_frame (three_holding_registers transaction unit) ≡
      header (three_holding_registers transaction unit) 6 ++ 0x03 ∷ 0x00 ∷ 0x6B ∷ 0x00 ∷ 0x03 ∷ []
  pub holding_response : (transaction unit : ℕ) →
      words_response (three_holding_registers transaction unit) (555 ∷ 0 ∷ 100 ∷ []) ≡
      header (three_holding_registers transaction unit) 9 ++ 0x03 ∷ 0x06 ∷ 0x02 ∷ 0x2B ∷ 0x00 ∷ 0x00 ∷ 0x00 ∷ 0x64 ∷ []
  pub input_request : (transaction unit : ℕ) → request_frame (one_input_register transaction unit) ≡
      header (one_input_register transaction unit) 6 ++ 0x04 ∷ 0x00 ∷ 0x08 ∷ 0x00 ∷ 0x01 ∷ []
  pub input_response : (transaction unit : ℕ) → words_response (one_input_register transaction unit) (10 ∷ []) ≡
      header (one_input_register transaction unit) 5 ++ 0x04 ∷ 0x02 ∷ 0x00 ∷ 0x0A ∷ []
