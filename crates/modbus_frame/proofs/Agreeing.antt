-- A good response that agrees with bytes up to a field.
use Rattle.std.proofs.Common.{◌≡◌, ℕ, ◌+◌, ◌*◌, ◌^◌, ◌<◌, ◌≤◌, ◌≢◌, false, List, [], length, take, replicate, refl, ap, ◌∙◌, arith, inl, inr, lit<, lit≤}
use Rattle.std.specs.Int.{w16, to_be_bytes}
use Rattle.std.specs.List.{flat_map}
use Rattle.std.proofs.lemmas.Bool.Decides.{eqb_tells}
use Rattle.std.proofs.lemmas.List.{length-replicate}
use Rattle.std.proofs.lemmas.List.Elements.{All-replicate}
use Rattle.modbus_frame.specs.declared.expect.Expect.{Expect}
use Rattle.modbus_frame.specs.Frames.{Agrees, field_end, length_given}
use Rattle.modbus_frame.specs.Fields.{byte_at, number_at}
use Rattle.modbus_frame.specs.Requests.{IsExpect}
use Rattle.modbus_frame.specs.Responses.{exception_response, words_response}
use Rattle.modbus_frame.proofs.Fields.{disagrees, ends-before}
use Rattle.modbus_frame.proofs.FirstWrong.{AgreeFrom}
use Rattle.modbus_frame.proofs.Fronts.{AreBytes, HasFields, same-front}
use Rattle.modbus_frame.proofs.Shapes.{exception_response-is, words_response-is}
use Rattle.modbus_frame.proofs.Due.{count_agrees, function_agrees, length_agrees, number_agrees}

-- the fields up to one agree
abbrev pub AgreeTo : Expect → List ℕ → ℕ → Type 0
AgreeTo expect bytes field = (earlier : ℕ) → 1 ≤ earlier → earlier ≤ field → disagrees earlier expect bytes ≡ false

-- the fields of bytes that give the length of an exception
pub exception-fields : (expect : Expect) (bytes : List ℕ) (field : ℕ) → IsExpect expect → length_given bytes ≡ 3 → AgreeTo expect bytes field →
    HasFields expect bytes 3 (expect.function + 128) (byte_at 8 bytes) field
exception-fields expect bytes field asked is agree = record {
  transaction_is = λ h. number_agrees (number_at 0 bytes) expect.transaction (agree 1 (lit≤ tt) h);
  protocol_is = λ h. number_agrees (number_at 2 bytes) 0 (agree 2 (lit≤ tt) h);
  length_is = λ h. is;
  unit_is = λ h. number_agrees (byte_at 6 bytes) expect.unit (agree 4 (lit≤ tt) h);
  function_is = λ h. elim (function_agrees expect (number_at 4 bytes) (byte_at 7 bytes) (agree 5 (lit≤ tt) h)) [
    | inl words ↦ absurd (omega arith)
    | inr exception ↦ exception.0
  ];
  ninth_is = λ h. refl;
}

-- the fields of bytes that give another length
pub words-fields : (expect : Expect) (bytes : List ℕ) (field : ℕ) → IsExpect expect → length_given bytes ≢ 3 → AgreeTo expect bytes field →
    HasFields expect bytes (3 + 2 * expect.quantity) expect.function (2 * expect.quantity) field
words-fields expect bytes field asked isnt agree =
    let function : 5 ≤ field → byte_at 7 bytes ≡ expect.function = λ h.
    elim (function_agrees expect (number_at 4 bytes) (byte_at 7 bytes) (agree 5 (lit≤ tt) h)) [
      | inl words ↦ words.0
      | inr exception ↦ absurd (isnt exception.1)
    ] in
    record {
      transaction_is = λ h. number_agrees (number_at 0 bytes) expect.transaction (agree 1 (lit≤ tt) h);
      protocol_is = λ h. number_agrees (number_at 2 bytes) 0 (agree 2 (lit≤ tt) h);
      length_is = λ h. elim (length_agrees expect (number_at 4 bytes) (agree 3 (lit≤ tt) h)) [
        | inl exception ↦ absurd (isnt exception)
        | inr words ↦ words
      ];
      unit_is = λ h. number_agrees (byte_at 6 bytes) expect.unit (agree 4 (lit≤ tt) h);
      function_is = function;
      ninth_is = λ h. count_agrees expect (byte_at 7 bytes) (byte_at 8 bytes) (agree 6 (lit≤ tt) h) (function (omega arith));
    }

-- the whole fields up to one agree, which is whole, so those before it are whole and agree
pub agree-to : (expect : Expect) (bytes : List ℕ) (field : ℕ) → field ≤ 6 → field_end field ≤ length bytes → AgreeFrom expect bytes 1 field → AgreeTo expect bytes field
agree-to expect bytes field last whole agree earlier low high = agree earlier low high (omega (arith, ends-before earlier field high, whole))

-- where all fields up to one agree, there is a good response that agrees
pub right-agrees : (expect : Expect) (bytes : List ℕ) (field : ℕ) → IsExpect expect → AreBytes bytes → field ≤ 6 → field_end field ≤ length bytes →
    AgreeFrom expect bytes 1 field → Agrees expect bytes field
right-agrees expect bytes field asked small last whole agree =
    let all = agree-to expect bytes field last whole agree in
    elim (eqb_tells (length_given bytes) 3) [
      | inl exception ↦ record {
        response = exception_response expect (byte_at 8 bytes);
        good = inr (record { code = byte_at 8 bytes; byte = small.at 8; is = refl });
        same = ap (take (field_end field)) (exception_response-is expect (byte_at 8 bytes))
            ∙ same-front expect bytes 3 (expect.function + 128) (byte_at 8 bytes) [] field small last whole (exception-fields expect bytes field asked exception.1 all);
      }
      | inr words ↦
          let zeros : List ℕ = replicate expect.quantity 0 in
          record {
            response = words_response expect zeros;
            good = inl (record {
              words = zeros;
              count = length-replicate expect.quantity 0;
              registers = All-replicate (λ word. word < 2 ^ 16) expect.quantity 0 (lit< tt);
              is = refl;
            });
            same = ap (take (field_end field)) (words_response-is expect zeros)
                ∙ same-front expect bytes (3 + 2 * expect.quantity) expect.function (2 * expect.quantity) (flat_map (to_be_bytes w16) zeros) field small last whole
                (words-fields expect bytes field asked words.1 all);
          }
    ]
